use Rattle.std.proofs.Common.{◌≡◌, drop}
use Rattle.dj_pending.proofs.BirthLemmas.{birth_in}
use Rattle.dj_pending.proofs.stack.Stack.has_birth.Given as goal

abbrev pub invariant-loop-entry : goal.invariant-loop-entry
invariant-loop-entry l = birth_in (drop l.entry-index l.self.entries.items) ≡ birth_in l.self.entries.items
