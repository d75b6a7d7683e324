use Rattle.std.proofs.Common.{ℕ, take}
use Rattle.std.specs.BTreeMap.{get}
use Rattle.dj_signatures.specs.Standing.{pair_cmp, Leads}
use Rattle.dj_signatures.proofs.standing.leaders_of.Given as goal

abbrev pub invariant-loop-at : goal.invariant-loop-at
invariant-loop-at l = (pair : ℕ × ℕ) → Leads (take l.at l.keys) pair (get pair_cmp l.leaders pair)
