use Rattle.std.proofs.Common.{◌≡◌, drop}
use Rattle.dj_tokens.proofs.words.Reader.skip.Given as goal

abbrev pub invariant-loop : goal.invariant-loop
invariant-loop l = l.self ≡ drop l.counter l.fn.self
