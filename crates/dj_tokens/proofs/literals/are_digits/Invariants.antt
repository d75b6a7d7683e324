use Rattle.std.proofs.Common.{◌≡◌, drop}
use Rattle.dj_tokens.specs.Literals.{are_digits}
use Rattle.dj_tokens.proofs.literals.are_digits.Given as goal

abbrev pub invariant-loop-digit : goal.invariant-loop-digit
invariant-loop-digit l = are_digits (drop l.digit-index l.word) ≡ are_digits l.word
