use Rattle.std.proofs.Common.{◌≡◌, drop}
use Rattle.dj_tokens.specs.Literals.{number_behind, number_of}
use Rattle.dj_tokens.proofs.literals.number_of.Given as goal

abbrev pub invariant-loop-digit : goal.invariant-loop-digit
invariant-loop-digit l = number_behind l.number (drop l.digit-index l.digits) ≡ number_of l.digits
