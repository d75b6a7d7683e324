-- What operators of one operand do with its value (JLS 15.15).
use Rattle.std.specs.Prelude.{not}
use Rattle.std.specs.Int.{w32, w64, int_wrapping_neg}
use Rattle.dj_values.specs.Values.{Value, Int, Long, Null, Ref}
use Rattle.dj_values.specs.Outcomes.{Stuck, Reply, Gives, Halts}
use Rattle.dj_meaning.specs.Operators.{truth, with_truth}

-- a number with its sign changed (15.15.4)
abbrev pub negated : Value → Reply Value
negated (Int amount) = Gives (Int (int_wrapping_neg w32 amount))
negated (Long amount) = Gives (Long (int_wrapping_neg w64 amount))
negated Null = Halts Stuck
negated (Ref reference) = Halts Stuck

-- the other boolean (15.15.6)
abbrev pub inverted : Value → Reply Value
inverted value = with_truth value (λ answer. Gives (truth (not answer)))
