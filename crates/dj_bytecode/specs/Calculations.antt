-- Arithmetic on ints and longs, conversions and comparisons (JVMS 2.11.3, 2.11.4, 2.11.7, 6.5).
use Rattle.std.specs.Prelude.{ℤ, pos, negsuc, ℕ, ◌/◌, ◌^◌, ◌-ℤ◌, Bool, not, int_lt, int_le, int_rem, unsigned_abs, List, [], ◌∷◌, Option, Some, None, slice_get, if◌then◌else◌, codes}
use Rattle.std.specs.Ordering.{int_eq}
use Rattle.std.specs.Int.{Width, w64, cast_signed, cast_unsigned, int_rem_euclid, int_wrapping_add, int_wrapping_sub, int_wrapping_mul, int_wrapping_div, int_bit_and, int_bit_or, int_bit_xor, int_shl, int_shr}
use mir.Val.{bits}
use Rattle.dj_values.specs.Values.{Value, Int, Long}
use Rattle.dj_values.specs.Outcomes.{Stuck, Reply, Gives, Halts, then_on, trap}
use Rattle.dj_instructions.specs.declared.kinds.Calc.{Calc}
use Rattle.dj_instructions.specs.declared.kinds.Calc.TheVariants as calc
use Rattle.dj_instructions.specs.declared.kinds.Test.{Test}
use Rattle.dj_instructions.specs.declared.kinds.Test.TheVariants as test
use Rattle.dj_bytecode.specs.Operands.{with_one, with_two, with_int, with_long}

-- a quotient or a remainder; a divisor of 0 traps (JVMS 6.5, `idiv`, `irem`, `ldiv`, `lrem`)
abbrev pub divided : (ℤ → ℤ → ℤ) → ℤ → ℤ → Reply ℤ
divided operation left right = if int_eq right (pos 0) then trap (codes "java/lang/ArithmeticException") else Gives (operation left right)

-- how far to shift: the low five bits of the distance for an int, the low six for a long (JVMS 6.5, `ishl`, `lshl`)
abbrev pub distance : Width → ℤ → ℕ
distance width number = unsigned_abs (int_rem_euclid number (pos (bits width)))

-- a number of so many bits shifted right, with zeros coming in (JVMS 6.5, `iushr`, `lushr`)
abbrev pub shifted_right : Width → ℤ → ℕ → ℤ
shifted_right width number places = cast_signed width (cast_unsigned width number / 2 ^ places)

-- what an operation makes of two numbers of so many bits; a negation has one operand, and isn't among these
abbrev pub calculated : Width → Calc → ℤ → ℤ → Reply ℤ
calculated width calc.Add left right = Gives (int_wrapping_add width left right)
calculated width calc.Sub left right = Gives (int_wrapping_sub width left right)
calculated width calc.Mul left right = Gives (int_wrapping_mul width left right)
calculated width calc.Div left right = divided (int_wrapping_div width) left right
calculated width calc.Rem left right = divided int_rem left right
calculated width calc.Neg left right = Halts Stuck
calculated width calc.Shl left right = Gives (int_shl width left (distance width right))
calculated width calc.Shr left right = Gives (int_shr left (distance width right))
calculated width calc.Ushr left right = Gives (shifted_right width left (distance width right))
calculated width calc.And left right = Gives (int_bit_and width left right)
calculated width calc.Or left right = Gives (int_bit_or width left right)
calculated width calc.Xor left right = Gives (int_bit_xor width left right)

-- ---- on operands

-- an operation on an int
abbrev pub on_int : (ℤ → Reply Value) → List Value → Reply (Option Value)
on_int operation operands = with_one operands (λ value. with_int value (λ number. then_on (operation number) (λ result. Gives (Some result))))

-- an operation on a long
abbrev pub on_long : (ℤ → Reply Value) → List Value → Reply (Option Value)
on_long operation operands = with_one operands (λ value. with_long value (λ number. then_on (operation number) (λ result. Gives (Some result))))

-- an operation on two ints
abbrev pub on_ints : (ℤ → ℤ → Reply ℤ) → List Value → Reply (Option Value)
on_ints operation operands =
    with_two operands (λ first second. with_int first (λ left. with_int second (λ right. then_on (operation left right) (λ number. Gives (Some (Int number))))))

-- an operation on two longs
abbrev pub on_longs : (ℤ → ℤ → Reply Value) → List Value → Reply (Option Value)
on_longs operation operands =
    with_two operands (λ first second. with_long first (λ left. with_long second (λ right. then_on (operation left right) (λ result. Gives (Some result)))))

-- an operation on a long and an int
abbrev pub on_long_and_int : (ℤ → ℤ → Reply ℤ) → List Value → Reply (Option Value)
on_long_and_int operation operands =
    with_two operands (λ first second. with_long first (λ left. with_int second (λ right. then_on (operation left right) (λ number. Gives (Some (Long number))))))

-- two longs calculated as one
abbrev pub long_calculated : Calc → ℤ → ℤ → Reply Value
long_calculated operation left right = then_on (calculated w64 operation left right) (λ number. Gives (Long number))

-- `lcmp`: -1, 0 or 1
abbrev pub compared : ℤ → ℤ → Reply Value
compared left right = Gives (Int (if int_lt left right then negsuc 0 else (if int_eq left right then pos 0 else pos 1)))

-- ---- tests and switches

-- a test of two ints
abbrev pub holds : Test → ℤ → ℤ → Bool
holds test.Eq left right = int_eq left right
holds test.Ne left right = not (int_eq left right)
holds test.Lt left right = int_lt left right
holds test.Ge left right = int_le right left
holds test.Gt left right = int_lt right left
holds test.Le left right = int_le left right

-- where a jump leads: to its target where the test holds, else on
abbrev pub led : Bool → ℕ → Reply (Option ℕ)
led holding target = Gives (if holding then Some target else None)

-- the target at a place of a table, another one past its end
abbrev pub target_at : Option ℕ → ℕ → ℕ
target_at None other = other
target_at (Some target) other = target

-- where `tableswitch` leads an int
abbrev pub in_table : ℤ → List ℕ → ℕ → ℤ → ℕ
in_table low targets other number = if int_le low number then target_at (slice_get targets (unsigned_abs (number -ℤ low))) other else other

-- where `lookupswitch` leads an int
abbrev pub in_cases : List (ℤ × ℕ) → ℕ → ℤ → ℕ
in_cases [] other number = other
in_cases (case ∷ rest) other number = if int_eq case.0 number then case.1 else in_cases rest other number
