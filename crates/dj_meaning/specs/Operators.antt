-- What binary operators do with their operands' values (JLS 5.6, 15.17 to 15.24).
use Rattle.std.specs.Prelude.{◌/◌, ◌^◌, ◌==◌, ℕ, Bool, true, false, not, if◌then◌else◌, ℤ, pos, int_lt, int_le, int_rem, unsigned_abs, List, codes}
use Rattle.std.specs.Ordering.{int_eq}
use Rattle.std.specs.Int.{Width, w32, w64, cast_signed, cast_unsigned, int_rem_euclid, int_wrapping_add, int_wrapping_sub, int_wrapping_mul, int_wrapping_div, int_bit_and, int_bit_or, int_bit_xor, int_shl, int_shr}
use mir.Val.{bits}
use Rattle.dj_names.specs.declared.header.Header.{Header}
use Rattle.dj_syntax.specs.declared.operator.Op.{Op}
use Rattle.dj_syntax.specs.declared.operator.Op.TheVariants as op
use Rattle.dj_values.specs.Values.{RefId, Numbered, Text, Value, Int, Long, Null, Ref}
use Rattle.dj_values.specs.Answers.{is_name}
use Rattle.dj_values.specs.Outcomes.{Stuck, Reply, Gives, Halts, trap, State, Outcome, Is, bind, outside}

-- the width of a number after promotion: a long's or an int's
abbrev pub width : Bool → Width
width wide = if wide then w64 else w32

-- a number of that width
abbrev pub number : Bool → ℤ → Value
number true amount = Long amount
number false amount = Int amount

-- a boolean is the int 1 or 0
abbrev pub truth : Bool → Value
truth true = Int (pos 1)
truth false = Int (pos 0)

-- two numbers after binary numeric promotion (JLS 5.6.2): whether they are longs, and both
abbrev pub with_numbers : {A : Type 0} → Value → Value → (Bool → ℤ → ℤ → Reply A) → Reply A
with_numbers (Int left) (Int right) next = next false left right
with_numbers (Int left) (Long right) next = next true left right
with_numbers (Int left) Null next = Halts Stuck
with_numbers (Int left) (Ref right) next = Halts Stuck
with_numbers (Long left) (Int right) next = next true left right
with_numbers (Long left) (Long right) next = next true left right
with_numbers (Long left) Null next = Halts Stuck
with_numbers (Long left) (Ref right) next = Halts Stuck
with_numbers Null right next = Halts Stuck
with_numbers (Ref left) right next = Halts Stuck

-- two numbers, each promoted by itself (JLS 15.19)
abbrev pub with_shift : {A : Type 0} → Value → Value → (Bool → ℤ → ℤ → Reply A) → Reply A
with_shift (Int left) (Int right) next = next false left right
with_shift (Int left) (Long right) next = next false left right
with_shift (Int left) Null next = Halts Stuck
with_shift (Int left) (Ref right) next = Halts Stuck
with_shift (Long left) (Int right) next = next true left right
with_shift (Long left) (Long right) next = next true left right
with_shift (Long left) Null next = Halts Stuck
with_shift (Long left) (Ref right) next = Halts Stuck
with_shift Null right next = Halts Stuck
with_shift (Ref left) right next = Halts Stuck

-- an operation on two numbers of one width
abbrev pub arithmetic : (Width → ℤ → ℤ → ℤ) → Value → Value → Reply Value
arithmetic operation left right = with_numbers left right (λ wide a b. Gives (number wide (operation (width wide) a b)))

-- an operation that divides, and traps where the divisor is 0 (JLS 15.17.2, 15.17.3)
abbrev pub division : (Width → ℤ → ℤ → ℤ) → Value → Value → Reply Value
division operation left right =
    with_numbers left right (λ wide a b. if int_eq b (pos 0) then trap (codes "java/lang/ArithmeticException") else Gives (number wide (operation (width wide) a b)))

-- a shift by the low five bits of the distance, or six for a long
abbrev pub shift : (Width → ℤ → ℕ → ℤ) → Value → Value → Reply Value
shift operation left right =
    with_shift left right (λ wide a b. Gives (number wide (operation (width wide) a (unsigned_abs (int_rem_euclid b (pos (bits (width wide))))))))

-- a comparison of two numbers
abbrev pub comparison : (ℤ → ℤ → Bool) → Value → Value → Reply Value
comparison test left right = with_numbers left right (λ wide a b. Gives (truth (test a b)))

-- two references are the same
abbrev pub is_same : RefId → RefId → Bool
is_same (Numbered first) (Numbered second) = first == second
is_same (Numbered first) (Text second) = false
is_same (Text first) (Numbered second) = false
is_same (Text first) (Text second) = is_name first second

-- a test of two numbers or two references for being equal (JLS 15.21); the first tells how to answer
abbrev pub equality : (Bool → Bool) → Value → Value → Reply Value
equality answer Null Null = Gives (truth (answer true))
equality answer Null (Ref right) = Gives (truth (answer false))
equality answer (Ref left) Null = Gives (truth (answer false))
equality answer (Ref left) (Ref right) = Gives (truth (answer (is_same left.id right.id)))
equality answer Null (Int right) = Halts Stuck
equality answer Null (Long right) = Halts Stuck
equality answer (Ref left) (Int right) = Halts Stuck
equality answer (Ref left) (Long right) = Halts Stuck
equality answer (Int left) right = comparison (λ a b. answer (int_eq a b)) (Int left) right
equality answer (Long left) right = comparison (λ a b. answer (int_eq a b)) (Long left) right

-- how an operator goes about its operands: both are evaluated, or the right one only after this answer of the left
pub data Operator : Type 0 where
  Strict : (Value → Value → Reply Value) → Operator
  After : Bool → Operator

-- what each operator does
abbrev pub operator_of : Op → Operator
operator_of op.Mul = Strict (arithmetic int_wrapping_mul)
operator_of op.Div = Strict (division int_wrapping_div)
operator_of op.Rem = Strict (division (λ width a b. int_rem a b))
operator_of op.Add = Strict (arithmetic int_wrapping_add)
operator_of op.Sub = Strict (arithmetic int_wrapping_sub)
operator_of op.Shl = Strict (shift int_shl)
operator_of op.Shr = Strict (shift (λ width a distance. int_shr a distance))
operator_of op.Ushr = Strict (shift (λ width a distance. cast_signed width (cast_unsigned width a / 2 ^ distance)))
operator_of op.Lt = Strict (comparison int_lt)
operator_of op.Le = Strict (comparison int_le)
operator_of op.Gt = Strict (comparison (λ a b. int_lt b a))
operator_of op.Ge = Strict (comparison (λ a b. int_le b a))
operator_of op.Eq = Strict (equality (λ equal. equal))
operator_of op.Ne = Strict (equality not)
operator_of op.And = Strict (arithmetic int_bit_and)
operator_of op.Xor = Strict (arithmetic int_bit_xor)
operator_of op.Or = Strict (arithmetic int_bit_or)
operator_of op.AndAlso = After true
operator_of op.OrElse = After false

-- with a value as a boolean
abbrev pub with_truth : {A : Type 0} → Value → (Bool → Reply A) → Reply A
with_truth (Int amount) next = next (not (int_eq amount (pos 0)))
with_truth (Long amount) next = Halts Stuck
with_truth Null next = Halts Stuck
with_truth (Ref reference) next = Halts Stuck

-- an operand of `&&` or `||` as a boolean (JLS 15.23, 15.24)
abbrev pub truth_of : Value → Reply Bool
truth_of value = with_truth value Gives

-- the right operand is wanted after this answer of the left one
abbrev pub is_wanted : Bool → Bool → Bool
is_wanted true answer = answer
is_wanted false answer = not answer

-- an operator of this form between what gives its operands: the left one first (JLS 15.7)
abbrev pub by_form : {S : Type 0} → List Header → Operator → (State S → Outcome S Value) → (State S → Outcome S Value) → State S → Outcome S Value
by_form headers (Strict operation) left right state =
    bind (left state) (λ x behind. bind (right behind) (λ y. outside headers (operation x y)))
by_form headers (After wanted) left right state =
    bind (bind (left state) (λ x. outside headers (truth_of x))) (λ answer.
    if is_wanted wanted answer then (λ behind. bind (bind (right behind) (λ y. outside headers (truth_of y))) (λ last. Is (truth last)))
    else Is (truth answer))

-- an operator between what gives its operands
abbrev pub operate : {S : Type 0} → List Header → Op → (State S → Outcome S Value) → (State S → Outcome S Value) → State S → Outcome S Value
operate headers operator = by_form headers (operator_of operator)
