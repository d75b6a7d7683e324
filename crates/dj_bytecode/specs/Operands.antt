-- Operands of instructions: how many there are, and of which kinds (JVMS 2.6.2, 2.11.1).
use Rattle.std.specs.Prelude.{ℤ, pos, List, [], ◌∷◌, Option, Some, None, if◌then◌else◌, codes}
use Rattle.std.specs.Int.{w8, w16, w32, int_bit_and, int_rem_euclid, int_wrap}
use Rattle.dj_names.specs.Types as types
use Rattle.dj_names.specs.Types.{JType, Boolean, Byte, Char, Short, Float, Double, Class, Array}
use Rattle.dj_values.specs.Values.{RefValue, Value, Int, Long, Null, Ref}
use Rattle.dj_values.specs.Deciding.{is_type, is_reference}
use Rattle.dj_values.specs.Outcomes.{Stuck, Reply, Gives, Halts, then_on, trap}
use Rattle.dj_instructions.specs.declared.kinds.Kind.{Kind}
use Rattle.dj_instructions.specs.declared.kinds.Kind.TheVariants as kind

-- ---- how many

-- with the one operand of an instruction
abbrev pub with_one : {A : Type 0} → List Value → (Value → Reply A) → Reply A
with_one [] next = Halts Stuck
with_one (first ∷ []) next = next first
with_one (first ∷ second ∷ rest) next = Halts Stuck

-- with the two operands of an instruction, the first pushed first
abbrev pub with_two : {A : Type 0} → List Value → (Value → Value → Reply A) → Reply A
with_two [] next = Halts Stuck
with_two (first ∷ []) next = Halts Stuck
with_two (first ∷ second ∷ []) next = next first second
with_two (first ∷ second ∷ third ∷ rest) next = Halts Stuck

-- with the three operands of an instruction, the first pushed first
abbrev pub with_three : {A : Type 0} → List Value → (Value → Value → Value → Reply A) → Reply A
with_three [] next = Halts Stuck
with_three (first ∷ []) next = Halts Stuck
with_three (first ∷ second ∷ []) next = Halts Stuck
with_three (first ∷ second ∷ third ∷ []) next = next first second third
with_three (first ∷ second ∷ third ∷ fourth ∷ rest) next = Halts Stuck

-- ---- of which kinds

-- with an int
abbrev pub with_int : {A : Type 0} → Value → (ℤ → Reply A) → Reply A
with_int (Int number) next = next number
with_int (Long number) next = Halts Stuck
with_int Null next = Halts Stuck
with_int (Ref reference) next = Halts Stuck

-- with a long
abbrev pub with_long : {A : Type 0} → Value → (ℤ → Reply A) → Reply A
with_long (Int number) next = Halts Stuck
with_long (Long number) next = next number
with_long Null next = Halts Stuck
with_long (Ref reference) next = Halts Stuck

-- with a reference, None for null
abbrev pub with_reference : {A : Type 0} → Value → (Option RefValue → Reply A) → Reply A
with_reference (Int number) next = Halts Stuck
with_reference (Long number) next = Halts Stuck
with_reference Null next = next None
with_reference (Ref reference) next = next (Some reference)

-- with a reference that isn't null; null traps
abbrev pub or_null_trap : {A : Type 0} → (RefValue → Reply A) → Option RefValue → Reply A
or_null_trap next None = trap (codes "java/lang/NullPointerException")
or_null_trap next (Some reference) = next reference

-- with the object or array that a value refers to
abbrev pub with_object : {A : Type 0} → Value → (RefValue → Reply A) → Reply A
with_object value next = with_reference value (or_null_trap next)

-- the value, where it is of the kind; no value is a float or double
abbrev pub of_kind : Kind → Value → Reply Value
of_kind kind.Int value = with_int value (λ number. Gives (Int number))
of_kind kind.Long value = with_long value (λ number. Gives (Long number))
of_kind kind.Float value = Halts Stuck
of_kind kind.Double value = Halts Stuck
of_kind kind.Ref value = with_reference value (λ reference. Gives value)

-- the ints that values are
abbrev pub with_ints : {A : Type 0} → List Value → (List ℤ → Reply A) → Reply A
with_ints [] next = next []
with_ints (first ∷ rest) next = with_int first (λ number. with_ints rest (λ numbers. next (number ∷ numbers)))

-- ---- as values of types

-- an int that goes into a type kept as one: a narrower type keeps its low bits, a boolean the lowest (JVMS 6.5, `ireturn`, `putfield`, `bastore`)
abbrev pub narrowed : JType → ℤ → Reply Value
narrowed Boolean number = Gives (Int (int_bit_and w32 number (pos 1)))
narrowed Byte number = Gives (Int (int_wrap w8 number))
narrowed Char number = Gives (Int (int_rem_euclid number (pos 65536)))
narrowed Short number = Gives (Int (int_wrap w16 number))
narrowed types.Int number = Gives (Int number)
narrowed types.Long number = Halts Stuck
narrowed Float number = Halts Stuck
narrowed Double number = Halts Stuck
narrowed (Class name) number = Halts Stuck
narrowed (Array element) number = Halts Stuck

-- a value that goes into a type
abbrev pub fitted : JType → Value → Reply Value
fitted type (Int number) = narrowed type number
fitted type (Long number) = if is_type type types.Long then Gives (Long number) else Halts Stuck
fitted type Null = if is_reference type then Gives Null else Halts Stuck
fitted type (Ref reference) = if is_reference type then Gives (Ref reference) else Halts Stuck

-- values that go into types, one each
abbrev pub all_fitted : List JType → List Value → Reply (List Value)
all_fitted [] [] = Gives []
all_fitted [] (value ∷ values) = Halts Stuck
all_fitted (type ∷ types) [] = Halts Stuck
all_fitted (type ∷ types) (value ∷ values) = then_on (fitted type value) (λ first. then_on (all_fitted types values) (λ rest. Gives (first ∷ rest)))
