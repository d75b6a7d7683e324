-- What instructions do at worked operands, by computation: a wrong definition is refused here.
use Rattle.std.proofs.Common.{◌≡◌, ℕ, false, List, [], ◌∷◌, Some, None, refl}
use Rattle.std.specs.Prelude.{pos, negsuc, codes}
use Rattle.std.specs.Int.{w32, w64, int_wrap}
use Rattle.dj_names.specs.declared.header.Header.{Header}
use Rattle.dj_names.specs.Types as types
use Rattle.dj_names.specs.Types.{JType, Boolean, Byte, Char, Class, Array, Method}
use Rattle.dj_values.specs.Values.{RefValue, Numbered, Value, Int, Long, Null, Ref, PutField, ArrayStore, Exit}
use Rattle.dj_values.specs.Outcomes.{Gives, ask, trap}
use Rattle.dj_instructions.specs.declared.kinds.Calc.TheVariants as calc
use Rattle.dj_instructions.specs.Instructions.{MethodRef}
use Rattle.dj_bytecode.specs.Operands.{narrowed}
use Rattle.dj_bytecode.specs.Calculations.{calculated, compared, in_table, in_cases}
use Rattle.dj_bytecode.specs.Shuffles.{shuffled, dup_x2_forms, dup2_forms, dup2_x1_forms, dup2_x2_forms, swap_forms}
use Rattle.dj_bytecode.specs.Objects.{field_written, element_read, element_written, array_made, special_owner, cast_to, thrown_out, left}

-- ---- arithmetic

a_quotient_goes_to_zero : calculated w32 calc.Div (negsuc 6) (pos 2) ≡ Gives (negsuc 2)
a_quotient_goes_to_zero = refl

-- the least int by -1 is itself, and traps nothing
the_least_int_stays : calculated w32 calc.Div (negsuc 2147483647) (negsuc 0) ≡ Gives (negsuc 2147483647)
the_least_int_stays = refl

a_remainder_has_the_sign_of_the_dividend : calculated w32 calc.Rem (negsuc 6) (pos 2) ≡ Gives (negsuc 0)
a_remainder_has_the_sign_of_the_dividend = refl

zero_traps : calculated w64 calc.Div (pos 1) (pos 0) ≡ trap (codes "java/lang/ArithmeticException")
zero_traps = refl

a_shift_is_masked : calculated w32 calc.Shl (pos 1) (pos 33) ≡ Gives (pos 2)
a_shift_is_masked = refl

a_shift_of_a_long_is_masked : calculated w64 calc.Shl (pos 1) (pos 33) ≡ Gives (pos 8589934592)
a_shift_of_a_long_is_masked = refl

a_negative_distance_is_masked : calculated w32 calc.Shl (pos 1) (negsuc 0) ≡ Gives (negsuc 2147483647)
a_negative_distance_is_masked = refl

zeros_come_in : calculated w32 calc.Ushr (negsuc 0) (pos 28) ≡ Gives (pos 15)
zeros_come_in = refl

the_sign_comes_in : calculated w32 calc.Shr (negsuc 8) (pos 1) ≡ Gives (negsuc 4)
the_sign_comes_in = refl

a_shift_by_nothing_keeps_the_sign : calculated w32 calc.Ushr (negsuc 0) (pos 32) ≡ Gives (negsuc 0)
a_shift_by_nothing_keeps_the_sign = refl

a_boolean_is_the_lowest_bit : narrowed Boolean (pos 6) ≡ Gives (Int (pos 0))
a_boolean_is_the_lowest_bit = refl

a_char_has_no_sign : narrowed Char (negsuc 0) ≡ Gives (Int (pos 65535))
a_char_has_no_sign = refl

less_is_minus_one : compared (pos 1) (pos 2) ≡ Gives (Int (negsuc 0))
less_is_minus_one = refl

-- ---- switches

abbrev table : List ℕ
table = 10 ∷ 20 ∷ []

below_the_table : in_table (pos 5) table 30 (pos 4) ≡ 30
below_the_table = refl

within_the_table : in_table (pos 5) table 30 (pos 6) ≡ 20
within_the_table = refl

above_the_table : in_table (pos 5) table 30 (pos 7) ≡ 30
above_the_table = refl

a_case : in_cases ((negsuc 0, 10) ∷ (pos 7, 20) ∷ []) 30 (pos 7) ≡ 20
a_case = refl

-- ---- the stack, from the top down

abbrev one : Value
one = Int (pos 1)

abbrev two : Value
two = Int (pos 2)

abbrev three : Value
three = Int (pos 3)

abbrev wide : Value
wide = Long (pos 9)

dup_x2_of_ints : shuffled dup_x2_forms (one ∷ two ∷ three ∷ []) ≡ Some (one ∷ two ∷ three ∷ one ∷ [])
dup_x2_of_ints = refl

dup_x2_over_a_long : shuffled dup_x2_forms (one ∷ wide ∷ []) ≡ Some (one ∷ wide ∷ one ∷ [])
dup_x2_over_a_long = refl

dup2_of_a_long : shuffled dup2_forms (wide ∷ []) ≡ Some (wide ∷ wide ∷ [])
dup2_of_a_long = refl

dup2_x1_of_ints : shuffled dup2_x1_forms (one ∷ two ∷ three ∷ []) ≡ Some (one ∷ two ∷ three ∷ one ∷ two ∷ [])
dup2_x1_of_ints = refl

dup2_x2_over_a_long : shuffled dup2_x2_forms (one ∷ two ∷ wide ∷ []) ≡ Some (one ∷ two ∷ wide ∷ one ∷ two ∷ [])
dup2_x2_over_a_long = refl

half_a_long_is_not_swapped : shuffled swap_forms (one ∷ wide ∷ []) ≡ None
half_a_long_is_not_swapped = refl

-- ---- objects and arrays

abbrev object : RefValue
object = record { id = Numbered 1; class = Class (codes "C"); length = 0 }

-- an array of two references
abbrev objects : RefValue
objects = record { id = Numbered 2; class = Array (Class (codes "D")); length = 2 }

null_before_bounds : element_read (Null ∷ Int (negsuc 0) ∷ []) ≡ trap (codes "java/lang/NullPointerException")
null_before_bounds = refl

an_index_is_below_the_length : element_read (Ref objects ∷ Int (pos 2) ∷ []) ≡ trap (codes "java/lang/ArrayIndexOutOfBoundsException")
an_index_is_below_the_length = refl

bounds_before_what_is_stored : element_written [] (Ref objects ∷ Int (pos 2) ∷ Ref object ∷ []) ≡ trap (codes "java/lang/ArrayIndexOutOfBoundsException")
bounds_before_what_is_stored = refl

what_is_stored_goes_there : element_written [] (Ref objects ∷ Int (pos 1) ∷ Ref object ∷ []) ≡ trap (codes "java/lang/ArrayStoreException")
what_is_stored_goes_there = refl

null_is_stored : element_written [] (Ref objects ∷ Int (pos 1) ∷ Null ∷ []) ≡ ask (ArrayStore objects (pos 1) Null)
null_is_stored = refl

-- a later size that is negative traps, whatever the first is
sizes_are_looked_at : array_made (Array (Array types.Int)) (Int (pos 0) ∷ Int (negsuc 0) ∷ []) ≡ trap (codes "java/lang/NegativeArraySizeException")
sizes_are_looked_at = refl

-- a byte field takes the low eight bits
a_field_is_narrowed : field_written (record { owner = Class (codes "C"); name = codes "b"; kind = Byte }) (Ref object ∷ Int (pos 200) ∷ [])
    ≡ ask (PutField object (Class (codes "C")) (codes "b") Byte (Int (negsuc 55)))
unfolding int_wrap
a_field_is_narrowed = refl

null_is_not_thrown : thrown_out (Null ∷ []) ≡ trap (codes "java/lang/NullPointerException")
null_is_not_thrown = refl

null_is_cast : cast_to [] (Class (codes "D")) None ≡ Gives (Some Null)
null_is_cast = refl

another_class_is_not_cast : cast_to [] (Class (codes "D")) (Some object) ≡ trap (codes "java/lang/ClassCastException")
another_class_is_not_cast = refl

a_monitor_is_left : left (Ref object ∷ []) ≡ ask (Exit object)
a_monitor_is_left = refl

-- ---- calls

-- a class D below C, which is below B
abbrev classes : List Header
classes =
    record { name = codes "D"; superclass = Some (codes "C"); interfaces = []; flags = 0x0021 }
    ∷ record { name = codes "C"; superclass = Some (codes "B"); interfaces = []; flags = 0x0021 }
    ∷ []

abbrev method : List ℕ → List ℕ → MethodRef
method owner name = record { owner = Class owner; interface = false; name = name; descriptor = Method [] None }

-- a call of a superclass's method begins in the direct superclass
a_super_call : special_owner classes (codes "D") (method (codes "B") (codes "m")) ≡ Class (codes "C")
a_super_call = refl

a_constructor_call : special_owner classes (codes "D") (method (codes "B") (codes "<init>")) ≡ Class (codes "B")
a_constructor_call = refl

a_call_of_its_own : special_owner classes (codes "D") (method (codes "D") (codes "m")) ≡ Class (codes "D")
a_call_of_its_own = refl
