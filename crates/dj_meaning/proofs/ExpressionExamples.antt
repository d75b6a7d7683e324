-- What expressions show at worked examples, by computation: a wrong definition is refused here.
use Rattle.std.proofs.Common.{◌≡◌, true, List, [], ◌∷◌, Some, refl}
use Rattle.std.specs.Prelude.{pos, negsuc, codes}
use Rattle.std.specs.Int.{int_wrap}
use Rattle.dj_names.specs.Types as types
use Rattle.dj_names.specs.Types.{Boolean, Byte, Class, Array}
use Rattle.dj_syntax.specs.declared.operator.Op.TheVariants as op
use Rattle.dj_syntax.specs.Trees.{This, Variable, Field, Static, Element, Cast, InstanceOf, Negative, Not, Binary, Choice, Assign, NewArray, ClassOf, Truth}
use Rattle.dj_syntax.specs.Trees as trees
use Rattle.dj_values.specs.Values.{Text, Value, Int, Long, Null, Ref, Action, GetField, GetStatic, ArrayLoad, ClassConstant, Trap, Given, Thrown, More, Return, Throw, Show}
use Rattle.dj_values.specs.Values as values
use Rattle.dj_meaning.proofs.ExampleWorld.{null_pointer, object, this, ints, exception, parameter, parameter_variable, int, local, one, gives}

-- a run that returns a value
abbrev returns : List Action → Value → Show
returns actions value = record { actions = actions; end = Return (Some value) }

-- a run that goes on
abbrev goes_on : List Action → Show
goes_on actions = record { actions = actions; end = More }

-- a run that leaves by the exception
abbrev leaves : List Action → Show
leaves actions = record { actions = actions; end = Throw exception }

-- ---- literals and variables

a_long : gives types.Long (trees.Long (pos 3)) [] ≡ returns [] (Long (pos 3))
a_long = refl

a_text : gives (Class (codes "java/lang/String")) (trees.Text (codes "a")) [] ≡ returns [] (Ref (record { id = Text (codes "a"); class = Class (codes "java/lang/String"); length = 0 }))
a_text = refl

the_object : gives (Class (codes "C")) This [] ≡ returns [] (Ref this)
the_object = refl

a_class : gives (Class (codes "java/lang/Class")) (ClassOf (Class (codes "B"))) (Given (Ref (object 9 (codes "java/lang/Class"))) ∷ []) ≡ returns (ClassConstant (Class (codes "B")) ∷ []) (Ref (object 9 (codes "java/lang/Class")))
a_class = refl

-- a variable out of scope stops the run
no_variable : gives types.Int (Variable (local 0)) [] ≡ goes_on []
no_variable = refl

-- an int is assigned to a long, and the assignment has the long
an_assignment : gives types.Long (Assign (parameter_variable 1) (int 5)) [] ≡ returns [] (Long (pos 5))
an_assignment = refl

-- ---- conversions and casts

-- a byte keeps the low eight bits of 300
a_cast_to_byte : gives types.Int (Cast Byte (int 300)) [] ≡ returns [] (Int (pos 44))
unfolding int_wrap
a_cast_to_byte = refl

-- an int keeps the low 32 bits of 2^32 + 5
a_cast_of_a_long : gives types.Int (Cast types.Int (trees.Long (pos 4294967301))) [] ≡ returns [] (Int (pos 5))
unfolding int_wrap
a_cast_of_a_long = refl

-- an int that is to be a float is not followed further
a_cast_to_float : gives types.Int (Cast types.Int (Cast types.Float (int 1))) [] ≡ goes_on []
a_cast_to_float = refl

a_good_cast : gives (Class (codes "C")) (Cast (Class (codes "C")) (parameter 6)) [] ≡ returns [] (Ref this)
a_good_cast = refl

a_bad_cast : gives (Class (codes "B")) (Cast (Class null_pointer) (parameter 6)) [] ≡ goes_on (Trap (codes "java/lang/ClassCastException") ∷ [])
a_bad_cast = refl

-- ---- operators

a_difference : gives types.Int (Binary op.Sub (parameter 0) (int 7)) [] ≡ returns [] (Int (negsuc 1))
a_difference = refl

-- an int and a long give a long
a_wide_sum : gives types.Long (Binary op.Add (parameter 0) (parameter 1)) [] ≡ returns [] (Long (pos 11))
a_wide_sum = refl

both_count : gives Boolean (Binary op.AndAlso (Binary op.Lt (int 1) (int 2)) (Binary op.Lt (int 2) (int 1))) [] ≡ returns [] (Int (pos 0))
both_count = refl

-- what comes behind a decided `||` isn't looked at
a_decided_choice : gives Boolean (Binary op.OrElse (Truth true) (Variable (local 0))) [] ≡ returns [] (Int (pos 1))
a_decided_choice = refl

a_quotient_by_zero : gives types.Int (Binary op.Div (int 1) (int 0)) [] ≡ goes_on (Trap (codes "java/lang/ArithmeticException") ∷ [])
a_quotient_by_zero = refl

-- the left operand becomes a float before the right one is looked at
a_float_operand : gives types.Int (Cast types.Int (Binary op.Add (int 1) (Field This (codes "f")))) [] ≡ goes_on []
a_float_operand = refl

-- a distance below all longs counts by its remainder, as any other: at -2^64 - 1 that is 31
a_shift : gives types.Int (Binary op.Shl (int 1) (trees.Long (negsuc 18446744073709551616))) [] ≡ returns [] (Int (negsuc 2147483647))
a_shift = refl

a_shift_of_a_long : gives types.Long (Binary op.Shl (trees.Long (pos 1)) (Negative (int 63))) [] ≡ returns [] (Long (pos 2))
a_shift_of_a_long = refl

negative : gives types.Int (Negative (int 3)) [] ≡ returns [] (Int (negsuc 2))
negative = refl

inverted : gives Boolean (Not (Truth true)) [] ≡ returns [] (Int (pos 0))
inverted = refl

-- `p0 < 3 ? 1 : 2`
a_choice : gives types.Int (Choice (Binary op.Lt (parameter 0) (int 3)) (int 1) (int 2)) [] ≡ returns [] (Int (pos 2))
a_choice = refl

an_instance : gives Boolean (InstanceOf (parameter 6) (Class (codes "B"))) [] ≡ returns [] (Int (pos 1))
an_instance = refl

no_instance : gives Boolean (InstanceOf (parameter 3) (Class (codes "B"))) [] ≡ returns [] (Int (pos 0))
no_instance = refl

two_nulls : gives Boolean (Binary op.Eq (parameter 3) trees.Null) [] ≡ returns [] (Int (pos 1))
two_nulls = refl

-- ---- fields

a_field : gives types.Int (Field This (codes "x")) (Given (Int (pos 8)) ∷ []) ≡ returns (GetField this (Class (codes "C")) (codes "x") types.Int ∷ []) (Int (pos 8))
a_field = refl

-- a field of the superclass is read through the object's own type
an_inherited_field : gives types.Int (Field This (codes "b")) (Given (Int (pos 8)) ∷ []) ≡ returns (GetField this (Class (codes "C")) (codes "b") Byte ∷ []) (Int (pos 8))
an_inherited_field = refl

a_field_of_null : gives types.Int (Field (parameter 3) (codes "x")) (Thrown exception ∷ []) ≡ leaves (Trap null_pointer ∷ [])
a_field_of_null = refl

no_field : gives types.Int (Field This (codes "y")) [] ≡ goes_on []
no_field = refl

a_static_field : gives types.Long (Static (codes "C") (codes "s")) (Given (Long (pos 2)) ∷ []) ≡ returns (GetStatic (Class (codes "C")) (codes "s") types.Long ∷ []) (Long (pos 2))
a_static_field = refl

-- the object of a static field is evaluated and dropped
a_static_field_of_null : gives types.Long (Field (parameter 3) (codes "s")) (Given (Long (pos 2)) ∷ []) ≡ returns (GetStatic (Class (codes "C")) (codes "s") types.Long ∷ []) (Long (pos 2))
a_static_field_of_null = refl

-- a constant variable is its value, without an action
a_constant : gives types.Int (Static (codes "C") (codes "K")) [] ≡ returns [] (Int (pos 7))
a_constant = refl

a_constant_of_null : gives types.Int (Field (parameter 3) (codes "K")) [] ≡ returns [] (Int (pos 7))
a_constant_of_null = refl

-- ---- arrays

a_length : gives types.Int (Field (parameter 2) (codes "length")) [] ≡ returns [] (Int (pos 2))
a_length = refl

an_element : gives types.Int (Element (parameter 2) (int 1)) (Given (Int (pos 4)) ∷ []) ≡ returns (ArrayLoad ints (pos 1) ∷ []) (Int (pos 4))
an_element = refl

no_element : gives types.Int (Element (ClassOf (Class (codes "B"))) (int 1)) [] ≡ goes_on []
no_element = refl

past_the_end : gives types.Int (Element (parameter 2) (int 2)) [] ≡ goes_on (Trap (codes "java/lang/ArrayIndexOutOfBoundsException") ∷ [])
past_the_end = refl

-- an array of two dimensions, of which one is given
a_new_array : gives (Array (Array types.Int)) (NewArray types.Int (one (parameter 0)) 1) [] ≡ goes_on (values.NewArray (Array (Array types.Int)) (pos 5 ∷ []) ∷ [])
a_new_array = refl

a_negative_size : gives (Array types.Int) (NewArray types.Int (one (Negative (int 1))) 0) [] ≡ goes_on (Trap (codes "java/lang/NegativeArraySizeException") ∷ [])
a_negative_size = refl
