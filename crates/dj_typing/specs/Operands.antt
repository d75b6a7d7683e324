-- Which operands operators take (JLS 15.15 to 15.25).
use Rattle.std.specs.Prelude.{Bool, true, false, ◌&&◌, ◌||◌, List, Option, Some, None}
use Rattle.dj_names.specs.declared.header.Header.{Header}
use Rattle.dj_names.specs.Types as types
use Rattle.dj_names.specs.Types.{JType, Boolean, Byte, Char, Short, Int, Long, Float, Double, Class, Array, StaticType, Of}
use Rattle.dj_syntax.specs.declared.operator.Op.{Op}
use Rattle.dj_syntax.specs.declared.operator.Op.TheVariants as op
use Rattle.dj_values.specs.Deciding.{is_type, is_reference, is_some_and}
use Rattle.dj_meaning.specs.Promotions.{promoted}
use Rattle.dj_typing.specs.Casting.{is_number, may_be_of}

-- ---- tests of types

-- a type of the machine that passes a test; null has none
abbrev pub is_of : (JType → Bool) → StaticType → Bool
is_of test types.Null = false
is_of test (Of type) = test type

-- boolean itself
abbrev pub is_boolean : JType → Bool
is_boolean type = is_type type Boolean

-- after promotion an int (5.6.1)
abbrev pub is_int : JType → Bool
is_int type = is_some_and (promoted type) (λ number. is_type number Int)

-- after promotion an int or a long
abbrev pub is_integral : JType → Bool
is_integral type = is_some_and (promoted type) (λ number. is_type number Int || is_type number Long)

-- a class, an interface or an array, or null
abbrev pub is_object : StaticType → Bool
is_object types.Null = true
is_object (Of type) = is_reference type

-- ---- operators

-- how an operator chooses its operands
pub data Operands : Type 0 where
  Numbers : Operands
  Integers : Operands
  Equals : Operands
  Bits : Operands
  Truths : Operands

-- how this operator does
abbrev pub operands_of : Op → Operands
operands_of op.Mul = Numbers
operands_of op.Div = Numbers
operands_of op.Rem = Numbers
operands_of op.Add = Numbers
operands_of op.Sub = Numbers
operands_of op.Shl = Integers
operands_of op.Shr = Integers
operands_of op.Ushr = Integers
operands_of op.Lt = Numbers
operands_of op.Le = Numbers
operands_of op.Gt = Numbers
operands_of op.Ge = Numbers
operands_of op.Eq = Equals
operands_of op.Ne = Equals
operands_of op.And = Bits
operands_of op.Xor = Bits
operands_of op.Or = Bits
operands_of op.AndAlso = Truths
operands_of op.OrElse = Truths

-- both pass a test
abbrev pub are_both : (JType → Bool) → StaticType → StaticType → Bool
are_both test first second = is_of test first && is_of test second

-- two references that may be the same (15.21.3)
abbrev pub may_be_same : List Header → StaticType → StaticType → Bool
may_be_same headers types.Null second = is_object second
may_be_same headers (Of first) types.Null = is_reference first
may_be_same headers (Of first) (Of second) = may_be_of headers (Of first) second

-- an operator takes two operands of these types
abbrev pub takes : List Header → Operands → StaticType → StaticType → Bool
takes headers Numbers first second = are_both is_number first second
takes headers Integers first second = are_both is_integral first second
takes headers Equals first second = are_both is_number first second || are_both is_boolean first second || may_be_same headers first second
takes headers Bits first second = are_both is_integral first second || are_both is_boolean first second
takes headers Truths first second = are_both is_boolean first second

-- both results of `?:` have one type, or one of them is null and the other a reference (15.25)
abbrev pub agree : StaticType → StaticType → Bool
agree types.Null second = is_object second
agree (Of first) types.Null = is_reference first
agree (Of first) (Of second) = is_type first second

-- ---- parts without a type

-- a test of a type; a part that has none breaks a rule of its own, at a later place, and is passed here
abbrev pub if_typed : Option StaticType → (StaticType → Bool) → Bool
if_typed None test = true
if_typed (Some type) test = test type

-- the same of two types
abbrev pub if_both : Option StaticType → Option StaticType → (StaticType → StaticType → Bool) → Bool
if_both first second test = if_typed first (λ one. if_typed second (test one))
