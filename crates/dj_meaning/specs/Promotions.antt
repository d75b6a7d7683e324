-- The types of operands and results of operators (JLS 5.6, 15.15 to 15.24).
use Rattle.std.specs.Prelude.{Bool, true, false, Option, Some, None, option_and_then}
use Rattle.dj_names.specs.Types.{JType, Boolean, Byte, Char, Short, Int, Long, Float, Double, Class, Array}
use Rattle.dj_syntax.specs.declared.operator.Op.{Op}
use Rattle.dj_syntax.specs.declared.operator.Op.TheVariants as op

-- the type after unary numeric promotion, none where it is no number's (5.6.1)
abbrev pub promoted : JType → Option JType
promoted Boolean = None
promoted Byte = Some Int
promoted Char = Some Int
promoted Short = Some Int
promoted Int = Some Int
promoted Long = Some Long
promoted Float = Some Float
promoted Double = Some Double
promoted (Class name) = None
promoted (Array element) = None

-- of two types that are promoted already the wider one (5.6.2)
abbrev pub wider : JType → JType → Option JType
wider Int other = Some other
wider Long Int = Some Long
wider Long other = Some other
wider Float Double = Some Double
wider Float other = Some Float
wider Double other = Some Double
wider Boolean other = None
wider Byte other = None
wider Char other = None
wider Short other = None
wider (Class name) other = None
wider (Array element) other = None

-- the type after binary numeric promotion (5.6.2)
abbrev pub promoted_both : JType → JType → Option JType
promoted_both first second = option_and_then (λ one. option_and_then (wider one) (promoted second)) (promoted first)

-- how an operator types its operands and its result: as numbers of one type, of which it makes a number or a boolean; as a shift;
-- as numbers or booleans; as booleans (15.17 to 15.24)
pub data Typing : Type 0 where
  OfNumbers : Typing
  OfShift : Typing
  OfTest : Typing
  OfBits : Typing
  OfTruths : Typing

-- how each operator does
abbrev pub typing_of : Op → Typing
typing_of op.Mul = OfNumbers
typing_of op.Div = OfNumbers
typing_of op.Rem = OfNumbers
typing_of op.Add = OfNumbers
typing_of op.Sub = OfNumbers
typing_of op.Shl = OfShift
typing_of op.Shr = OfShift
typing_of op.Ushr = OfShift
typing_of op.Lt = OfTest
typing_of op.Le = OfTest
typing_of op.Gt = OfTest
typing_of op.Ge = OfTest
typing_of op.Eq = OfTest
typing_of op.Ne = OfTest
typing_of op.And = OfBits
typing_of op.Xor = OfBits
typing_of op.Or = OfBits
typing_of op.AndAlso = OfTruths
typing_of op.OrElse = OfTruths

-- `&`, `^` or `|` of booleans is a boolean, of numbers a number (15.22)
abbrev pub bits_type : JType → JType → Option JType
bits_type Boolean second = Some Boolean
bits_type Byte second = promoted_both Byte second
bits_type Char second = promoted_both Char second
bits_type Short second = promoted_both Short second
bits_type Int second = promoted_both Int second
bits_type Long second = promoted_both Long second
bits_type Float second = promoted_both Float second
bits_type Double second = promoted_both Double second
bits_type (Class name) second = None
bits_type (Array element) second = None

-- what two types give, where both are there
abbrev pub both : (JType → JType → Option JType) → Option JType → Option JType → Option JType
both give None second = None
both give (Some first) second = option_and_then (give first) second

-- the type of an operator's result
abbrev pub result_type : Typing → Option JType → Option JType → Option JType
result_type OfNumbers first second = both promoted_both first second
result_type OfShift first second = option_and_then promoted first
result_type OfTest first second = Some Boolean
result_type OfBits first second = both bits_type first second
result_type OfTruths first second = Some Boolean

-- a float or double
abbrev pub is_floating : Option JType → Bool
is_floating None = false
is_floating (Some Boolean) = false
is_floating (Some Byte) = false
is_floating (Some Char) = false
is_floating (Some Short) = false
is_floating (Some Int) = false
is_floating (Some Long) = false
is_floating (Some Float) = true
is_floating (Some Double) = true
is_floating (Some (Class name)) = false
is_floating (Some (Array element)) = false

-- the operands become floats or doubles
abbrev pub becomes_floating : Typing → Option JType → Option JType → Bool
becomes_floating OfNumbers first second = is_floating (both promoted_both first second)
becomes_floating OfShift first second = false
becomes_floating OfTest first second = is_floating (both promoted_both first second)
becomes_floating OfBits first second = false
becomes_floating OfTruths first second = false
