-- Operators that take their operands have a result, of a type that names no class (JLS 5.6, 15.15 to 15.24).
use Rattle.std.proofs.Common.{◌≡◌, true, Option, Some, option_and_then, refl, sym, subst, ◌∙◌, inl, inr, List}
use Rattle.std.proofs.lemmas.Bool.{false≢true, or_cases}
use Rattle.dj_names.specs.declared.header.Header.{Header}
use Rattle.dj_names.specs.Types as types
use Rattle.dj_names.specs.Types.{JType, Boolean, Byte, Char, Short, Int, Long, Float, Double, Class, Array, StaticType, Of}
use Rattle.dj_syntax.specs.declared.operator.Op.{Op}
use Rattle.dj_syntax.specs.declared.operator.Op.TheVariants as op
use Rattle.dj_meaning.specs.Promotions.{promoted, wider, promoted_both, Typing, OfNumbers, OfShift, OfTest, OfBits, typing_of, bits_type, result_type}
use Rattle.dj_meaning.specs.StaticTypes.{plain}
use Rattle.dj_typing.specs.Casting.{is_number}
use Rattle.dj_typing.specs.Sites.{is_whole_type}
use Rattle.dj_typing.specs.Operands.{is_of, is_boolean, is_integral, operands_of, are_both, Bits, takes}
use Rattle.dj_held.proofs.Operating.{AreBoth, both_are, both_from, integral_number, bits_of_numbers, is_boolean_true}

-- a type after promotion
data IsPromoted : JType → Type 0 where
  an_int : IsPromoted Int
  a_long : IsPromoted Long
  a_float : IsPromoted Float
  a_double : IsPromoted Double

-- there is a type, after promotion
abbrev Promotes : Option JType → Type 0
Promotes found = (type : JType) × (found ≡ Some type) × IsPromoted type

number_promoted : (type : JType) → is_number type ≡ true → Promotes (promoted type)
number_promoted Byte is = (Int, refl, an_int)
number_promoted Char is = (Int, refl, an_int)
number_promoted Short is = (Int, refl, an_int)
number_promoted Int is = (Int, refl, an_int)
number_promoted Long is = (Long, refl, a_long)
number_promoted Float is = (Float, refl, a_float)
number_promoted Double is = (Double, refl, a_double)
number_promoted type is = absurd (false≢true is)

wider_promoted : {first second : JType} → IsPromoted first → IsPromoted second → Promotes (wider first second)
wider_promoted {second = second} an_int other = (second, refl, other)
wider_promoted a_long an_int = (Long, refl, a_long)
wider_promoted a_long a_long = (Long, refl, a_long)
wider_promoted a_long a_float = (Float, refl, a_float)
wider_promoted a_long a_double = (Double, refl, a_double)
wider_promoted a_float an_int = (Float, refl, a_float)
wider_promoted a_float a_long = (Float, refl, a_float)
wider_promoted a_float a_float = (Float, refl, a_float)
wider_promoted a_float a_double = (Double, refl, a_double)
wider_promoted a_double other = (Double, refl, a_double)

both_promote : (first second : JType) → is_number first ≡ true → is_number second ≡ true → Promotes (promoted_both first second)
both_promote first second one other =
    let left = number_promoted first one in
    let right = number_promoted second other in
    let result = wider_promoted left.2 right.2 in
    (result.0, (λ i. option_and_then (λ one. option_and_then (wider one) (right.1 i)) (left.1 i)) ∙ result.1, result.2)

module _ (world : List Header) where
  -- there is a type that names no class
  abbrev pub IsPlain : Option JType → Type 0
  IsPlain found = (type : JType) × (found ≡ Some type) × (is_whole_type world type ≡ true)

  promoted_whole : (type : JType) → IsPromoted type → is_whole_type world type ≡ true
  promoted_whole _ an_int = refl
  promoted_whole _ a_long = refl
  promoted_whole _ a_float = refl
  promoted_whole _ a_double = refl

  promotes_plain : {found : Option JType} → Promotes found → IsPlain found
  promotes_plain p = (p.0, p.1, promoted_whole p.0 p.2)

  -- what an operator gives of two types
  abbrev Gives : Typing → StaticType → StaticType → Type 0
  Gives typing first second = IsPlain (result_type typing (plain (Some first)) (plain (Some second)))

  numbers_give : (first second : StaticType) → AreBoth world is_number first second → Gives OfNumbers first second
  numbers_give _ _ (both_are {first} {second} one other) = promotes_plain (both_promote first second one other)

  shift_gives : (first second : StaticType) → AreBoth world is_integral first second → Gives OfShift first second
  shift_gives _ _ (both_are {first} {second} one other) = promotes_plain (number_promoted first (integral_number first one))

  test_gives : (first second : StaticType) → Gives OfTest first second
  test_gives first second = (Boolean, refl, refl)

  number_bits : (first second : StaticType) → AreBoth world is_integral first second → Gives OfBits first second
  number_bits _ _ (both_are {first} {second} one other) =
      subst IsPlain (sym (bits_of_numbers first second (integral_number first one))) (promotes_plain (both_promote first second (integral_number first one) (integral_number second other)))

  truth_bits : (first second : StaticType) → AreBoth world is_boolean first second → Gives OfBits first second
  truth_bits _ _ (both_are {first} {second} one other) = subst (λ type. IsPlain (bits_type type second)) (sym (is_boolean_true first one)) (Boolean, refl, refl)

  bits_give : (first second : StaticType) → takes world Bits first second ≡ true → Gives OfBits first second
  bits_give first second is =
      elim (or_cases (are_both is_integral first second) (are_both is_boolean first second) is) [
        | inl numbers ↦ number_bits first second (both_from world is_integral first second numbers)
        | inr booleans ↦ truth_bits first second (both_from world is_boolean first second booleans)
      ]

  pub operator_gives : (operator : Op) (first second : StaticType) → takes world (operands_of operator) first second ≡ true → Gives (typing_of operator) first second
  operator_gives op.Mul first second is = numbers_give first second (both_from world is_number first second is)
  operator_gives op.Div first second is = numbers_give first second (both_from world is_number first second is)
  operator_gives op.Rem first second is = numbers_give first second (both_from world is_number first second is)
  operator_gives op.Add first second is = numbers_give first second (both_from world is_number first second is)
  operator_gives op.Sub first second is = numbers_give first second (both_from world is_number first second is)
  operator_gives op.Shl first second is = shift_gives first second (both_from world is_integral first second is)
  operator_gives op.Shr first second is = shift_gives first second (both_from world is_integral first second is)
  operator_gives op.Ushr first second is = shift_gives first second (both_from world is_integral first second is)
  operator_gives op.Lt first second is = test_gives first second
  operator_gives op.Le first second is = test_gives first second
  operator_gives op.Gt first second is = test_gives first second
  operator_gives op.Ge first second is = test_gives first second
  operator_gives op.Eq first second is = test_gives first second
  operator_gives op.Ne first second is = test_gives first second
  operator_gives op.And first second is = bits_give first second is
  operator_gives op.Xor first second is = bits_give first second is
  operator_gives op.Or first second is = bits_give first second is
  operator_gives op.AndAlso first second is = test_gives first second
  operator_gives op.OrElse first second is = test_gives first second

  pub minus_gives : (type : StaticType) → is_of is_number type ≡ true → IsPlain (option_and_then promoted (plain (Some type)))
  minus_gives types.Null is = absurd (false≢true is)
  minus_gives (Of type) is = promotes_plain (number_promoted type is)
