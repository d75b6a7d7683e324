-- What operators make of operands of the types that they take (JLS 15.15 to 15.24).
use Rattle.std.proofs.Common.{◌≡◌, ℕ, ℤ, pos, Bool, true, false, not, ◌||◌, IsSome, if◌then◌else◌, codes, Option, Some, None, option_and_then, int_eq, refl, sym, ap, subst, inl, inr, ◌⊎◌, List}
use Rattle.std.specs.Int.{Width, cast_signed, cast_unsigned, int_wrapping_add, int_wrapping_sub, int_wrapping_mul, int_wrapping_div, int_bit_and, int_bit_or, int_bit_xor, int_shl, int_shr}
use Rattle.std.specs.Prelude.{◌/◌, ◌^◌, int_lt, int_le, int_rem}
use Rattle.std.proofs.lemmas.Bool.{false≢true, and_parts, or_cases}
use Rattle.dj_names.specs.declared.header.Header.{Header}
use Rattle.dj_names.specs.Types as types
use Rattle.dj_names.specs.Types.{JType, Boolean, Byte, Char, Short, Float, Double, Class, Array, StaticType, Of}
use Rattle.dj_names.specs.Assignable.{IsReference}
use Rattle.dj_syntax.specs.declared.operator.Op.{Op}
use Rattle.dj_syntax.specs.declared.operator.Op.TheVariants as op
use Rattle.dj_values.specs.Values.{RefValue, Value, Int, Long, Null, Ref}
use Rattle.dj_values.specs.Fits.{int_range}
use Rattle.dj_values.specs.Outcomes.{Reply, Gives}
use Rattle.dj_meaning.specs.Operators.{truth, arithmetic, division, shift, comparison, equality, Operator, Strict, After, operator_of}
use Rattle.dj_meaning.specs.UnaryOperators.{negated, inverted}
use Rattle.dj_meaning.specs.Promotions.{promoted, wider, promoted_both, Typing, OfNumbers, OfShift, OfTest, OfBits, OfTruths, typing_of, bits_type, both, result_type, is_floating, becomes_floating}
use Rattle.dj_meaning.specs.StaticTypes.{plain, typed}
use Rattle.dj_typing.specs.Casting.{is_number}
use Rattle.dj_typing.specs.Operands.{is_of, is_boolean, is_int, is_integral, is_object, Equals, Bits, operands_of, are_both, may_be_same, takes}
use Rattle.dj_held.specs.Values.{IsHeld, IsNull, IsOf, IsOfSome}
use Rattle.dj_held.specs.Replies.{Replied}
use Rattle.dj_held.proofs.Ending.{gives, trap_replies}
use Rattle.dj_held.proofs.Converting.{is_reference_true, reference_true, may_be_references}

-- ---- numbers

-- a value of a number type: an int or a long
pub data IsNumberOf (type : JType) : Value → Type 0 where
  int : {amount : ℤ} → promoted type ≡ Some types.Int → IsNumberOf type (Int amount)
  long : {amount : ℤ} → promoted type ≡ Some types.Long → IsNumberOf type (Long amount)

no_reference_number : (type : JType) → is_number type ≡ true → IsReference type → ⊥
no_reference_number (Class name) is reference = false≢true is
no_reference_number (Array element) is reference = false≢true is
no_reference_number Boolean is reference = reference
no_reference_number Byte is reference = reference
no_reference_number Char is reference = reference
no_reference_number Short is reference = reference
no_reference_number types.Int is reference = reference
no_reference_number types.Long is reference = reference
no_reference_number Float is reference = reference
no_reference_number Double is reference = reference

int_number : (type : JType) (amount : ℤ) → is_number type ≡ true → IsSome (int_range type) → IsNumberOf type (Int amount)
int_number Byte amount is held = int refl
int_number Char amount is held = int refl
int_number Short amount is held = int refl
int_number types.Int amount is held = int refl
int_number Boolean amount is held = absurd (false≢true is)
int_number type amount is held = absurd (false≢true held)

pub number_held : (headers : List Header) (type : JType) (value : Value) → is_number type ≡ true → IsHeld headers type value → IsNumberOf type value
number_held headers type (Int amount) is held = int_number type amount is held
number_held headers type (Long amount) is held = long (ap promoted held)
number_held headers type Null is held = absurd (no_reference_number type is held)
number_held headers type (Ref reference) is held = absurd (no_reference_number type is held.wanted)

both_promoted : (first second : JType) {one other : JType} → promoted first ≡ Some one → promoted second ≡ Some other → promoted_both first second ≡ wider one other
both_promoted first second left right = λ i. option_and_then (λ one. option_and_then (wider one) (right i)) (left i)

pub is_boolean_true : (type : JType) → is_boolean type ≡ true → type ≡ Boolean
is_boolean_true Boolean is = refl
is_boolean_true Byte is = absurd (false≢true is)
is_boolean_true Char is = absurd (false≢true is)
is_boolean_true Short is = absurd (false≢true is)
is_boolean_true types.Int is = absurd (false≢true is)
is_boolean_true types.Long is = absurd (false≢true is)
is_boolean_true Float is = absurd (false≢true is)
is_boolean_true Double is = absurd (false≢true is)
is_boolean_true (Class name) is = absurd (false≢true is)
is_boolean_true (Array element) is = absurd (false≢true is)

pub integral_number : (type : JType) → is_integral type ≡ true → is_number type ≡ true
integral_number Boolean is = is
integral_number Byte is = refl
integral_number Char is = refl
integral_number Short is = refl
integral_number types.Int is = refl
integral_number types.Long is = refl
integral_number Float is = refl
integral_number Double is = refl
integral_number (Class name) is = is
integral_number (Array element) is = is

pub bits_of_numbers : (first second : JType) → is_number first ≡ true → bits_type first second ≡ promoted_both first second
bits_of_numbers Boolean second is = absurd (false≢true is)
bits_of_numbers Byte second is = refl
bits_of_numbers Char second is = refl
bits_of_numbers Short second is = refl
bits_of_numbers types.Int second is = refl
bits_of_numbers types.Long second is = refl
bits_of_numbers Float second is = refl
bits_of_numbers Double second is = refl
bits_of_numbers (Class name) second is = absurd (false≢true is)
bits_of_numbers (Array element) second is = absurd (false≢true is)

-- an int
pub data IsInt : Value → Type 0 where
  an_int : {amount : ℤ} → IsInt (Int amount)

no_int_reference : (type : JType) → IsSome (int_range type) → IsReference type → ⊥
no_int_reference (Class name) is reference = false≢true is
no_int_reference (Array element) is reference = false≢true is
no_int_reference Boolean is reference = reference
no_int_reference Byte is reference = reference
no_int_reference Char is reference = reference
no_int_reference Short is reference = reference
no_int_reference types.Int is reference = reference
no_int_reference types.Long is reference = reference
no_int_reference Float is reference = reference
no_int_reference Double is reference = reference

int_of_range : (headers : List Header) (type : JType) (value : Value) → IsSome (int_range type) → IsHeld headers type value → IsInt value
int_of_range headers type (Int amount) is held = an_int
int_of_range headers type (Long amount) is held = absurd (false≢true (subst (λ type. IsSome (int_range type)) held is))
int_of_range headers type Null is held = absurd (no_int_reference type is held)
int_of_range headers type (Ref reference) is held = absurd (no_int_reference type is held.wanted)

pub boolean_int : (headers : List Header) (type : StaticType) (value : Value) → is_of is_boolean type ≡ true → IsOf headers type value → IsInt value
boolean_int headers types.Null value is held = absurd (false≢true is)
boolean_int headers (Of type) value is held = int_of_range headers Boolean value refl (subst (λ type. IsHeld headers type value) (is_boolean_true type is) held)

int_ranged : (type : JType) → is_int type ≡ true → IsSome (int_range type)
int_ranged Boolean is = refl
int_ranged Byte is = refl
int_ranged Char is = refl
int_ranged Short is = refl
int_ranged types.Int is = refl
int_ranged types.Long is = is
int_ranged Float is = is
int_ranged Double is = is
int_ranged (Class name) is = is
int_ranged (Array element) is = is

pub index_int : (headers : List Header) (type : StaticType) (value : Value) → is_of is_int type ≡ true → IsOf headers type value → IsInt value
index_int headers types.Null value is held = absurd (false≢true is)
index_int headers (Of type) value is held = int_of_range headers type value (int_ranged type is) held

-- a reference or null
pub data IsReferenceValue : Value → Type 0 where
  no_object : IsReferenceValue Null
  an_object : {reference : RefValue} → IsReferenceValue (Ref reference)

pub held_reference : (headers : List Header) (type : JType) (value : Value) → IsReference type → IsHeld headers type value → IsReferenceValue value
held_reference headers type Null is held = no_object
held_reference headers type (Ref reference) is held = an_object
held_reference headers type (Long amount) is held = absurd (subst IsReference held is)
held_reference headers type (Int amount) is held = absurd (no_int_reference type held is)

null_reference : (value : Value) → IsNull value → IsReferenceValue value
null_reference (Int amount) is = absurd is
null_reference (Long amount) is = absurd is
null_reference Null is = no_object
null_reference (Ref reference) is = absurd is

pub object_value : (headers : List Header) (type : StaticType) (value : Value) → is_object type ≡ true → IsOf headers type value → IsReferenceValue value
object_value headers types.Null value is held = null_reference value held
object_value headers (Of type) value is held = held_reference headers type value (reference_true type is) held

module _ (headers : List Header) where
  abbrev Is : Option JType → Reply Value → Type 0
  Is type reply = Replied Value headers (IsOfSome headers (typed type)) reply

  told : (type : Option JType) (known : JType) (value : Value) → type ≡ Some known → IsHeld headers known value → Is type (Gives value)
  told type known value same held = gives headers value (subst (λ type. IsOfSome headers (typed type) value) (sym same) held)

  if_replies : {So : Value → Type 0} (b : Bool) (first second : Reply Value) → Replied Value headers So first → Replied Value headers So second → Replied Value headers So (if b then first else second)
  if_replies true first second one other = one
  if_replies false first second one other = other

  pub truth_held : (b : Bool) → IsHeld headers Boolean (truth b)
  truth_held true = refl
  truth_held false = refl

  -- ---- binary operators of numbers

  arithmetic_gives : (operation : Width → ℤ → ℤ → ℤ) (first second : JType) (left right : Value) → IsNumberOf first left → IsNumberOf second right → Is (promoted_both first second) (arithmetic operation left right)
  arithmetic_gives operation first second _ _ (int one) (int other) = told _ types.Int _ (both_promoted first second one other) refl
  arithmetic_gives operation first second _ _ (int one) (long other) = told _ types.Long _ (both_promoted first second one other) refl
  arithmetic_gives operation first second _ _ (long one) (int other) = told _ types.Long _ (both_promoted first second one other) refl
  arithmetic_gives operation first second _ _ (long one) (long other) = told _ types.Long _ (both_promoted first second one other) refl

  division_gives : (operation : Width → ℤ → ℤ → ℤ) (first second : JType) (left right : Value) → IsNumberOf first left → IsNumberOf second right → Is (promoted_both first second) (division operation left right)
  division_gives operation first second _ _ (int one) (int {amount} other) = if_replies (int_eq amount (pos 0)) _ _ (trap_replies headers (codes "java/lang/ArithmeticException")) (told _ types.Int _ (both_promoted first second one other) refl)
  division_gives operation first second _ _ (int one) (long {amount} other) = if_replies (int_eq amount (pos 0)) _ _ (trap_replies headers (codes "java/lang/ArithmeticException")) (told _ types.Long _ (both_promoted first second one other) refl)
  division_gives operation first second _ _ (long one) (int {amount} other) = if_replies (int_eq amount (pos 0)) _ _ (trap_replies headers (codes "java/lang/ArithmeticException")) (told _ types.Long _ (both_promoted first second one other) refl)
  division_gives operation first second _ _ (long one) (long {amount} other) = if_replies (int_eq amount (pos 0)) _ _ (trap_replies headers (codes "java/lang/ArithmeticException")) (told _ types.Long _ (both_promoted first second one other) refl)

  shift_gives : (operation : Width → ℤ → ℕ → ℤ) (first second : JType) (left right : Value) → IsNumberOf first left → IsNumberOf second right → Is (promoted first) (shift operation left right)
  shift_gives operation first second _ _ (int one) (int other) = told _ types.Int _ one refl
  shift_gives operation first second _ _ (int one) (long other) = told _ types.Int _ one refl
  shift_gives operation first second _ _ (long one) (int other) = told _ types.Long _ one refl
  shift_gives operation first second _ _ (long one) (long other) = told _ types.Long _ one refl

  comparison_gives : (test : ℤ → ℤ → Bool) (first second : JType) (left right : Value) → IsNumberOf first left → IsNumberOf second right → Is (Some Boolean) (comparison test left right)
  comparison_gives test first second _ _ (int one) (int other) = gives headers _ (truth_held _)
  comparison_gives test first second _ _ (int one) (long other) = gives headers _ (truth_held _)
  comparison_gives test first second _ _ (long one) (int other) = gives headers _ (truth_held _)
  comparison_gives test first second _ _ (long one) (long other) = gives headers _ (truth_held _)

  number_equality : (answer : Bool → Bool) (first second : JType) (left right : Value) → IsNumberOf first left → IsNumberOf second right → Is (Some Boolean) (equality answer left right)
  number_equality answer first second _ _ (int one) (int other) = gives headers _ (truth_held _)
  number_equality answer first second _ _ (int one) (long other) = gives headers _ (truth_held _)
  number_equality answer first second _ _ (long one) (int other) = gives headers _ (truth_held _)
  number_equality answer first second _ _ (long one) (long other) = gives headers _ (truth_held _)

  int_equality : (answer : Bool → Bool) (left right : Value) → IsInt left → IsInt right → Is (Some Boolean) (equality answer left right)
  int_equality answer _ _ an_int an_int = gives headers _ (truth_held _)

  reference_equality : (answer : Bool → Bool) (left right : Value) → IsReferenceValue left → IsReferenceValue right → Is (Some Boolean) (equality answer left right)
  reference_equality answer _ _ no_object no_object = gives headers _ (truth_held _)
  reference_equality answer _ _ no_object an_object = gives headers _ (truth_held _)
  reference_equality answer _ _ an_object no_object = gives headers _ (truth_held _)
  reference_equality answer _ _ an_object an_object = gives headers _ (truth_held _)

  int_bits : (operation : Width → ℤ → ℤ → ℤ) (left right : Value) → IsInt left → IsInt right → Is (Some Boolean) (arithmetic operation left right)
  int_bits operation _ _ an_int an_int = gives headers _ refl

  -- ---- what operators take

  -- two operands of types that pass a test
  pub data AreBoth (test : JType → Bool) : StaticType → StaticType → Type 0 where
    both_are : {first second : JType} → test first ≡ true → test second ≡ true → AreBoth test (Of first) (Of second)

  pub both_from : (test : JType → Bool) (first second : StaticType) → are_both test first second ≡ true → AreBoth test first second
  both_from test types.Null second is = absurd (false≢true is)
  both_from test (Of first) types.Null is = absurd (false≢true (and_parts (test first) false is).1)
  both_from test (Of first) (Of second) is = let each = and_parts (test first) (test second) is in both_are each.0 each.1

  same_objects : (world : List Header) (first second : StaticType) → may_be_same world first second ≡ true → (is_object first ≡ true) × (is_object second ≡ true)
  same_objects world types.Null second is = (refl, is)
  same_objects world (Of first) types.Null is = (is, refl)
  same_objects world (Of first) (Of second) is =
      let each = may_be_references world first second is in
      (is_reference_true first each.0, is_reference_true second each.1)

  -- what an operator that evaluates both operands makes of them
  abbrev pub Makes : StaticType → StaticType → Value → Value → Typing → Operator → Type 0
  Makes first second left right typing (Strict operation) = Is (result_type typing (plain (Some first)) (plain (Some second))) (operation left right)
  Makes first second left right typing (After wanted) = Unit {0}

  arithmetic_case : (operation : Width → ℤ → ℤ → ℤ) (first second : StaticType) (left right : Value) → AreBoth is_number first second → IsOf headers first left → IsOf headers second right
      → Makes first second left right OfNumbers (Strict (arithmetic operation))
  arithmetic_case operation _ _ left right (both_are {first} {second} one other) held also = arithmetic_gives operation first second left right (number_held headers first left one held) (number_held headers second right other also)

  division_case : (operation : Width → ℤ → ℤ → ℤ) (first second : StaticType) (left right : Value) → AreBoth is_number first second → IsOf headers first left → IsOf headers second right
      → Makes first second left right OfNumbers (Strict (division operation))
  division_case operation _ _ left right (both_are {first} {second} one other) held also = division_gives operation first second left right (number_held headers first left one held) (number_held headers second right other also)

  shift_case : (operation : Width → ℤ → ℕ → ℤ) (first second : StaticType) (left right : Value) → AreBoth is_integral first second → IsOf headers first left → IsOf headers second right
      → Makes first second left right OfShift (Strict (shift operation))
  shift_case operation _ _ left right (both_are {first} {second} one other) held also =
      shift_gives operation first second left right (number_held headers first left (integral_number first one) held) (number_held headers second right (integral_number second other) also)

  comparison_case : (test : ℤ → ℤ → Bool) (first second : StaticType) (left right : Value) → AreBoth is_number first second → IsOf headers first left → IsOf headers second right
      → Makes first second left right OfTest (Strict (comparison test))
  comparison_case test _ _ left right (both_are {first} {second} one other) held also = comparison_gives test first second left right (number_held headers first left one held) (number_held headers second right other also)

  number_case : (answer : Bool → Bool) (first second : StaticType) (left right : Value) → AreBoth is_number first second → IsOf headers first left → IsOf headers second right
      → Makes first second left right OfTest (Strict (equality answer))
  number_case answer _ _ left right (both_are {first} {second} one other) held also = number_equality answer first second left right (number_held headers first left one held) (number_held headers second right other also)

  boolean_case : (answer : Bool → Bool) (first second : StaticType) (left right : Value) → AreBoth is_boolean first second → IsOf headers first left → IsOf headers second right
      → Makes first second left right OfTest (Strict (equality answer))
  boolean_case answer _ _ left right (both_are {first} {second} one other) held also = int_equality answer left right (boolean_int headers (Of first) left one held) (boolean_int headers (Of second) right other also)

  equality_case : (world : List Header) (answer : Bool → Bool) (first second : StaticType) (left right : Value) → takes world Equals first second ≡ true → IsOf headers first left → IsOf headers second right
      → Makes first second left right OfTest (Strict (equality answer))
  equality_case world answer first second left right is held also =
      elim (or_cases (are_both is_number first second || are_both is_boolean first second) (may_be_same world first second) is) [
        | inl plain ↦ elim (or_cases (are_both is_number first second) (are_both is_boolean first second) plain) [
          | inl numbers ↦ number_case answer first second left right (both_from is_number first second numbers) held also
          | inr booleans ↦ boolean_case answer first second left right (both_from is_boolean first second booleans) held also
        ]
        | inr same ↦ let each = same_objects world first second same in
            reference_equality answer left right (object_value headers first left each.0 held) (object_value headers second right each.1 also)
      ]

  integral_bits : (operation : Width → ℤ → ℤ → ℤ) (first second : StaticType) (left right : Value) → AreBoth is_integral first second → IsOf headers first left → IsOf headers second right
      → Makes first second left right OfBits (Strict (arithmetic operation))
  integral_bits operation _ _ left right (both_are {first} {second} one other) held also =
      subst (λ type. Is type (arithmetic operation left right)) (sym (bits_of_numbers first second (integral_number first one)))
      (arithmetic_gives operation first second left right (number_held headers first left (integral_number first one) held) (number_held headers second right (integral_number second other) also))

  boolean_bits : (operation : Width → ℤ → ℤ → ℤ) (first second : StaticType) (left right : Value) → AreBoth is_boolean first second → IsOf headers first left → IsOf headers second right
      → Makes first second left right OfBits (Strict (arithmetic operation))
  boolean_bits operation _ _ left right (both_are {first} {second} one other) held also =
      subst (λ type. Is (bits_type type second) (arithmetic operation left right)) (sym (is_boolean_true first one))
      (int_bits operation left right (boolean_int headers (Of first) left one held) (boolean_int headers (Of second) right other also))

  bits_case : (operation : Width → ℤ → ℤ → ℤ) (world : List Header) (first second : StaticType) (left right : Value) → takes world Bits first second ≡ true → IsOf headers first left → IsOf headers second right
      → Makes first second left right OfBits (Strict (arithmetic operation))
  bits_case operation world first second left right is held also =
      elim (or_cases (are_both is_integral first second) (are_both is_boolean first second) is) [
        | inl numbers ↦ integral_bits operation first second left right (both_from is_integral first second numbers) held also
        | inr booleans ↦ boolean_bits operation first second left right (both_from is_boolean first second booleans) held also
      ]

  -- an operator gives a value of its result's type
  pub operates : (world : List Header) (operator : Op) (first second : StaticType) (left right : Value) → takes world (operands_of operator) first second ≡ true → IsOf headers first left → IsOf headers second right
      → Makes first second left right (typing_of operator) (operator_of operator)
  operates world op.Mul first second left right is = arithmetic_case int_wrapping_mul first second left right (both_from is_number first second is)
  operates world op.Div first second left right is = division_case int_wrapping_div first second left right (both_from is_number first second is)
  operates world op.Rem first second left right is = division_case (λ width a b. int_rem a b) first second left right (both_from is_number first second is)
  operates world op.Add first second left right is = arithmetic_case int_wrapping_add first second left right (both_from is_number first second is)
  operates world op.Sub first second left right is = arithmetic_case int_wrapping_sub first second left right (both_from is_number first second is)
  operates world op.Shl first second left right is = shift_case int_shl first second left right (both_from is_integral first second is)
  operates world op.Shr first second left right is = shift_case (λ width a distance. int_shr a distance) first second left right (both_from is_integral first second is)
  operates world op.Ushr first second left right is = shift_case (λ width a distance. cast_signed width (cast_unsigned width a / 2 ^ distance)) first second left right (both_from is_integral first second is)
  operates world op.Lt first second left right is = comparison_case int_lt first second left right (both_from is_number first second is)
  operates world op.Le first second left right is = comparison_case int_le first second left right (both_from is_number first second is)
  operates world op.Gt first second left right is = comparison_case (λ a b. int_lt b a) first second left right (both_from is_number first second is)
  operates world op.Ge first second left right is = comparison_case (λ a b. int_le b a) first second left right (both_from is_number first second is)
  operates world op.Eq first second left right is = equality_case world (λ equal. equal) first second left right is
  operates world op.Ne first second left right is = equality_case world not first second left right is
  operates world op.And first second left right is = bits_case int_bit_and world first second left right is
  operates world op.Xor first second left right is = bits_case int_bit_xor world first second left right is
  operates world op.Or first second left right is = bits_case int_bit_or world first second left right is
  operates world op.AndAlso first second left right is = λ held also. tt
  operates world op.OrElse first second left right is = λ held also. tt

  -- ---- operators of one operand

  minus_gives : (type : JType) (value : Value) → IsNumberOf type value → Is (promoted type) (negated value)
  minus_gives type _ (int one) = told _ types.Int _ one refl
  minus_gives type _ (long one) = told _ types.Long _ one refl

  pub negates : (type : StaticType) (value : Value) → is_of is_number type ≡ true → IsOf headers type value → Is (option_and_then promoted (plain (Some type))) (negated value)
  negates types.Null value is held = absurd (false≢true is)
  negates (Of type) value is held = minus_gives type value (number_held headers type value is held)

  pub inverts : (value : Value) → IsInt value → Is (Some Boolean) (inverted value)
  inverts _ an_int = gives headers _ (truth_held _)

  -- ---- no value is a float or double

  -- a type that promotion gives is neither
  abbrev NoFloat : Option JType → Type 0
  NoFloat type = (type ≡ None) ⊎ ((type ≡ Some types.Int) ⊎ (type ≡ Some types.Long))

  no_number : {type : JType} {value : Value} → ¬ (promoted type ≡ Some types.Int) → ¬ (promoted type ≡ Some types.Long) → IsNumberOf type value → ⊥
  no_number no_int no_long (int one) = no_int one
  no_number no_int no_long (long one) = no_long one

  no_float : (type : JType) (value : Value) → IsHeld headers type value → NoFloat (promoted type)
  no_float Boolean value held = inl refl
  no_float Byte value held = inr (inl refl)
  no_float Char value held = inr (inl refl)
  no_float Short value held = inr (inl refl)
  no_float types.Int value held = inr (inl refl)
  no_float types.Long value held = inr (inr refl)
  no_float Float value held = absurd (no_number (λ is. cc) (λ is. cc) (number_held headers Float value refl held))
  no_float Double value held = absurd (no_number (λ is. cc) (λ is. cc) (number_held headers Double value refl held))
  no_float (Class name) value held = inl refl
  no_float (Array element) value held = inl refl

  neither_floats : (first second : Option JType) → NoFloat first → NoFloat second → is_floating (option_and_then (λ one. option_and_then (wider one) second) first) ≡ false
  neither_floats first second (inl none) other = subst (λ first. is_floating (option_and_then (λ one. option_and_then (wider one) second) first) ≡ false) (sym none) refl
  neither_floats first second (inr (inl is)) (inl none) = rw (is, none) refl
  neither_floats first second (inr (inl is)) (inr (inl also)) = rw (is, also) refl
  neither_floats first second (inr (inl is)) (inr (inr also)) = rw (is, also) refl
  neither_floats first second (inr (inr is)) (inl none) = rw (is, none) refl
  neither_floats first second (inr (inr is)) (inr (inl also)) = rw (is, also) refl
  neither_floats first second (inr (inr is)) (inr (inr also)) = rw (is, also) refl

  both_float : (first second : StaticType) (left right : Value) → IsOf headers first left → IsOf headers second right → is_floating (both promoted_both (plain (Some first)) (plain (Some second))) ≡ false
  both_float types.Null second left right held also = refl
  both_float (Of first) types.Null left right held also = refl
  both_float (Of first) (Of second) left right held also = neither_floats (promoted first) (promoted second) (no_float first left held) (no_float second right also)

  pub not_floating : (typing : Typing) (first second : StaticType) (left right : Value) → IsOf headers first left → IsOf headers second right → becomes_floating typing (plain (Some first)) (plain (Some second)) ≡ false
  not_floating OfNumbers first second left right held also = both_float first second left right held also
  not_floating OfShift first second left right held also = refl
  not_floating OfTest first second left right held also = both_float first second left right held also
  not_floating OfBits first second left right held also = refl
  not_floating OfTruths first second left right held also = refl
