-- A value of one type where another is wanted: by assignment and by cast nothing is stuck (JLS 5.2, 5.3, 5.5).
use Rattle.std.proofs.Common.{◌≡◌, ℤ, Bool, true, false, ◌||◌, IsSome, if◌then◌else◌, codes, List, refl, subst}
use Rattle.std.proofs.lemmas.Bool.{false≢true}
use Rattle.dj_names.specs.declared.header.Header.{Header}
use Rattle.dj_names.specs.Types as types
use Rattle.dj_names.specs.Types.{JType, Boolean, Byte, Char, Short, Float, Double, Class, Array, StaticType, Of}
use Rattle.dj_names.specs.Assignable.{IsReference}
use Rattle.dj_values.specs.Values.{RefValue, Value, Int, Long, Null, Ref}
use Rattle.dj_values.specs.Fits.{int_range}
use Rattle.dj_values.specs.Deciding.{is_reference, is_own_or_wider, is_subtype}
use Rattle.dj_values.specs.Outcomes.{More, Reply, Gives, Halts, trap}
use Rattle.dj_values.proofs.Deciding.{Decides-subtype}
use Rattle.dj_meaning.specs.Calls.{is_assignable}
use Rattle.dj_meaning.specs.Conversions.{converted_int, converted_long, converted_reference, converted, cast_long, cast_reference, cast}
use Rattle.dj_typing.specs.Casting.{is_number, may_be, may_cast}
use Rattle.dj_widened.specs.Widens.{Widens}
use Rattle.dj_widened.proofs.Types.{subtype_kept}
use Rattle.dj_held.specs.Values.{IsObjectOf, IsHeld, IsOf, further, itself}
use Rattle.dj_held.specs.Replies.{Replied}
use Rattle.dj_held.proofs.Goes.{reference_step, object_goes}
use Rattle.dj_held.proofs.Ending.{gives, trap_replies}

pub is_reference_true : (type : JType) → IsReference type → is_reference type ≡ true
is_reference_true (Class name) is = refl
is_reference_true (Array element) is = refl
is_reference_true Boolean is = absurd is
is_reference_true Byte is = absurd is
is_reference_true Char is = absurd is
is_reference_true Short is = absurd is
is_reference_true types.Int is = absurd is
is_reference_true types.Long is = absurd is
is_reference_true Float is = absurd is
is_reference_true Double is = absurd is

pub reference_true : (type : JType) → is_reference type ≡ true → IsReference type
reference_true (Class name) is = tt
reference_true (Array element) is = tt
reference_true Boolean is = false≢true is
reference_true Byte is = false≢true is
reference_true Char is = false≢true is
reference_true Short is = false≢true is
reference_true types.Int is = false≢true is
reference_true types.Long is = false≢true is
reference_true Float is = false≢true is
reference_true Double is = false≢true is

-- an int goes to no class and to no array
int_no_class : (type : JType) (name : List _) → IsSome (int_range type) → is_own_or_wider type (Class name) ≡ true → ⊥
int_no_class Boolean name is goes = false≢true goes
int_no_class Byte name is goes = false≢true goes
int_no_class Char name is goes = false≢true goes
int_no_class Short name is goes = false≢true goes
int_no_class types.Int name is goes = false≢true goes
int_no_class type name is goes = false≢true is

int_no_array : (type element : JType) → IsSome (int_range type) → is_own_or_wider type (Array element) ≡ true → ⊥
int_no_array Boolean element is goes = false≢true goes
int_no_array Byte element is goes = false≢true goes
int_no_array Char element is goes = false≢true goes
int_no_array Short element is goes = false≢true goes
int_no_array types.Int element is goes = false≢true goes
int_no_array type element is goes = false≢true is

plain_goes : (headers : List Header) (type to : JType) → IsSome (int_range type) → is_subtype headers type to ≡ true → is_own_or_wider type to ≡ true
plain_goes headers Boolean to is goes = goes
plain_goes headers Byte to is goes = goes
plain_goes headers Char to is goes = goes
plain_goes headers Short to is goes = goes
plain_goes headers types.Int to is goes = goes
plain_goes headers types.Long to is goes = absurd (false≢true is)
plain_goes headers Float to is goes = absurd (false≢true is)
plain_goes headers Double to is goes = absurd (false≢true is)
plain_goes headers (Class name) to is goes = absurd (false≢true is)
plain_goes headers (Array element) to is goes = absurd (false≢true is)

may_be_reference : (world : List Header) (from to : JType) → may_be world from to ≡ true → IsReference from × IsReference to
may_be_reference world (Class from) (Class to) is = (tt, tt)
may_be_reference world (Class from) (Array to) is = (tt, tt)
may_be_reference world (Array from) (Class to) is = (tt, tt)
may_be_reference world (Array from) (Array to) is = (tt, tt)
may_be_reference world from to is = absurd (false≢true is)

-- two types that may both be an object's are references
pub may_be_references : (world : List Header) (from to : JType) → may_be world from to ≡ true → IsReference from × IsReference to
may_be_references = may_be_reference

or_no : (b : Bool) → (b || false) ≡ true → b ≡ true
or_no true is = refl
or_no false is = absurd (false≢true is)

int_casts : (world : List Header) (from to : JType) → IsSome (int_range from) → may_cast world (Of from) to ≡ true → is_number to ≡ true
int_casts world Boolean to is may = absurd (false≢true may)
int_casts world Byte to is may = or_no (is_number to) may
int_casts world Char to is may = or_no (is_number to) may
int_casts world Short to is may = or_no (is_number to) may
int_casts world types.Int to is may = or_no (is_number to) may
int_casts world types.Long to is may = absurd (false≢true is)
int_casts world Float to is may = absurd (false≢true is)
int_casts world Double to is may = absurd (false≢true is)
int_casts world (Class name) to is may = absurd (false≢true is)
int_casts world (Array element) to is may = absurd (false≢true is)

reference_casts : (world : List Header) (from to : JType) → IsReference from → may_cast world (Of from) to ≡ true → IsReference to
reference_casts world (Class name) to is may = (may_be_reference world (Class name) to may).1
reference_casts world (Array element) to is may = (may_be_reference world (Array element) to may).1
reference_casts world Boolean to is may = absurd is
reference_casts world Byte to is may = absurd is
reference_casts world Char to is may = absurd is
reference_casts world Short to is may = absurd is
reference_casts world types.Int to is may = absurd is
reference_casts world types.Long to is may = absurd is
reference_casts world Float to is may = absurd is
reference_casts world Double to is may = absurd is

module _ (headers : List Header) where
  abbrev Held : JType → Reply Value → Type 0
  Held type reply = Replied Value headers (IsHeld headers type) reply

  more : (type : JType) → Held type (Halts More)
  more type = record { so = tt }

  int_converts : (type to : JType) (number : ℤ) → IsSome (int_range type) → is_own_or_wider type to ≡ true → Held to (converted_int to number)
  int_converts type Boolean number is goes = gives headers _ refl
  int_converts type Byte number is goes = gives headers _ refl
  int_converts type Char number is goes = gives headers _ refl
  int_converts type Short number is goes = gives headers _ refl
  int_converts type types.Int number is goes = gives headers _ refl
  int_converts type types.Long number is goes = gives headers _ refl
  int_converts type Float number is goes = more Float
  int_converts type Double number is goes = more Double
  int_converts type (Class name) number is goes = absurd (int_no_class type name is goes)
  int_converts type (Array element) number is goes = absurd (int_no_array type element is goes)

  int_casts_to : (to : JType) (number : ℤ) → is_number to ≡ true → Held to (converted_int to number)
  int_casts_to Boolean number is = absurd (false≢true is)
  int_casts_to Byte number is = gives headers _ refl
  int_casts_to Char number is = gives headers _ refl
  int_casts_to Short number is = gives headers _ refl
  int_casts_to types.Int number is = gives headers _ refl
  int_casts_to types.Long number is = gives headers _ refl
  int_casts_to Float number is = more Float
  int_casts_to Double number is = more Double
  int_casts_to (Class name) number is = absurd (false≢true is)
  int_casts_to (Array element) number is = absurd (false≢true is)

  long_converts : (to : JType) (number : ℤ) → is_own_or_wider types.Long to ≡ true → Held to (converted_long to number)
  long_converts types.Long number goes = gives headers _ refl
  long_converts Float number goes = more Float
  long_converts Double number goes = more Double
  long_converts to number goes = absurd (false≢true goes)

  long_casts_to : (to : JType) (number : ℤ) → is_number to ≡ true → Held to (cast_long to number)
  long_casts_to Boolean number is = absurd (false≢true is)
  long_casts_to Byte number is = gives headers _ refl
  long_casts_to Char number is = gives headers _ refl
  long_casts_to Short number is = gives headers _ refl
  long_casts_to types.Int number is = gives headers _ refl
  long_casts_to types.Long number is = gives headers _ refl
  long_casts_to Float number is = more Float
  long_casts_to Double number is = more Double
  long_casts_to (Class name) number is = absurd (false≢true is)
  long_casts_to (Array element) number is = absurd (false≢true is)

  reference_converts : (to : JType) (value : Value) → IsReference to → IsHeld headers to value → Held to (converted_reference to value)
  reference_converts (Class name) value is held = gives headers value held
  reference_converts (Array element) value is held = gives headers value held
  reference_converts Boolean value is held = absurd is
  reference_converts Byte value is held = absurd is
  reference_converts Char value is held = absurd is
  reference_converts Short value is held = absurd is
  reference_converts types.Int value is held = absurd is
  reference_converts types.Long value is held = absurd is
  reference_converts Float value is held = absurd is
  reference_converts Double value is held = absurd is

  checked_by : (to : JType) (reference : RefValue) (b : Bool) → (b ≡ true → IsHeld headers to (Ref reference)) → Held to (if b then Gives (Ref reference) else trap (codes "java/lang/ClassCastException"))
  checked_by to reference true held = gives headers (Ref reference) (held refl)
  checked_by to reference false held = trap_replies headers (codes "java/lang/ClassCastException")

  reference_casts_to : (from to : JType) (reference : RefValue) → IsReference to → IsObjectOf headers from reference → Held to (cast_reference headers to reference)
  reference_casts_to from (Class name) reference is held =
      checked_by (Class name) reference (is_subtype headers reference.class (Class name)) (λ goes. record { wanted = tt; length = held.length; goes = further itself ((Decides-subtype headers reference.class (Class name)).0 goes) })
  reference_casts_to from (Array element) reference is held =
      checked_by (Array element) reference (is_subtype headers reference.class (Array element)) (λ goes. record { wanted = tt; length = held.length; goes = further itself ((Decides-subtype headers reference.class (Array element)).0 goes) })
  reference_casts_to from Boolean reference is held = absurd is
  reference_casts_to from Byte reference is held = absurd is
  reference_casts_to from Char reference is held = absurd is
  reference_casts_to from Short reference is held = absurd is
  reference_casts_to from types.Int reference is held = absurd is
  reference_casts_to from types.Long reference is held = absurd is
  reference_casts_to from Float reference is held = absurd is
  reference_casts_to from Double reference is held = absurd is

module _ (world headers : List Header) (wide : Widens world headers) where
  -- a value goes where its type does
  pub converts : (from : StaticType) (to : JType) (value : Value) → is_assignable world from to ≡ true → IsOf headers from value → Replied Value headers (IsHeld headers to) (converted to value)
  converts types.Null to (Int number) goes held = absurd held
  converts types.Null to (Long number) goes held = absurd held
  converts types.Null to Null goes held = reference_converts headers to Null (reference_true to goes) (reference_true to goes)
  converts types.Null to (Ref reference) goes held = absurd held
  converts (Of from) to (Int number) goes held = int_converts headers from to number held (plain_goes world from to held goes)
  converts (Of from) to (Long number) goes held = long_converts headers to number (subst (λ type. is_subtype world type to ≡ true) held goes)
  converts (Of from) to Null goes held =
      let is = reference_step world ((Decides-subtype world from to).0 goes) held in
      reference_converts headers to Null is is
  converts (Of from) to (Ref reference) goes held =
      let step = subtype_kept world headers wide ((Decides-subtype world from to).0 goes) in
      let object = object_goes headers step held in
      reference_converts headers to (Ref reference) object.wanted object

  -- a value is cast where its type may be
  pub casts : (from : StaticType) (to : JType) (value : Value) → may_cast world from to ≡ true → IsOf headers from value → Replied Value headers (IsHeld headers to) (cast headers to value)
  casts types.Null to (Int number) may held = absurd held
  casts types.Null to (Long number) may held = absurd held
  casts types.Null to Null may held = reference_converts headers to Null (reference_true to may) (reference_true to may)
  casts types.Null to (Ref reference) may held = absurd held
  casts (Of from) to (Int number) may held = int_casts_to headers to number (int_casts world from to held may)
  casts (Of from) to (Long number) may held = long_casts_to headers to number (or_no (is_number to) (subst (λ type. may_cast world (Of type) to ≡ true) held may))
  casts (Of from) to Null may held = let is = reference_casts world from to held may in reference_converts headers to Null is is
  casts (Of from) to (Ref reference) may held = reference_casts_to headers from to reference (reference_casts world from to held.wanted may) held
