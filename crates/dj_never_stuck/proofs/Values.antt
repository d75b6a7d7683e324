-- What is asked with values in statements: switches, and what is thrown; and what is stored to.
use Rattle.std.proofs.Common.{ℤ, true, List, [], Option, Some, None, IsSome, ◌≡◌, refl, sym, ap, ◌∙◌, subst}
use Rattle.std.specs.Prelude.{codes, is_some, option_and_then, if◌then◌else◌}
use Rattle.std.proofs.lemmas.Bool.{and_parts, false≢true}
use Rattle.dj_names.specs.declared.header.Header.{Header}
use Rattle.dj_names.specs.Headers.{Name}
use Rattle.dj_names.specs.Types as types
use Rattle.dj_names.specs.Types.{JType, Boolean, Byte, Char, Short, Float, Double, Class, Array, StaticType, Of}
use Rattle.dj_values.specs.Values.{RefValue, Value, Int, Long, Null, Ref, New, Thrown}
use Rattle.dj_values.specs.Fits.{throwable_name, IsThrowable}
use Rattle.dj_values.specs.Deciding.{is_type, is_array, is_reference, is_throwable}
use Rattle.dj_values.specs.Outcomes.{Throws, Stuck, Halts}
use Rattle.dj_values.proofs.Deciding.{Decides-answer}
use Rattle.dj_meaning.specs.Conversions.{converted}
use Rattle.dj_meaning.specs.Fields.{KnownField, Member, field_of, selected}
use Rattle.dj_meaning.specs.StaticTypes.{plain}
use Rattle.dj_meaning.specs.Objects.{with_object}
use Rattle.dj_meaning.specs.Statements.{number_of}
use Rattle.dj_widened.specs.Widens.{Widens}
use Rattle.dj_typing.specs.Sites.{Site}
use Rattle.dj_typing.specs.Operands.{is_of, is_int, if_typed}
use Rattle.dj_typing.specs.Expressions.{goes, selects, is_index}
use Rattle.dj_typed.specs.Stores.{may_assign, may_set_of}
use Rattle.dj_typed.specs.Statements.{throwable}
use Rattle.dj_held.specs.Values.{IsHeld, IsOfSome}
use Rattle.dj_held.specs.Replies.{Replies, Replied}
use Rattle.dj_held.proofs.Ending.{gives, trap_replies}
use Rattle.dj_held.proofs.Goes.{held_throwable}
use Rattle.dj_held.proofs.Converting.{converts}
use Rattle.dj_held.proofs.Operating.{IsInt, an_int, index_int, IsReferenceValue, object_value}

-- ---- ints

int_itself : (type : JType) → is_type types.Int type ≡ true → is_int type ≡ true
int_itself types.Int e = refl
int_itself Boolean e = absurd (false≢true e)
int_itself Byte e = absurd (false≢true e)
int_itself Char e = absurd (false≢true e)
int_itself Short e = absurd (false≢true e)
int_itself types.Long e = absurd (false≢true e)
int_itself Float e = absurd (false≢true e)
int_itself Double e = absurd (false≢true e)
int_itself (Class name) e = absurd (false≢true e)
int_itself (Array element) e = absurd (false≢true e)

-- an index is an int
pub index_value : (headers : List Header) (type : Option StaticType) (value : Value) → is_index type ≡ true → IsOfSome headers type value → IsInt value
index_value headers None value e held = absurd held
index_value headers (Some type) value e held = index_int headers type value e held

number_replies : (headers : List Header) (value : Value) → IsInt value → Replied ℤ headers (λ number. Unit {0}) (number_of value)
number_replies headers _ (an_int {amount}) = gives headers amount tt

-- what a switch is on is a number
pub numbers : (headers : List Header) (type : Option StaticType) (value : Value) → if_typed type (is_of (is_type types.Int)) ≡ true → IsOfSome headers type value → Replied ℤ headers (λ number. Unit {0}) (number_of value)
numbers headers None value e held = absurd held
numbers headers (Some types.Null) value e held = absurd (false≢true e)
numbers headers (Some (Of type)) value e held = number_replies headers value (index_int headers (Of type) value (int_itself type e) held)

-- ---- monitors and exceptions

-- a monitor is a reference or null
pub locks : (headers : List Header) (type : Option StaticType) (value : Value) → if_typed type (is_of is_reference) ≡ true → IsOfSome headers type value → IsReferenceValue value
locks headers None value e held = absurd held
locks headers (Some types.Null) value e held = absurd (false≢true e)
locks headers (Some (Of type)) value e held = object_value headers (Of type) value e held

throwable_true : (headers : List Header) (reference : RefValue) → IsThrowable headers reference → is_throwable headers reference ≡ true
throwable_true headers reference is = (Decides-answer headers (New []) (Thrown reference)).1 is

module _ (world headers : List Header) (wide : Widens world headers) where
  thrown_by : {A : Type 0} (So : A → Type 0) (value : Value) → Replied Value headers (IsHeld headers (Class throwable_name)) (converted (Class throwable_name) value)
      → Replied A headers So (with_object value (λ reference. Halts (if is_throwable headers reference then Throws reference else Stuck)))
  thrown_by So (Int number) held = absurd held.so
  thrown_by So (Long number) held = absurd held.so
  thrown_by So Null held = trap_replies headers (codes "java/lang/NullPointerException")
  thrown_by So (Ref reference) held =
      let is : IsThrowable headers reference = held_throwable headers wide.roots reference held.so in
      record { so = subst (λ b. Replies headers So (Halts (if b then Throws reference else Stuck))) (sym (throwable_true headers reference is)) is }

  -- what goes to Throwable is thrown, or traps
  pub throws : {A : Type 0} (So : A → Type 0) (type : Option StaticType) (value : Value) → goes world type throwable ≡ true → IsOfSome headers type value
      → Replied A headers So (with_object value (λ reference. Halts (if is_throwable headers reference then Throws reference else Stuck)))
  throws So None value e held = absurd held
  throws So (Some type) value e held = thrown_by So value (converts world headers wide type (Class throwable_name) value e held)

-- ---- what is stored to

-- a field is found in an object of a class, where it may be assigned
pub record FieldOf (site : Site) (name : Name) (found : Option StaticType) : Type 0 where
  pub class : Name
  pub field : KnownField
  pub typed : found ≡ Some (Of (Class class))
  pub selects : option_and_then (selected site.headers site.members site.class name) (plain found) ≡ Some (Member (Class class) field)

field_found : (site : Site) (name class : Name) (found : Option KnownField) → field_of site.headers site.members site.class (Some (Class class)) class name ≡ found
    → is_some (option_and_then (λ field. Some (Member (Class class) field)) found) ≡ true → FieldOf site name (Some (Of (Class class)))
field_found site name class None is e = absurd (false≢true e)
field_found site name class (Some field) is e = record { class = class; field = field; typed = refl; selects = ap (option_and_then (λ field. Some (Member (Class class) field))) is }

pub field_there : (site : Site) (name : Name) (found : Option StaticType) → IsSome found → if_typed found (may_set_of site name) ≡ true → FieldOf site name found
field_there site name None some e = absurd (false≢true some)
field_there site name (Some types.Null) some e = absurd (false≢true e)
field_there site name (Some (Of (Class class))) some e =
    field_found site name class (field_of site.headers site.members site.class (Some (Class class)) class name) refl (and_parts (is_some (selected site.headers site.members site.class name (Class class))) (may_assign site class name) e).0
field_there site name (Some (Of Boolean)) some e = absurd (false≢true e)
field_there site name (Some (Of Byte)) some e = absurd (false≢true e)
field_there site name (Some (Of Char)) some e = absurd (false≢true e)
field_there site name (Some (Of Short)) some e = absurd (false≢true e)
field_there site name (Some (Of types.Int)) some e = absurd (false≢true e)
field_there site name (Some (Of types.Long)) some e = absurd (false≢true e)
field_there site name (Some (Of Float)) some e = absurd (false≢true e)
field_there site name (Some (Of Double)) some e = absurd (false≢true e)
field_there site name (Some (Of (Array element))) some e = absurd (false≢true e)

-- it is selected
pub field_selects : (site : Site) (name : Name) (found : Option StaticType) → FieldOf site name found → if_typed found (selects site name) ≡ true
field_selects site name found field =
    subst (λ type. if_typed type (selects site name) ≡ true) (sym field.typed)
    (ap is_some (sym (ap (λ type. option_and_then (selected site.headers site.members site.class name) (plain type)) field.typed) ∙ field.selects))

-- an array is found, where an element may be assigned
pub record ArrayOf (found : Option StaticType) : Type 0 where
  pub element : JType
  pub typed : found ≡ Some (Of (Array element))

pub array_there : (found : Option StaticType) → IsSome found → if_typed found (is_of is_array) ≡ true → ArrayOf found
array_there None some e = absurd (false≢true some)
array_there (Some types.Null) some e = absurd (false≢true e)
array_there (Some (Of (Array element))) some e = record { element = element; typed = refl }
array_there (Some (Of (Class class))) some e = absurd (false≢true e)
array_there (Some (Of Boolean)) some e = absurd (false≢true e)
array_there (Some (Of Byte)) some e = absurd (false≢true e)
array_there (Some (Of Char)) some e = absurd (false≢true e)
array_there (Some (Of Short)) some e = absurd (false≢true e)
array_there (Some (Of types.Int)) some e = absurd (false≢true e)
array_there (Some (Of types.Long)) some e = absurd (false≢true e)
array_there (Some (Of Float)) some e = absurd (false≢true e)
array_there (Some (Of Double)) some e = absurd (false≢true e)
