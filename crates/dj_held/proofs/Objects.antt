-- What objects, arrays and classes reply is of the types that are wanted (JLS 15.8 to 15.13, 15.20.2, 15.26.1).
use Rattle.std.proofs.Common.{◌≡◌, ℕ, ℤ, ◌≤◌, ◌==◌, pos, Bool, true, false, ◌&&◌, is_some, IsSome, IsNone, IsSomeAnd, if◌then◌else◌, codes, length, List, [], ◌∷◌, Contains, Option, Some, None, option_and_then, eqb-true, refl, sym, ap, subst, ◌∙◌, inl, inr, ◌⊎◌}
use Rattle.std.specs.Prelude.{int_lt, int_le, filter}
use Rattle.dj_kinds.specs.Search.{enough}
use Rattle.std.specs.List.{list_any}
use Rattle.std.proofs.lemmas.Bool.{false≢true, true≢false, and_parts}
use Rattle.std.proofs.lemmas.List.{nil_from_length}
use Rattle.dj_names.specs.declared.header.Header.{Header}
use Rattle.dj_names.specs.declared.members.Constant.{Constant}
use Rattle.dj_names.specs.declared.members.Constant.TheVariants as constant
use Rattle.dj_names.specs.Headers.{Name}
use Rattle.dj_names.specs.Types as types
use Rattle.dj_names.specs.Types.{JType, Boolean, Byte, Char, Short, Float, Double, Class, Array, StaticType, Of, Descriptor, parameters_of, result_of}
use Rattle.dj_names.specs.Assignable.{IsReference}
use Rattle.dj_values.specs.Values.{RefValue, Value, Int, Long, Null, Ref, InvokeKind, Virtual, Interface, Static, Special, New, NewArray, GetField, GetStatic, PutField, PutStatic, ArrayLoad, ArrayStore, Invoke, ClassConstant, Thrown}
use Rattle.dj_values.specs.Fits.{int_range, element_of, IsLengthOf, IsReferenceOf, IsValueOf, IsObject, IsThrowable}
use Rattle.dj_values.specs.Answers.{IsReferenceAnd, IsNewArray, IsArrayClone, IsResult, FitsAction}
use Rattle.dj_values.specs.Deciding.{is_name, is_array, is_array_clone, is_subtype}
use Rattle.dj_values.proofs.Deciding.{Decides-name}
use Rattle.dj_values.specs.Outcomes.{Reply, ask, ask_value, there, then_on, trap}
use Rattle.dj_meaning.specs.Members.{Field, Members}
use Rattle.dj_meaning.specs.Visible.{members_of, fields_in, allows}
use Rattle.dj_meaning.specs.Fields.{KnownField, known, own_field, field_owners, has_from, once, sole, usable, field_of, Selection, Length, Member, selected, named_field}
use Rattle.dj_meaning.specs.Targets.{Target, result}
use Rattle.dj_meaning.specs.Objects.{with_object, text, is_of, constant_value, static_read, field_read, field_written, length_read, with_int, with_place, element_read, element_held, element_written, with_ints, array_made, called}
use Rattle.dj_widened.proofs.Paths.{contains_in}
use Rattle.dj_widened.proofs.Choice.{in_found}
use Rattle.dj_widened.proofs.Asked.{then_from}
use Rattle.dj_held.specs.Values.{IsHeld, GoesTo, itself}
use Rattle.dj_held.specs.Replies.{Replied}
use Rattle.dj_held.specs.Running.{FitsField, AreMembers}
use Rattle.dj_held.proofs.Goes.{array_goes, fits_held, fits_object, exact_object, held_goes_on, Elements}
use Rattle.dj_held.proofs.Ending.{weaker_replies, gives, Told, ask_replies, ask_value_replies, trap_replies}
use Rattle.dj_held.proofs.Operating.{IsInt, an_int, IsReferenceValue, no_object, an_object, truth_held}

-- ---- fields that are found

-- a field that a name means is one that some class declares
pub record IsDeclared (world : List Header) (members : List Members) (found : KnownField) : Type 0 where
  pub owner : Name
  pub field : Field
  pub there : Contains (fields_in (members_of world members owner)) field
  pub is : known field ≡ found

module _ (world : List Header) (members : List Members) (from : Name) where
  usable_by : (field : Field) (found : KnownField) (b : Bool) → (if b then Some (known field) else None) ≡ Some found → known field ≡ found
  usable_by field found true is = cc
  usable_by field found false is = absurd cc

  field_declared : (through : Option JType) (class name : Name) (found : KnownField) → field_of world members from through class name ≡ Some found → IsDeclared world members found
  field_declared through class name found is =
      let owner = then_from (λ owner. option_and_then (usable world from through owner) (own_field world members name owner))
      (sole (filter (has_from world members name class) (once (field_owners (enough world) world members name class)))) found is in
      let field = then_from (usable world from through owner.0) (own_field world members name owner.0) found owner.2 in
      record {
        owner = owner.0;
        field = field.0;
        there = contains_in (fields_in (members_of world members owner.0)) field.0 (in_found (λ (field : Field). is_name field.name name) (fields_in (members_of world members owner.0)) field.0 field.1).1;
        is = usable_by field.0 found (allows world from owner.0 field.0.flags through) field.2;
      }

  of_class_by : (found other : KnownField) (b : Bool) → (if b then Some found else None) ≡ Some other → found ≡ other
  of_class_by found other true is = cc
  of_class_by found other false is = absurd cc

  pub static_declared : (class name : Name) (found : KnownField) → named_field world members from class name ≡ Some found → IsDeclared world members found
  static_declared class name found is =
      let one = then_from (λ (field : KnownField). if field.of_class then Some field else None) (field_of world members from None class name) found is in
      field_declared None class name found (one.1 ∙ ap Some (of_class_by one.0 found one.0.of_class one.2))

  -- what is selected of an object: of a class a field that is declared
  pub data IsSelected : JType → Selection → Type 0 where
    the_length : {element : JType} → IsSelected (Array element) Length
    a_member : {class : Name} {found : KnownField} → IsDeclared world members found → IsSelected (Class class) (Member (Class class) found)

  pub selected_is : (name : Name) (type : JType) (one : Selection) → selected world members from name type ≡ Some one → IsSelected type one
  selected_is name (Class class) one is =
      let found = then_from (λ field. Some (Member (Class class) field)) (field_of world members from (Some (Class class)) class name) one is in
      subst (IsSelected (Class class)) (let e : Member (Class class) found.0 ≡ one = (let s : Some (Member (Class class) found.0) ≡ Some one = found.2 in cc) in e) (a_member (field_declared (Some (Class class)) class name found.0 found.1))
  selected_is name (Array element) one is = by (is_name name (codes "length")) is
    where
      by : (b : Bool) → (if b then Some Length else None) ≡ Some one → IsSelected (Array element) one
      by true is = subst (IsSelected (Array element)) (let e : Length ≡ one = cc in e) the_length
      by false is = absurd cc
  selected_is name Boolean one is = absurd cc
  selected_is name Byte one is = absurd cc
  selected_is name Char one is = absurd cc
  selected_is name Short one is = absurd cc
  selected_is name types.Int one is = absurd cc
  selected_is name types.Long one is = absurd cc
  selected_is name Float one is = absurd cc
  selected_is name Double one is = absurd cc

-- its constant fits, where it has one
pub declared_fits : {world : List Header} {members : List Members} {found : KnownField} → AreMembers world members → IsDeclared world members found → (kept : Constant) → found.constant ≡ Some kept → FitsField found.type kept
declared_fits order declared kept is =
    subst (λ (found : KnownField). FitsField found.type kept) declared.is (order.constants declared.owner declared.field kept declared.there (ap (λ (found : KnownField). found.constant) declared.is ∙ is))

module _ (headers : List Header) where
  abbrev Held : JType → Reply Value → Type 0
  Held type reply = Replied Value headers (IsHeld headers type) reply

  -- ---- constants and fields

  pub text_held : (units : List ℕ) → IsHeld headers (Class (codes "java/lang/String")) (text units)
  text_held units = record { wanted = tt; length = refl; goes = itself }

  int_kept : (type : JType) (number : ℤ) → IsSome (int_range type) → Held type (constant_value type (constant.Int number))
  int_kept Boolean number is = gives headers _ refl
  int_kept Byte number is = gives headers _ refl
  int_kept Char number is = gives headers _ refl
  int_kept Short number is = gives headers _ refl
  int_kept types.Int number is = gives headers _ refl
  int_kept type number is = absurd (false≢true is)

  constant_replies : (type : JType) (kept : Constant) → FitsField type kept → Held type (constant_value type kept)
  constant_replies type (constant.Int number) fits = int_kept type number fits
  constant_replies type (constant.Long number) fits = subst (λ type. Held type (constant_value type (constant.Long number))) (sym fits) (gives headers (Long number) refl)
  constant_replies type (constant.Float bits) fits = record { so = tt }
  constant_replies type (constant.Double bits) fits = record { so = tt }
  constant_replies type (constant.Text units) fits = subst (λ type. Held type (constant_value type (constant.Text units))) (sym fits) (gives headers (text units) (text_held units))

  static_by : (class : JType) (name : Name) (of_class : Bool) (type : JType) (kept : Option Constant) → ((one : Constant) → kept ≡ Some one → FitsField type one)
      → Held type (static_read class name (record { of_class = of_class; type = type; constant = kept }))
  static_by class name of_class type None fits = weaker_replies headers (ask_value_replies headers (GetStatic class name type) (λ reference throws. throws) (λ done. done)) (λ value fits. fits_held headers type value fits)
  static_by class name of_class type (Some kept) fits = constant_replies type kept (fits kept refl)

  pub static_replies : (class : JType) (name : Name) (field : KnownField) → ((kept : Constant) → field.constant ≡ Some kept → FitsField field.type kept) → Held field.type (static_read class name field)
  static_replies class name field fits = static_by class name field.of_class field.type field.constant fits

  -- with an object: null traps
  pub object_replies : {A : Type 0} {So : A → Type 0} {next : RefValue → Reply A} (value : Value) → IsReferenceValue value → ((reference : RefValue) → Replied A headers So (next reference)) → Replied A headers So (with_object value next)
  object_replies _ no_object follows = trap_replies headers (codes "java/lang/NullPointerException")
  object_replies _ (an_object {reference}) follows = follows reference

  if_reply : {A : Type 0} {So : A → Type 0} (b : Bool) (first second : Reply A) → Replied A headers So first → Replied A headers So second → Replied A headers So (if b then first else second)
  if_reply true first second one other = one
  if_reply false first second one other = other

  pub field_replies : (class : JType) (name : Name) (field : KnownField) (object : Value) → ((kept : Constant) → field.constant ≡ Some kept → FitsField field.type kept) → IsReferenceValue object
      → Held field.type (field_read class name field object)
  field_replies class name field object fits is =
      if_reply field.of_class (static_read class name field) (with_object object (λ reference. ask_value (GetField reference class name field.type))) (static_replies class name field fits)
      (object_replies object is (λ reference. weaker_replies headers (ask_value_replies headers (GetField reference class name field.type) (λ reference throws. absurd throws) (λ done. done)) (λ value fits. fits_held headers field.type value fits)))

  pub length_replies : (array : Value) → IsReferenceValue array → Held types.Int (length_read array)
  length_replies array is = object_replies array is (λ reference. gives headers _ refl)

  -- a part that gives nothing
  abbrev Anything : Option Value → Type 0
  Anything found = Unit {0}

  pub written_replies : (class : JType) (name : Name) (field : KnownField) (object value : Value) → IsReferenceValue object → Replied (Option Value) headers Anything (field_written class name field object value)
  written_replies class name field object value is =
      if_reply field.of_class (ask (PutStatic class name field.type value)) (with_object object (λ reference. ask (PutField reference class name field.type value)))
      (weaker_replies headers (ask_replies headers (PutStatic class name field.type value) (λ reference throws. throws)) (λ found told. tt))
      (object_replies object is (λ reference. weaker_replies headers (ask_replies headers (PutField reference class name field.type value) (λ reference throws. absurd throws)) (λ found told. tt)))

  pub put_static_replies : (class : JType) (name : Name) (type : JType) (value : Value) → Replied (Option Value) headers Anything (ask (PutStatic class name type value))
  put_static_replies class name type value = weaker_replies headers (ask_replies headers (PutStatic class name type value) (λ reference throws. throws)) (λ found told. tt)

  -- ---- arrays

  int_replies : {A : Type 0} {So : A → Type 0} {next : ℤ → Reply A} (value : Value) → IsInt value → ((number : ℤ) → Replied A headers So (next number)) → Replied A headers So (with_int value next)
  int_replies _ (an_int {amount}) follows = follows amount

  -- an array's value: null, or an array whose elements go to these
  pub data IsArrayValue (element : JType) : Value → Type 0 where
    no_array : IsArrayValue element Null
    an_array : {reference : RefValue} (own : JType) → reference.class ≡ Array own → Elements headers own element → IsArrayValue element (Ref reference)

  pub array_value : (element : JType) (value : Value) → IsHeld headers (Array element) value → IsArrayValue element value
  array_value element (Int number) held = absurd (false≢true held)
  array_value element (Long number) held = absurd cc
  array_value element Null held = no_array
  array_value element (Ref reference) held = let found = array_goes headers element held.goes refl in an_array found.0 found.1 found.2

  element_fits : (own element : JType) (value : Value) → Elements headers own element → IsValueOf headers own value → IsHeld headers element value
  element_fits own element value (inl same) fits = subst (λ type. IsHeld headers type value) same (fits_held headers own value fits)
  element_fits own element value (inr (reference, steps)) fits = held_goes_on headers value reference steps (fits_held headers own value fits)

  place_replies : {A : Type 0} {So : A → Type 0} (element : JType) (next : RefValue → ℤ → Reply A) (array index : Value) → IsArrayValue element array → IsInt index
      → ((reference : RefValue) (own : JType) (place : ℤ) → reference.class ≡ Array own → Elements headers own element → Replied A headers So (next reference place)) → Replied A headers So (with_place array index next)
  place_replies element next _ _ no_array an_int follows = trap_replies headers (codes "java/lang/NullPointerException")
  place_replies element next _ _ (an_array {reference} own is elements) (an_int {amount}) follows =
      if_reply (int_le (pos 0) amount && int_lt amount (pos reference.length)) (next reference amount) (trap (codes "java/lang/ArrayIndexOutOfBoundsException"))
      (follows reference own amount is elements) (trap_replies headers (codes "java/lang/ArrayIndexOutOfBoundsException"))

  pub element_replies : (element : JType) (array index : Value) → IsArrayValue element array → IsInt index → Held element (element_read array index)
  element_replies element array index is place =
      place_replies element (λ reference place. ask_value (ArrayLoad reference place)) array index is place (λ reference own at same elements.
      weaker_replies headers (ask_value_replies headers (ArrayLoad reference at) (λ reference throws. absurd throws) (λ done. done)) (λ value fits.
      element_fits own element value elements (subst (λ type. IsSomeAnd (element_of type) (λ element. IsValueOf headers element value)) same fits)))

  store_replies : (array : RefValue) (own : JType) (place : ℤ) (value : Value) → array.class ≡ Array own → Replied (Option Value) headers Anything (element_held headers array place value)
  store_replies array own place (Int number) same = weaker_replies headers (ask_replies headers (ArrayStore array place (Int number)) (λ reference throws. absurd throws)) (λ found told. tt)
  store_replies array own place (Long number) same = weaker_replies headers (ask_replies headers (ArrayStore array place (Long number)) (λ reference throws. absurd throws)) (λ found told. tt)
  store_replies array own place Null same = weaker_replies headers (ask_replies headers (ArrayStore array place Null) (λ reference throws. absurd throws)) (λ found told. tt)
  store_replies array own place (Ref reference) same =
      subst (λ type. Replied (Option Value) headers Anything (then_on (there (element_of type)) (λ element.
      if is_subtype headers reference.class element then ask (ArrayStore array place (Ref reference)) else trap (codes "java/lang/ArrayStoreException")))) (sym same)
      (if_reply (is_subtype headers reference.class own) (ask (ArrayStore array place (Ref reference))) (trap (codes "java/lang/ArrayStoreException"))
      (weaker_replies headers (ask_replies headers (ArrayStore array place (Ref reference)) (λ reference throws. absurd throws)) (λ found told. tt)) (trap_replies headers (codes "java/lang/ArrayStoreException")))

  pub element_written_replies : (element : JType) (array index value : Value) → IsArrayValue element array → IsInt index → Replied (Option Value) headers Anything (element_written headers array index value)
  element_written_replies element array index value is place =
      place_replies element (λ reference place. element_held headers reference place value) array index is place (λ reference own at same elements. store_replies reference own at value same)

  -- each of these is an int
  abbrev pub AreInts : List Value → Type 0
  AreInts [] = Unit {0}
  AreInts (first ∷ rest) = IsInt first × AreInts rest

  ints_reply : {A : Type 0} {So : A → Type 0} (values : List Value) (next : List ℤ → Reply A) → AreInts values → ((numbers : List ℤ) → Replied A headers So (next numbers)) → Replied A headers So (with_ints values next)
  ints_reply [] next are follows = follows []
  ints_reply (first ∷ rest) next are follows = int_replies first are.0 (λ number. ints_reply rest (λ numbers. next (number ∷ numbers)) are.1 (λ numbers. follows (number ∷ numbers)))

  array_reference : (type : JType) → IsSome (element_of type) → IsReference type
  array_reference (Array element) is = tt
  array_reference (Class name) is = absurd (false≢true is)
  array_reference Boolean is = false≢true is
  array_reference Byte is = false≢true is
  array_reference Char is = false≢true is
  array_reference Short is = false≢true is
  array_reference types.Int is = false≢true is
  array_reference types.Long is = false≢true is
  array_reference Float is = false≢true is
  array_reference Double is = false≢true is

  array_length : (type : JType) (length : ℕ) → IsSome (element_of type) → length ≤ 2147483647 → IsLengthOf type length
  array_length (Array element) length is most = most
  array_length (Class name) length is most = absurd (false≢true is)
  array_length Boolean length is most = false≢true is
  array_length Byte length is most = false≢true is
  array_length Char length is most = false≢true is
  array_length Short length is most = false≢true is
  array_length types.Int length is most = false≢true is
  array_length types.Long length is most = false≢true is
  array_length Float length is most = false≢true is
  array_length Double length is most = false≢true is

  new_array_held : (type : JType) (sizes : List ℤ) (value : Value) → IsReferenceAnd (IsNewArray type sizes) value → IsHeld headers type value
  new_array_held type sizes (Int number) is = absurd is
  new_array_held type sizes (Long number) is = absurd is
  new_array_held type sizes Null is = absurd is
  new_array_held type sizes (Ref reference) is = record {
    wanted = array_reference type is.array;
    length = subst (λ class. IsLengthOf class reference.length) (sym is.exact) (array_length type reference.length is.array is.most);
    goes = subst (λ class. GoesTo headers class type) (sym is.exact) itself;
  }

  pub array_replies : (type : JType) (sizes : List Value) → AreInts sizes → Held type (array_made type sizes)
  array_replies type sizes are =
      ints_reply sizes (λ numbers. if list_any (λ size. int_lt size (pos 0)) numbers then trap (codes "java/lang/NegativeArraySizeException") else ask_value (NewArray type numbers)) are (λ numbers.
      if_reply (list_any (λ size. int_lt size (pos 0)) numbers) (trap (codes "java/lang/NegativeArraySizeException")) (ask_value (NewArray type numbers)) (trap_replies headers (codes "java/lang/NegativeArraySizeException"))
      (weaker_replies headers (ask_value_replies headers (NewArray type numbers) (λ reference throws. throws) (λ done. done)) (λ value is. new_array_held type numbers value is)))

  -- ---- new objects, classes, and tests of types

  exact_held : (class : Name) (value : Value) → IsReferenceAnd (IsObject class) value → IsHeld headers (Class class) value
  exact_held class (Int number) is = absurd is
  exact_held class (Long number) is = absurd is
  exact_held class Null is = absurd is
  exact_held class (Ref reference) is = exact_object headers class reference is

  pub new_replies : (class : Name) → Held (Class class) (ask_value (New class))
  new_replies class = weaker_replies headers (ask_value_replies headers (New class) (λ reference throws. throws) (λ done. done)) (λ value is. exact_held class value is)

  pub class_replies : (type : JType) → Held (Class (codes "java/lang/Class")) (ask_value (ClassConstant type))
  class_replies type = weaker_replies headers (ask_value_replies headers (ClassConstant type) (λ reference throws. throws) (λ done. done)) (λ value is. exact_held (codes "java/lang/Class") value is)

  pub is_of_replies : (type : JType) (value : Value) → IsReferenceValue value → Held Boolean (is_of headers type value)
  is_of_replies type _ no_object = gives headers _ (truth_held headers false)
  is_of_replies type _ (an_object {reference}) = gives headers _ (truth_held headers (is_subtype headers reference.class type))

  -- ---- calls

  -- what a call of a method of this name and descriptor gives
  abbrev pub CallGives : JType → Name → Descriptor → Option Value → Type 0
  CallGives owner name (types.Field type) found = ⊥
  CallGives owner name (types.Method parameters result) None = IsNone result
  CallGives owner name (types.Method parameters result) (Some value) = IsResult headers owner name parameters result value

  invoke_told : (kind : InvokeKind) (owner : JType) (name : Name) (descriptor : Descriptor) (values : List Value) (found : Option Value) → Told headers (Invoke kind owner name descriptor values) found → CallGives owner name descriptor found
  invoke_told kind owner name (types.Field type) values None told = told
  invoke_told kind owner name (types.Field type) values (Some value) told = told
  invoke_told kind owner name (types.Method parameters result) values None told = told
  invoke_told kind owner name (types.Method parameters result) values (Some value) told = told

  invoke_throws : (kind : InvokeKind) (owner : JType) (name : Name) (descriptor : Descriptor) (values : List Value) (reference : RefValue) → FitsAction headers (Invoke kind owner name descriptor values) (Thrown reference) → IsThrowable headers reference
  invoke_throws kind owner name (types.Field type) values reference fits = absurd fits
  invoke_throws kind owner name (types.Method parameters result) values reference fits = fits

  invoke_replies : (kind : InvokeKind) (owner : JType) (name : Name) (descriptor : Descriptor) (values : List Value) → Replied (Option Value) headers (CallGives owner name descriptor) (ask (Invoke kind owner name descriptor values))
  invoke_replies kind owner name descriptor values =
      weaker_replies headers (ask_replies headers (Invoke kind owner name descriptor values) (invoke_throws kind owner name descriptor values)) (λ found told. invoke_told kind owner name descriptor values found told)

  called_by : (kind : InvokeKind) (owner : JType) (name : Name) (descriptor : Descriptor) (object : Value) (values : List Value) → (kind ≡ Static) ⊎ IsReferenceValue object
      → Replied (Option Value) headers (CallGives owner name descriptor) (called (record { kind = kind; owner = owner; name = name; descriptor = descriptor }) object values)
  called_by Static owner name descriptor object values is = invoke_replies Static owner name descriptor values
  called_by Virtual owner name descriptor object values (inl is) = absurd cc
  called_by Interface owner name descriptor object values (inl is) = absurd cc
  called_by Special owner name descriptor object values (inl is) = absurd cc
  called_by Virtual owner name descriptor object values (inr is) = object_replies object is (λ reference. invoke_replies Virtual owner name descriptor (Ref reference ∷ values))
  called_by Interface owner name descriptor object values (inr is) = object_replies object is (λ reference. invoke_replies Interface owner name descriptor (Ref reference ∷ values))
  called_by Special owner name descriptor object values (inr is) = object_replies object is (λ reference. invoke_replies Special owner name descriptor (Ref reference ∷ values))

  pub called_replies : (asked : Target) (object : Value) (values : List Value) → (asked.kind ≡ Static) ⊎ IsReferenceValue object → Replied (Option Value) headers (CallGives asked.owner asked.name asked.descriptor) (called asked object values)
  called_replies asked object values is = called_by asked.kind asked.owner asked.name asked.descriptor object values is

  pub clone_is : (owner : JType) (name : Name) (parameters : List JType) → is_array_clone owner name parameters ≡ true → IsArrayClone owner name parameters
  clone_is owner name parameters is =
      let both = and_parts (is_array owner && is_name name (codes "clone")) (length parameters == 0) is in
      let first = and_parts (is_array owner) (is_name name (codes "clone")) both.0 in
      record { array = first.0; clone = (Decides-name name (codes "clone")).0 first.1; alone = nil_from_length parameters (eqb-true (length parameters) 0 both.1) }

  clone_held : (owner : JType) (value : Value) → IsReferenceAnd (IsReferenceOf headers owner) value → IsHeld headers owner value
  clone_held owner (Int number) is = absurd is
  clone_held owner (Long number) is = absurd is
  clone_held owner Null is = absurd is
  clone_held owner (Ref reference) is = fits_object headers owner reference is

  result_held : (result : Option JType) (type : JType) (value : Value) → result ≡ Some type → IsSomeAnd result (λ type. IsValueOf headers type value) → IsHeld headers type value
  result_held None type value same fits = absurd fits
  result_held (Some other) type value same fits = subst (λ type. IsHeld headers type value) (let e : other ≡ type = cc in e) (fits_held headers other value fits)

  none_some : (result : Option JType) (type : JType) → result ≡ Some type → IsNone result → ⊥
  none_some result type same none = true≢false (sym (ap is_some same) ∙ none)

  -- a call that has a result gives a value of it
  call_value : (owner : JType) (name : Name) (parameters : List JType) (result : Option JType) (type : JType) (found : Option Value) (b : Bool) → is_array_clone owner name parameters ≡ b → (b ≡ true → IsSome result)
      → (if b then Some owner else result) ≡ Some type → CallGives owner name (types.Method parameters result) found → (value : Value) × (found ≡ Some value) × IsHeld headers type value
  call_value owner name parameters result type None true clone has same gives = absurd (true≢false (sym (has refl) ∙ gives))
  call_value owner name parameters result type None false clone has same gives = absurd (none_some result type same gives)
  call_value owner name parameters result type (Some value) true clone has same gives =
      (value, refl, subst (λ type. IsHeld headers type value) (let e : owner ≡ type = cc in e) (clone_held owner value (gives.of_clone (clone_is owner name parameters clone))))
  call_value owner name parameters result type (Some value) false clone has same gives = (value, refl, result_held result type value same gives.of_result)

  pub call_held : (asked : Target) (type : JType) (found : Option Value) → result asked ≡ Some type → (is_array_clone asked.owner asked.name (parameters_of asked.descriptor) ≡ true → IsSome (result_of asked.descriptor))
      → CallGives asked.owner asked.name asked.descriptor found → (value : Value) × (found ≡ Some value) × IsHeld headers type value
  call_held asked type found same has gives = by asked.descriptor same has gives
    where
      by : (descriptor : Descriptor) → (if is_array_clone asked.owner asked.name (parameters_of descriptor) then Some asked.owner else result_of descriptor) ≡ Some type
          → (is_array_clone asked.owner asked.name (parameters_of descriptor) ≡ true → IsSome (result_of descriptor)) → CallGives asked.owner asked.name descriptor found → (value : Value) × (found ≡ Some value) × IsHeld headers type value
      by (types.Field other) same has gives = absurd gives
      by (types.Method parameters result) same has gives = call_value asked.owner asked.name parameters result type found (is_array_clone asked.owner asked.name parameters) refl has same gives
