-- What operations give on operands of the kinds that they are for.
use Rattle.std.proofs.Common.{◌≡◌, ℕ, ℤ, pos, zero, suc, Bool, true, false, List, [], ◌∷◌, ◌++◌, map, replicate, Option, Some, None, option_map, IsSomeAnd, Contains, refl, sym, subst}
use Rattle.std.specs.Prelude.{if◌then◌else◌, int_lt, int_le, ◌&&◌, codes, int_rem}
use Rattle.std.specs.List.{list_any}
use Rattle.std.specs.Int.{Width, w64, int_wrapping_div}
use Rattle.std.specs.Ordering.{int_eq}
use Rattle.std.proofs.lemmas.Bool.{true≢false}
use Rattle.dj_names.specs.declared.header.Header.{Header}
use Rattle.dj_names.specs.Types as types
use Rattle.dj_names.specs.Types.{JType, Boolean, Byte, Char, Short, Float, Double, Class, Array, Descriptor, Field, Method, result_of, parameters_of}
use Rattle.dj_names.specs.Headers.{Name}
use Rattle.dj_names.specs.Assignable.{IsReference}
use Rattle.dj_values.specs.Values.{RefValue, Value, Int, Long, Null, Ref, InvokeKind, Static, Action, New, NewArray, GetField, PutField, GetStatic, PutStatic, ArrayLoad, ArrayStore, Invoke, ClassConstant, Enter, Exit, Given, Done, Thrown}
use Rattle.dj_values.specs.Fits.{throwable_name, element_of, IsValueOf, IsObject}
use Rattle.dj_values.specs.Answers.{IsReferenceAnd, IsNewArray, FitsAction}
use Rattle.dj_values.specs.Deciding.{is_subtype}
use Rattle.dj_values.specs.Outcomes.{Throws, Reply, Gives, Halts, then_on, ask, trap, there}
use Rattle.dj_values.proofs.Deciding.{Decides-subtype}
use Rattle.dj_instructions.specs.declared.kinds.Kind.{Kind}
use Rattle.dj_instructions.specs.declared.kinds.Kind.TheVariants as kind
use Rattle.dj_instructions.specs.declared.kinds.Calc.{Calc}
use Rattle.dj_instructions.specs.declared.kinds.Calc.TheVariants as calc
use Rattle.dj_instructions.specs.Instructions.{FieldRef, MethodRef}
use Rattle.dj_instructions.specs.Instructions as op
use Rattle.dj_frames.specs.Frames as tag
use Rattle.dj_frames.specs.Frames.{Tag, tag_of}
use Rattle.dj_code.specs.MethodCode.{Code}
use Rattle.dj_tags.specs.Goes.{Assignability}
use Rattle.dj_effects.specs.Works.{Want, Of}
use Rattle.dj_effects.specs.Operands.{HasKind}
use Rattle.dj_bytecode.specs.Operands.{with_int, with_ints, with_reference, or_null_trap, with_object, of_kind, fitted, all_fitted}
use Rattle.dj_bytecode.specs.Calculations.{divided, calculated, long_calculated, on_int, on_long, on_ints, on_longs, on_long_and_int}
use Rattle.dj_bytecode.specs.Objects.{static_read, static_written, field_read, field_written, with_element, stored, element_read, element_written, length_read, with_sizes, array_made, called, static_called, object_called, cast_to, is_of, truth, text_reference, thrown_out, entered, left}
use Rattle.dj_typed_states.specs.Shapes.{HasShape}
use Rattle.dj_typed_states.specs.Facts.{string_name, class_name, Facts, IsThrown, AreKept}
use Rattle.dj_typed_states.specs.Held.{IsHeld, int, long, no_object, object, unborn, AllAre, none, more}
use Rattle.dj_typed_states.specs.Wanted.{IsAnyReference, nothing, something, IsMeant}
use Rattle.dj_typed_states.proofs.Replies.{Replies, replies-then, replies-if, replies-ask, replies-trap}
use Rattle.dj_typed_states.proofs.Holding.{reference_held, value_held, element_held}
use Rattle.dj_typed_states.proofs.Taking.{IsGiven, onto}

-- whatever it is
abbrev pub Any : {A : Type 0} → A → Type 0
Any given = Unit {0}

-- no value is a float or a double
pub no_float : {facts : Facts} {value : Value} → IsHeld facts tag.Float value → ⊥
no_float held = elim held [ ]

pub no_double : {facts : Facts} {value : Value} → IsHeld facts tag.Double value → ⊥
no_double held = elim held [ ]

module _ {Goes : Assignability} {headers : List Header} {code : Code} {facts : Facts} (kept : AreKept Goes headers code facts) where
  -- ---- operands

  pub int_replies : {A : Type 0} (P : A → Type 0) (next : ℤ → Reply A) {value : Value} → IsHeld facts tag.Int value → ((number : ℤ) → Replies facts headers P (next number)) → Replies facts headers P (with_int value next)
  int_replies P next (int {number}) h = h number

  pub reference_replies : {A : Type 0} (P : A → Type 0) (next : Option RefValue → Reply A) {value : Value} → IsAnyReference value → Replies facts headers P (next None) → ((reference : RefValue) → IsReference reference.class → Replies facts headers P (next (Some reference))) → Replies facts headers P (with_reference value next)
  reference_replies P next nothing h k = h
  reference_replies P next (something {reference} is) h k = k reference is

  -- any reference that isn't null, or a trap
  pub any_replies : {A : Type 0} (P : A → Type 0) (next : RefValue → Reply A) {value : Value} → IsAnyReference value → ((reference : RefValue) → IsReference reference.class → Replies facts headers P (next reference)) → Replies facts headers P (with_object value next)
  any_replies P next held h = reference_replies P (or_null_trap next) held (replies-trap facts headers kept.thrown P (codes "java/lang/NullPointerException")) h

  -- a reference of a type, and not null, or a trap
  pub object_replies : {A : Type 0} (type : JType) (P : A → Type 0) (next : RefValue → Reply A) {value : Value} → IsHeld facts (tag.Object type) value → ((reference : RefValue) → facts.of type reference → Replies facts headers P (next reference)) → Replies facts headers P (with_object value next)
  object_replies type P next no_object h = replies-trap facts headers kept.thrown P (codes "java/lang/NullPointerException")
  object_replies type P next (object {reference = reference} of) h = h reference of

  -- a value of a kind stays as it is
  pub kind_replies : (wanted : Kind) (found : Tag) {value : Value} → HasKind wanted found → IsHeld facts found value → Replies facts headers (λ given. IsHeld facts found given) (of_kind wanted value)
  kind_replies kind.Int found {value} has held = int_kind (subst (λ t. IsHeld facts t value) has held)
    where
      int_kind : {value : Value} → IsHeld facts tag.Int value → Replies facts headers (λ given. IsHeld facts found given) (of_kind kind.Int value)
      int_kind (int {number}) = subst (λ t. IsHeld facts t (Int number)) (sym has) int
  kind_replies kind.Long found {value} has held = long_kind (subst (λ t. IsHeld facts t value) has held)
    where
      long_kind : {value : Value} → IsHeld facts tag.Long value → Replies facts headers (λ given. IsHeld facts found given) (of_kind kind.Long value)
      long_kind (long {number}) = subst (λ t. IsHeld facts t (Long number)) (sym has) long
  kind_replies kind.Float found {value} has held = absurd (no_float (subst (λ t. IsHeld facts t value) has held))
  kind_replies kind.Double found {value} has held = absurd (no_double (subst (λ t. IsHeld facts t value) has held))
  kind_replies kind.Ref found {value} has held = reference_replies (λ given. IsHeld facts found given) (λ reference. Gives value) (reference_held kept has held) held (λ reference is. held)

  -- ---- values that go into types

  pub fitted_replies : (type : JType) {value : Value} → IsHeld facts (tag_of type) value → Replies facts headers Any (fitted type value)
  fitted_replies Boolean int = tt
  fitted_replies Byte int = tt
  fitted_replies Char int = tt
  fitted_replies Short int = tt
  fitted_replies types.Int int = tt
  fitted_replies types.Long long = tt
  fitted_replies Float held = absurd (no_float held)
  fitted_replies Double held = absurd (no_double held)
  fitted_replies (Class name) no_object = tt
  fitted_replies (Class name) (object of) = tt
  fitted_replies (Array element) no_object = tt
  fitted_replies (Array element) (object of) = tt

  pub all_fitted_replies : (types : List JType) {values : List Value} → AllAre (IsMeant facts) (map (λ type. Of (tag_of type)) types ++ []) values → Replies facts headers Any (all_fitted types values)
  all_fitted_replies [] none = tt
  all_fitted_replies (type ∷ types) (more {other = value} {others = values} held are) =
      replies-then facts headers Any Any (fitted type value) _ (fitted_replies type held) (λ first _. replies-then facts headers Any Any (all_fitted types values) _ (all_fitted_replies types are) (λ rest _. tt))

  -- an action that is only done
  abbrev IsOnlyDone : Action → Type 0
  IsOnlyDone action = ((value : Value) → FitsAction headers action (Given value) → ⊥) × ((reference : RefValue) → FitsAction headers action (Thrown reference) → IsThrown facts reference)

  done_replies : (action : Action) → IsOnlyDone action → Replies facts headers (IsGiven facts None) (ask action)
  done_replies action only = replies-ask facts headers (IsGiven facts None) action (λ value fits. absurd (only.0 value fits)) (λ fits. tt) only.1

  -- and one that gives a value of a type
  given_replies : (type : JType) (action : Action) → ((value : Value) → FitsAction headers action (Given value) → IsValueOf headers type value) → (FitsAction headers action Done → ⊥) → ((reference : RefValue) → FitsAction headers action (Thrown reference) → IsThrown facts reference)
      → Replies facts headers (IsGiven facts (Some (tag_of type))) (ask action)
  given_replies type action given done thrown = replies-ask facts headers (IsGiven facts (Some (tag_of type))) action (λ value fits. value_held kept type value (given value fits)) (λ fits. absurd (done fits)) thrown

  -- ---- fields

  pub static_read_replies : (field : FieldRef) → Replies facts headers (IsGiven facts (Some (tag_of field.kind))) (static_read field [])
  static_read_replies field = given_replies field.kind (GetStatic field.owner field.name field.kind) (λ value fits. fits) (λ fits. fits) kept.thrown

  pub static_written_replies : (field : FieldRef) {value : Value} → IsHeld facts (tag_of field.kind) value → Replies facts headers (IsGiven facts None) (static_written field (value ∷ []))
  static_written_replies field {value} held =
      replies-then facts headers Any (IsGiven facts None) (fitted field.kind value) _ (fitted_replies field.kind held) (λ fitting _. done_replies (PutStatic field.owner field.name field.kind fitting) (λ value fits. fits, kept.thrown))

  pub field_read_replies : (field : FieldRef) {receiver : Value} → IsAnyReference receiver → Replies facts headers (IsGiven facts (Some (tag_of field.kind))) (field_read field (receiver ∷ []))
  field_read_replies field held =
      any_replies (IsGiven facts (Some (tag_of field.kind))) _ held (λ object is. given_replies field.kind (GetField object field.owner field.name field.kind) (λ value fits. fits) (λ fits. fits) (λ reference fits. absurd fits))

  pub field_written_replies : (field : FieldRef) {receiver value : Value} → IsAnyReference receiver → IsHeld facts (tag_of field.kind) value → Replies facts headers (IsGiven facts None) (field_written field (receiver ∷ value ∷ []))
  field_written_replies field {value = value} receiver held =
      any_replies (IsGiven facts None) _ receiver (λ object is.
      replies-then facts headers Any (IsGiven facts None) (fitted field.kind value) _ (fitted_replies field.kind held) (λ fitting _. done_replies (PutField object field.owner field.name field.kind fitting) (λ value fits. fits, λ reference fits. absurd fits)))

  -- ---- arrays

  within_replies : {A : Type 0} (P : A → Type 0) (array : RefValue) (index : ℤ) (next : Reply A) → Replies facts headers P next → Replies facts headers P (with_element array index next)
  within_replies P array index next h =
      replies-if facts headers P (int_le (pos 0) index && int_lt index (pos array.length)) next (trap (codes "java/lang/ArrayIndexOutOfBoundsException")) h (replies-trap facts headers kept.thrown P (codes "java/lang/ArrayIndexOutOfBoundsException"))

  pub element_read_replies : (element : JType) {receiver index : Value} → IsHeld facts (tag.Object (Array element)) receiver → IsHeld facts tag.Int index → Replies facts headers (IsGiven facts (Some (tag_of element))) (element_read (receiver ∷ index ∷ []))
  element_read_replies element {receiver} {index} held place =
      int_replies (IsGiven facts (Some (tag_of element))) _ place (λ number. object_replies (Array element) (IsGiven facts (Some (tag_of element))) _ held (λ array of.
      within_replies (IsGiven facts (Some (tag_of element))) array number (ask (ArrayLoad array number))
      (replies-ask facts headers (IsGiven facts (Some (tag_of element))) (ArrayLoad array number) (λ value fits. element_held kept element array value of fits) (λ fits. absurd fits) (λ reference fits. absurd fits))))

  -- a value that an array takes whose elements are of this type: any reference, and else a value of the type
  abbrev IsStorable : JType → Value → Type 0
  IsStorable found (Int number) = IsHeld facts (tag_of found) (Int number)
  IsStorable found (Long number) = IsHeld facts (tag_of found) (Long number)
  IsStorable found Null = IsHeld facts (tag_of found) Null
  IsStorable found (Ref reference) = Unit {0}

  store_done : (array : RefValue) (index : ℤ) (kept : Value) → Replies facts headers (IsGiven facts None) (ask (ArrayStore array index kept))
  store_done array index kept = done_replies (ArrayStore array index kept) (λ value fits. fits, λ reference fits. absurd fits)

  stored_replies : (array : RefValue) (index : ℤ) (found : JType) (value : Value) → IsStorable found value → Replies facts headers (IsGiven facts None) (stored headers array index found value)
  stored_replies array index found (Int number) held = replies-then facts headers Any (IsGiven facts None) (fitted found (Int number)) _ (fitted_replies found held) (λ fitting _. store_done array index fitting)
  stored_replies array index found (Long number) held = replies-then facts headers Any (IsGiven facts None) (fitted found (Long number)) _ (fitted_replies found held) (λ fitting _. store_done array index fitting)
  stored_replies array index found Null held = replies-then facts headers Any (IsGiven facts None) (fitted found Null) _ (fitted_replies found held) (λ fitting _. store_done array index fitting)
  stored_replies array index found (Ref reference) held =
      replies-if facts headers (IsGiven facts None) (is_subtype headers reference.class found) (ask (ArrayStore array index (Ref reference))) (trap (codes "java/lang/ArrayStoreException")) (store_done array index (Ref reference)) (replies-trap facts headers kept.thrown (IsGiven facts None) (codes "java/lang/ArrayStoreException"))

  held_storable : (type : JType) (value : Value) → IsHeld facts (tag_of type) value → IsStorable type value
  held_storable type (Int number) held = held
  held_storable type (Long number) held = held
  held_storable type Null held = held
  held_storable type (Ref reference) held = tt

  any_storable : (found : JType) {value : Value} → IsReference found → IsAnyReference value → IsStorable found value
  any_storable (Class name) is nothing = no_object
  any_storable (Class name) is (something found) = tt
  any_storable (Array element) is nothing = no_object
  any_storable (Array element) is (something found) = tt
  any_storable found is held = absurd is

  -- what is written to an array, by the type of the elements that the instruction is for
  pub element_written_replies : (element : JType) {receiver index : Value} (value : Value) → ((found : JType) → HasShape element found → IsStorable found value) → IsHeld facts (tag.Object (Array element)) receiver → IsHeld facts tag.Int index
      → Replies facts headers (IsGiven facts None) (element_written headers (receiver ∷ index ∷ value ∷ []))
  element_written_replies element {receiver} {index} value storable held place =
      int_replies (IsGiven facts None) _ place (λ number. object_replies (Array element) (IsGiven facts None) _ held (λ array of.
      within_replies (IsGiven facts None) array number (then_on (there (element_of array.class)) (λ found. stored headers array number found value)) (into array number (element_of array.class) (kept.shape (Array element) array of))))
    where
      into : (array : RefValue) (number : ℤ) (found : Option JType) → IsSomeAnd found (HasShape element) → Replies facts headers (IsGiven facts None) (then_on (there found) (λ type. stored headers array number type value))
      into array number None shape = absurd shape
      into array number (Some found) shape = stored_replies array number found value (storable found shape)

  -- a value that is written as one of a primitive type
  pub plain_storable : (element : JType) (value : Value) → ((found : JType) → HasShape element found → found ≡ element) → IsHeld facts (tag_of element) value → (found : JType) → HasShape element found → IsStorable found value
  plain_storable element value same held found shape = subst (λ t. IsStorable t value) (sym (same found shape)) (held_storable element value held)

  pub reference_storable : (name : Name) {value : Value} → IsAnyReference value → (found : JType) → HasShape (Class name) found → IsStorable found value
  reference_storable name held found shape = any_storable found shape held

  pub length_read_replies : {receiver : Value} → IsAnyReference receiver → Replies facts headers (IsGiven facts (Some tag.Int)) (length_read (receiver ∷ []))
  length_read_replies held = any_replies (IsGiven facts (Some tag.Int)) _ held (λ array is. int)

  -- a want of an int
  abbrev AreInts : List Want → Type 0
  AreInts [] = Unit {0}
  AreInts (want ∷ wants) = (want ≡ Of tag.Int) × AreInts wants

  pub onto_ints : (wants done : List Want) → AreInts wants → AreInts done → AreInts (onto wants done)
  onto_ints [] done are also = also
  onto_ints (want ∷ wants) done are also = onto_ints wants (want ∷ done) are.1 (are.0, also)

  pub replicated_ints : (count : ℕ) → AreInts (replicate count (Of tag.Int))
  replicated_ints zero = tt
  replicated_ints (suc count) = (refl, replicated_ints count)

  ints_replies : {A : Type 0} (P : A → Type 0) (wants : List Want) {values : List Value} (next : List ℤ → Reply A) → AreInts wants → AllAre (IsMeant facts) wants values → ((numbers : List ℤ) → Replies facts headers P (next numbers)) → Replies facts headers P (with_ints values next)
  ints_replies P [] next ints none h = h []
  ints_replies P (want ∷ wants) next ints (more {other = value} {others = values} held are) h =
      int_replies P (λ number. with_ints values (λ numbers. next (number ∷ numbers))) (subst (λ w. IsMeant facts w value) ints.0 held) (λ number. ints_replies P wants (λ numbers. next (number ∷ numbers)) ints.1 are (λ numbers. h (number ∷ numbers)))

  new_array_held : (type : JType) (sizes : List ℤ) → (value : Value) → IsReferenceAnd (IsNewArray type sizes) value → IsHeld facts (tag.Object type) value
  new_array_held type sizes (Int number) is = absurd is
  new_array_held type sizes (Long number) is = absurd is
  new_array_held type sizes Null is = absurd is
  new_array_held type sizes (Ref reference) is = object (kept.array type sizes reference is)

  pub array_made_replies : (type : JType) (wants : List Want) {operands : List Value} → AreInts wants → AllAre (IsMeant facts) wants operands → Replies facts headers (IsGiven facts (Some (tag.Object type))) (array_made type operands)
  array_made_replies type wants ints are =
      ints_replies (IsGiven facts (Some (tag.Object type))) wants (λ sizes. with_sizes sizes (ask (NewArray type sizes))) ints are (λ sizes.
      replies-if facts headers (IsGiven facts (Some (tag.Object type))) (list_any (λ size. int_lt size (pos 0)) sizes) (trap (codes "java/lang/NegativeArraySizeException")) (ask (NewArray type sizes)) (replies-trap facts headers kept.thrown (IsGiven facts (Some (tag.Object type))) (codes "java/lang/NegativeArraySizeException"))
      (replies-ask facts headers (IsGiven facts (Some (tag.Object type))) (NewArray type sizes) (λ value fits. new_array_held type sizes value fits) (λ fits. absurd fits) kept.thrown))

  -- ---- calls

  invoked_replies : (kind : InvokeKind) (owner : JType) (name : List ℕ) (descriptor : Descriptor) (values : List Value) → Replies facts headers (IsGiven facts (option_map tag_of (result_of descriptor))) (ask (Invoke kind owner name descriptor values))
  invoked_replies kind owner name (Field type) values = replies-ask facts headers _ (Invoke kind owner name (Field type) values) (λ value fits. absurd fits) (λ fits. absurd fits) (λ reference fits. absurd fits)
  invoked_replies kind owner name (Method parameters None) values =
      replies-ask facts headers _ (Invoke kind owner name (Method parameters None) values) (λ value fits. absurd fits.of_result) (λ fits. tt) kept.thrown
  invoked_replies kind owner name (Method parameters (Some result)) values =
      replies-ask facts headers _ (Invoke kind owner name (Method parameters (Some result)) values) (λ value fits. value_held kept result value fits.of_result) (λ fits. absurd (true≢false fits)) kept.thrown

  called_replies : (kind : InvokeKind) (owner : JType) (method : MethodRef) (receiver : List Value) {arguments : List Value} → AllAre (IsMeant facts) (map (λ type. Of (tag_of type)) (parameters_of method.descriptor) ++ []) arguments
      → Replies facts headers (IsGiven facts (option_map tag_of (result_of method.descriptor))) (called kind owner method receiver arguments)
  called_replies kind owner method receiver {arguments} are =
      replies-then facts headers Any (IsGiven facts (option_map tag_of (result_of method.descriptor))) (all_fitted (parameters_of method.descriptor) arguments) _ (all_fitted_replies (parameters_of method.descriptor) are)
      (λ fitting _. invoked_replies kind owner method.name method.descriptor (receiver ++ fitting))

  pub static_called_replies : (method : MethodRef) {arguments : List Value} → AllAre (IsMeant facts) (map (λ type. Of (tag_of type)) (parameters_of method.descriptor) ++ []) arguments → Replies facts headers (IsGiven facts (option_map tag_of (result_of method.descriptor))) (static_called method arguments)
  static_called_replies method are = called_replies Static method.owner method [] are

  pub object_called_replies : (kind : InvokeKind) (owner : JType) (method : MethodRef) (want : Want) {operands : List Value} → ((value : Value) → IsMeant facts want value → IsAnyReference value) → AllAre (IsMeant facts) (want ∷ (map (λ type. Of (tag_of type)) (parameters_of method.descriptor) ++ [])) operands
      → Replies facts headers (IsGiven facts (option_map tag_of (result_of method.descriptor))) (object_called kind owner method operands)
  object_called_replies kind owner method want f (more {other = receiver} {others = arguments} held are) =
      any_replies (IsGiven facts (option_map tag_of (result_of method.descriptor))) _ (f receiver held) (λ reference is. called_replies kind owner method (Ref reference ∷ []) are)

  -- ---- classes and constants

  pub class_replies : (type : JType) → Replies facts headers (IsGiven facts (Some (tag.Object (Class class_name)))) (ask (ClassConstant type))
  class_replies type = replies-ask facts headers _ (ClassConstant type) (λ value fits. class_held value fits) (λ fits. absurd fits) kept.thrown
    where
      class_held : (value : Value) → IsReferenceAnd (IsObject class_name) value → IsHeld facts (tag.Object (Class class_name)) value
      class_held (Int number) is = absurd is
      class_held (Long number) is = absurd is
      class_held Null is = absurd is
      class_held (Ref reference) is = object (kept.class reference is)

  pub text_given : (units : List ℕ) → Replies facts headers (IsGiven facts (Some (tag.Object (Class string_name)))) (Gives (Some (Ref (text_reference units))))
  text_given units = object (kept.text units)

  pub new_replies : (class : Name) (pc : ℕ) → Contains code.instructions (pc, op.New class) → Replies facts headers (IsGiven facts (Some (tag.Unborn pc))) (ask (New class))
  new_replies class pc has = replies-ask facts headers (IsGiven facts (Some (tag.Unborn pc))) (New class) (λ value fits. fresh value fits) (λ fits. absurd fits) kept.thrown
    where
      fresh : (value : Value) → IsReferenceAnd (IsObject class) value → IsHeld facts (tag.Unborn pc) value
      fresh (Int number) is = absurd is
      fresh (Long number) is = absurd is
      fresh Null is = absurd is
      fresh (Ref reference) is = unborn (kept.new pc class reference has is)

  pub cast_replies : (from type : JType) {value : Value} → IsHeld facts (tag.Object from) value → Replies facts headers (IsGiven facts (Some (tag.Object type))) (with_reference value (cast_to headers type))
  cast_replies from type no_object = no_object
  cast_replies from type (object {reference = reference} of) = go (is_subtype headers reference.class type) refl
    where
      go : (test : Bool) → is_subtype headers reference.class type ≡ test → Replies facts headers (IsGiven facts (Some (tag.Object type))) (if test then Gives (Some (Ref reference)) else trap (codes "java/lang/ClassCastException"))
      go true passes = object (kept.cast from type reference of ((Decides-subtype headers reference.class type).0 passes))
      go false passes = replies-trap facts headers kept.thrown (IsGiven facts (Some (tag.Object type))) (codes "java/lang/ClassCastException")

  truth_held : (test : Bool) → IsHeld facts tag.Int (truth test)
  truth_held true = int
  truth_held false = int

  pub instance_replies : (type : JType) {value : Value} → IsAnyReference value → Replies facts headers (IsGiven facts (Some tag.Int)) (with_reference value (λ reference. Gives (Some (truth (is_of headers type reference)))))
  instance_replies type held = reference_replies (IsGiven facts (Some tag.Int)) _ held int (λ reference is. truth_held (is_of headers type (Some reference)))

  pub thrown_replies : (P : Option Value → Type 0) {value : Value} → IsHeld facts (tag.Object (Class throwable_name)) value → Replies facts headers P (thrown_out (value ∷ []))
  thrown_replies P held = object_replies (Class throwable_name) P (λ reference. Halts (Throws reference)) held (λ reference of. of)

  pub entered_replies : {value : Value} → IsAnyReference value → Replies facts headers (IsGiven facts None) (entered (value ∷ []))
  entered_replies held = any_replies (IsGiven facts None) _ held (λ reference is. done_replies (Enter reference) (λ value fits. fits, λ thrown fits. absurd fits))

  pub left_replies : {value : Value} → IsAnyReference value → Replies facts headers (IsGiven facts None) (left (value ∷ []))
  left_replies held = any_replies (IsGiven facts None) _ held (λ reference is. done_replies (Exit reference) (λ value fits. fits, λ thrown fits. absurd fits))

  -- ---- arithmetic

  divided_replies : (operation : ℤ → ℤ → ℤ) (left right : ℤ) → Replies facts headers Any (divided operation left right)
  divided_replies operation left right = replies-if facts headers Any (int_eq right (pos 0)) (trap (codes "java/lang/ArithmeticException")) (Gives (operation left right)) (replies-trap facts headers kept.thrown Any (codes "java/lang/ArithmeticException")) tt

  pub int_given : (result : Tag) (operation : ℤ → Reply Value) → ((number : ℤ) → Replies facts headers (λ given. IsHeld facts result given) (operation number)) → {value : Value} → IsHeld facts tag.Int value → Replies facts headers (IsGiven facts (Some result)) (on_int operation (value ∷ []))
  int_given result operation h (int {number}) = replies-then facts headers (λ given. IsHeld facts result given) (IsGiven facts (Some result)) (operation number) _ (h number) (λ given held. held)

  pub ints_given : (operation : ℤ → ℤ → Reply ℤ) → ((left right : ℤ) → Replies facts headers Any (operation left right)) → {first second : Value} → IsHeld facts tag.Int first → IsHeld facts tag.Int second → Replies facts headers (IsGiven facts (Some tag.Int)) (on_ints operation (first ∷ second ∷ []))
  ints_given operation h (int {number = left}) (int {number = right}) = replies-then facts headers Any (IsGiven facts (Some tag.Int)) (operation left right) _ (h left right) (λ given _. int)

  pub longs_given : (result : Tag) (operation : ℤ → ℤ → Reply Value) → ((left right : ℤ) → Replies facts headers (λ given. IsHeld facts result given) (operation left right)) → {first second : Value} → IsHeld facts tag.Long first → IsHeld facts tag.Long second → Replies facts headers (IsGiven facts (Some result)) (on_longs operation (first ∷ second ∷ []))
  longs_given result operation h (long {number = left}) (long {number = right}) = replies-then facts headers (λ given. IsHeld facts result given) (IsGiven facts (Some result)) (operation left right) _ (h left right) (λ given held. held)

  pub shift_given : (operation : ℤ → ℤ → Reply ℤ) → ((left right : ℤ) → Replies facts headers Any (operation left right)) → {first second : Value} → IsHeld facts tag.Long first → IsHeld facts tag.Int second → Replies facts headers (IsGiven facts (Some tag.Long)) (on_long_and_int operation (first ∷ second ∷ []))
  shift_given operation h (long {number = left}) (int {number = right}) = replies-then facts headers Any (IsGiven facts (Some tag.Long)) (operation left right) _ (h left right) (λ given _. long)

  pub long_given : (result : Tag) (operation : ℤ → Reply Value) → ((number : ℤ) → Replies facts headers (λ given. IsHeld facts result given) (operation number)) → {value : Value} → IsHeld facts tag.Long value → Replies facts headers (IsGiven facts (Some result)) (on_long operation (value ∷ []))
  long_given result operation h (long {number}) = replies-then facts headers (λ given. IsHeld facts result given) (IsGiven facts (Some result)) (operation number) _ (h number) (λ given held. held)

  -- what two numbers make, but by a negation, which has one
  pub calculated_replies : (width : Width) (operation : Calc) → (operation ≡ calc.Neg → ⊥) → (left right : ℤ) → Replies facts headers Any (calculated width operation left right)
  calculated_replies width calc.Div two left right = divided_replies (int_wrapping_div width) left right
  calculated_replies width calc.Rem two left right = divided_replies int_rem left right
  calculated_replies width calc.Neg two left right = absurd (two refl)
  calculated_replies width operation two left right = tt

  pub long_calculated_replies : (operation : Calc) → (operation ≡ calc.Neg → ⊥) → (left right : ℤ) → Replies facts headers (λ given. IsHeld facts tag.Long given) (long_calculated operation left right)
  long_calculated_replies operation two left right =
      replies-then facts headers Any (λ given. IsHeld facts tag.Long given) _ _ (calculated_replies w64 operation two left right) (λ number _. long)
