-- What a tag says of a value is also said by a tag that it goes to, and by the tag of a type of which the value is.
use Rattle.std.proofs.Common.{◌≡◌, ℕ, ℤ, zero, suc, Bool, true, List, [], ◌∷◌, Option, Some, None, IsSomeAnd, inl, inr, refl, sym, subst}
use Rattle.std.proofs.lemmas.Bool.{false≢true}
use Rattle.std.specs.Prelude.{slice_get}
use Rattle.dj_names.specs.declared.header.Header.{Header}
use Rattle.dj_names.specs.Types as types
use Rattle.dj_names.specs.Types.{JType, Boolean, Byte, Char, Short, Float, Double, Class, Array}
use Rattle.dj_names.specs.Assignable.{IsReference}
use Rattle.dj_values.specs.Values.{RefValue, Value, Int, Long, Null, Ref}
use Rattle.dj_values.specs.Fits.{int_range, element_of, IsValueOf}
use Rattle.dj_frames.specs.Frames as tag
use Rattle.dj_frames.specs.Frames.{Tag, tag_of}
use Rattle.dj_code.specs.MethodCode.{Code}
use Rattle.dj_tags.specs.Goes.{Assignability, ReferenceGoes, LocalGoes, EntriesGo, LocalsGo, Working, FrameGoes}
use Rattle.dj_tags.specs.Laxly.{IsJavaAssignable, subclass, interface, from_unknown, to_unknown, array, same_elements, elements}
use Rattle.dj_effects.specs.Works.{Want, Of, Reference, AnyArray, ByteArray}
use Rattle.dj_effects.specs.Operands.{is_reference, is_array_of, is_byte_or_boolean, IsWanted}
use Rattle.dj_effects.specs.Effects.{or_top}
use Rattle.dj_bytecode.specs.Machine.{Locals}
use Rattle.dj_typed_states.specs.Shapes.{HasShape}
use Rattle.dj_typed_states.specs.Facts.{Facts, AreKept}
use Rattle.dj_typed_states.specs.Held.{IsHeld, unknown, int, long, null, unborn_this, no_object, object, unborn, IsLocal, anything, known, AllAre, none, more, Describes}
use Rattle.dj_typed_states.specs.Wanted.{IsAnyReference, nothing, something, IsByteArray, IsMeant}
use Rattle.dj_typed_states.proofs.Shapes.{shape_refl, shape_reference}

-- ---- shapes

-- what the machine lets stand where a type is wanted has its shape
pub lax_shape : (headers : List Header) (from to : JType) → IsJavaAssignable headers from to → HasShape to from
lax_shape headers from to (subclass up) = tt
lax_shape headers from to (interface is) = tt
lax_shape headers from to (from_unknown is) = tt
lax_shape headers from to (to_unknown is) = tt
lax_shape headers from to (array above) = tt
lax_shape headers from to (same_elements {element} is) = shape_refl element
lax_shape headers from to (elements {from = lower} {to = upper} goes) = lax_shape headers lower upper goes

-- ---- what an array holds, by its shape

no_int : (type : JType) (P : ℤ × ℤ → Type 0) → IsReference type → IsSomeAnd (int_range type) P → ⊥
no_int (Class name) P is some = some
no_int (Array element) P is some = some
no_int type P is some = is

module _ {Goes : Assignability} {headers : List Header} {code : Code} {facts : Facts} (kept : AreKept Goes headers code facts) where
  abbrev Held : Tag → Value → Type 0
  Held = IsHeld facts

  -- an object is a reference
  pub object_reference : {type : JType} {value : Value} → Held (tag.Object type) value → IsAnyReference value
  object_reference no_object = nothing
  object_reference (object {type} {reference} of) = something (kept.reference type reference of)

  pub this_reference : {value : Value} → Held tag.UnbornThis value → IsAnyReference value
  this_reference (unborn_this {reference} of) = something (kept.this_reference reference of)

  pub reference_held : {found : Tag} {value : Value} → is_reference found ≡ true → Held found value → IsAnyReference value
  reference_held is unknown = absurd (false≢true is)
  reference_held is int = absurd (false≢true is)
  reference_held is long = absurd (false≢true is)
  reference_held is null = nothing
  reference_held is (unborn_this {reference} of) = something (kept.this_reference reference of)
  reference_held is no_object = nothing
  reference_held is (object {type} {reference} of) = something (kept.reference type reference of)
  reference_held is (unborn {pc} {reference} of) = something (kept.made_reference pc reference of)

  -- ---- values of types

  int_held : (type : JType) (number : ℤ) (P : ℤ × ℤ → Type 0) → IsSomeAnd (int_range type) P → Held (tag_of type) (Int number)
  int_held Boolean number P is = int
  int_held Byte number P is = int
  int_held Char number P is = int
  int_held Short number P is = int
  int_held types.Int number P is = int
  int_held type number P is = absurd is

  null_held : (type : JType) → IsReference type → Held (tag_of type) Null
  null_held (Class name) is = no_object
  null_held (Array element) is = no_object
  null_held type is = absurd is

  ref_held : (type : JType) (reference : RefValue) → IsReference type → facts.of type reference → Held (tag_of type) (Ref reference)
  ref_held (Class name) reference is of = object of
  ref_held (Array element) reference is of = object of
  ref_held type reference is of = absurd is

  -- a value of a type is of the kind that the type's tag says
  pub value_held : (type : JType) (value : Value) → IsValueOf headers type value → Held (tag_of type) value
  value_held type (Int number) is = int_held type number _ is
  value_held type (Long number) is = subst (λ t. Held (tag_of t) (Long number)) (sym is.0) long
  value_held type Null is = null_held type is
  value_held type (Ref reference) is = ref_held type reference is.wanted (kept.fits type reference is)

  -- ---- what an array holds

  -- a value that is no reference is held as one of each type whose shape its own has
  int_element : (element found : JType) (number : ℤ) (P : ℤ × ℤ → Type 0) → HasShape element found → IsSomeAnd (int_range found) P → Held (tag_of element) (Int number)
  int_element (Class name) found number P shape is = absurd (no_int found P shape is)
  int_element (Array element) found number P shape is = absurd (no_int found P (shape_reference (Array element) found tt shape) is)
  int_element Boolean found number P shape is = int
  int_element Byte found number P shape is = int
  int_element Char found number P shape is = int
  int_element Short found number P shape is = int
  int_element types.Int found number P shape is = int
  int_element types.Long found number P shape is = absurd (subst (λ t. IsSomeAnd (int_range t) P) shape is)
  int_element Float found number P shape is = absurd (subst (λ t. IsSomeAnd (int_range t) P) shape is)
  int_element Double found number P shape is = absurd (subst (λ t. IsSomeAnd (int_range t) P) shape is)

  long_element : (element : JType) (number : ℤ) → HasShape element types.Long → Held (tag_of element) (Long number)
  long_element (Class name) number shape = absurd shape
  long_element (Array element) number shape = absurd shape
  long_element Boolean number shape = absurd cc
  long_element Byte number shape = absurd cc
  long_element Char number shape = absurd cc
  long_element Short number shape = absurd cc
  long_element types.Int number shape = absurd cc
  long_element types.Long number shape = long
  long_element Float number shape = absurd cc
  long_element Double number shape = absurd cc

  -- a type whose shape a reference has is a reference
  wanted_reference : (element found : JType) → HasShape element found → IsReference found → IsReference element
  wanted_reference (Class name) found shape is = tt
  wanted_reference (Array element) found shape is = tt
  wanted_reference Boolean found shape is = subst IsReference shape is
  wanted_reference Byte found shape is = subst IsReference shape is
  wanted_reference Char found shape is = subst IsReference shape is
  wanted_reference Short found shape is = subst IsReference shape is
  wanted_reference types.Int found shape is = subst IsReference shape is
  wanted_reference types.Long found shape is = subst IsReference shape is
  wanted_reference Float found shape is = subst IsReference shape is
  wanted_reference Double found shape is = subst IsReference shape is

  -- an element that an array holds, by what is known of the array
  pub element_held : (element : JType) (from : RefValue) (value : Value) → facts.of (Array element) from → IsSomeAnd (element_of from.class) (λ type. IsValueOf headers type value) → Held (tag_of element) value
  element_held element from value of is = by (element_of from.class) refl (kept.shape (Array element) from of) value is
    where
      by : (found : Option JType) → element_of from.class ≡ found → IsSomeAnd found (HasShape element) → (value : Value) → IsSomeAnd found (λ type. IsValueOf headers type value) → Held (tag_of element) value
      by None here shape value is = absurd shape
      by (Some found) here shape (Int number) is = int_element element found number _ shape is
      by (Some found) here shape (Long number) is = long_element element number (subst (HasShape element) is.0 shape)
      by (Some found) here shape Null is = null_held element (wanted_reference element found shape is)
      by (Some found) here shape (Ref one) is = ref_held element one (wanted_reference element found shape is.wanted) (kept.element element found from one of here is)

  -- ---- what is wanted

  array_held : {found : Tag} {value : Value} (test : JType → Bool) → is_array_of test found ≡ true → Held found value → IsAnyReference value
  array_held test is unknown = absurd (false≢true is)
  array_held test is int = absurd (false≢true is)
  array_held test is long = absurd (false≢true is)
  array_held test is null = nothing
  array_held test is (unborn_this of) = absurd (false≢true is)
  array_held test is no_object = nothing
  array_held test is (object {type} {reference} of) = something (kept.reference type reference of)
  array_held test is (unborn of) = absurd (false≢true is)

  byte_object : (type : JType) (reference : RefValue) → is_array_of is_byte_or_boolean (tag.Object type) ≡ true → facts.of type reference → IsByteArray facts (Ref reference)
  byte_object (Array Boolean) reference is of = inl (object of)
  byte_object (Array Byte) reference is of = inr (object of)
  byte_object type reference is of = absurd (false≢true is)

  byte_array_held : {found : Tag} {value : Value} → is_array_of is_byte_or_boolean found ≡ true → Held found value → IsByteArray facts value
  byte_array_held is unknown = absurd (false≢true is)
  byte_array_held is int = absurd (false≢true is)
  byte_array_held is long = absurd (false≢true is)
  byte_array_held is null = inl no_object
  byte_array_held is (unborn_this of) = absurd (false≢true is)
  byte_array_held is no_object = inl no_object
  byte_array_held is (object {type} {reference} of) = byte_object type reference is of
  byte_array_held is (unborn of) = absurd (false≢true is)

  -- ---- what goes where

  object_goes : {from : Tag} {value : Value} (to : JType) → ReferenceGoes Goes from to → Held from value → Held (tag.Object to) value
  object_goes to goes unknown = absurd goes
  object_goes to goes int = absurd goes
  object_goes to goes long = absurd goes
  object_goes to goes null = no_object
  object_goes to goes (unborn_this of) = absurd goes
  object_goes to goes no_object = no_object
  object_goes to goes (object {type} {reference} of) = object (kept.goes type to reference goes of)
  object_goes to goes (unborn of) = absurd goes

  pub entry_goes : (from to : Tag) {value : Value} → LocalGoes Goes from to → Held from value → Held to value
  entry_goes from tag.Top goes held = unknown
  entry_goes from (tag.Object to) goes held = object_goes to goes held
  entry_goes from tag.Int {value} goes held = subst (λ t. Held t value) goes held
  entry_goes from tag.Float {value} goes held = subst (λ t. Held t value) goes held
  entry_goes from tag.Double {value} goes held = subst (λ t. Held t value) goes held
  entry_goes from tag.Long {value} goes held = subst (λ t. Held t value) goes held
  entry_goes from tag.Null {value} goes held = subst (λ t. Held t value) goes held
  entry_goes from tag.UnbornThis {value} goes held = subst (λ t. Held t value) goes held
  entry_goes from (tag.Unborn pc) {value} goes held = subst (λ t. Held t value) goes held

  object_local : {from : Tag} {local : Option Value} (to : JType) → ReferenceGoes Goes from to → IsLocal facts from local → IsLocal facts (tag.Object to) local
  object_local to goes anything = absurd goes
  object_local to goes (known held) = known (object_goes to goes held)

  local_goes : (from to : Tag) {local : Option Value} → LocalGoes Goes from to → IsLocal facts from local → IsLocal facts to local
  local_goes from tag.Top goes is = anything
  local_goes from (tag.Object to) goes is = object_local to goes is
  local_goes from tag.Int {local} goes is = subst (λ t. IsLocal facts t local) goes is
  local_goes from tag.Float {local} goes is = subst (λ t. IsLocal facts t local) goes is
  local_goes from tag.Double {local} goes is = subst (λ t. IsLocal facts t local) goes is
  local_goes from tag.Long {local} goes is = subst (λ t. IsLocal facts t local) goes is
  local_goes from tag.Null {local} goes is = subst (λ t. IsLocal facts t local) goes is
  local_goes from tag.UnbornThis {local} goes is = subst (λ t. IsLocal facts t local) goes is
  local_goes from (tag.Unborn pc) {local} goes is = subst (λ t. IsLocal facts t local) goes is

  entries_go : (froms tos : List Tag) {values : List Value} → EntriesGo Goes froms tos → AllAre Held froms values → AllAre Held tos values
  entries_go [] [] go none = none
  entries_go [] (to ∷ tos) go none = absurd go
  entries_go (from ∷ froms) [] go (more held are) = absurd go
  entries_go (from ∷ froms) (to ∷ tos) go (more held are) = more (entry_goes from to go.0.goes held) (entries_go froms tos go.1 are)

  locals_go : (froms tos : List Tag) → LocalsGo Goes froms tos → (slot : ℕ) → LocalGoes Goes (or_top (slice_get froms slot)) (or_top (slice_get tos slot))
  locals_go froms [] go slot = tt
  locals_go [] (to ∷ tos) go zero = go.0
  locals_go [] (to ∷ tos) go (suc slot) = locals_go [] tos go.1 slot
  locals_go (from ∷ froms) (to ∷ tos) go zero = go.0
  locals_go (from ∷ froms) (to ∷ tos) go (suc slot) = locals_go froms tos go.1 slot

  -- what a frame describes is described by a frame that it goes to
  pub frame_goes : (code : Code) (from to : Working) (stack : List Value) (locals : Locals) → FrameGoes Goes from to → Describes facts code from stack locals → Describes facts code to stack locals
  frame_goes code from to stack locals goes describes = record {
    on_stack = entries_go from.stack to.stack goes.stack describes.on_stack;
    in_locals = λ slot. local_goes (or_top (slice_get from.locals slot)) (or_top (slice_get to.locals slot)) (locals_go from.locals to.locals goes.locals slot) (describes.in_locals slot);
    room = describes.room;
  }

  pub wanted_meant : (want : Want) (found : Tag) {value : Value} → IsWanted Goes want found → Held found value → IsMeant facts want value
  wanted_meant (Of wanted) found is held = entry_goes found wanted is held
  wanted_meant Reference found is held = reference_held is held
  wanted_meant AnyArray found is held = array_held (λ element. true) is held
  wanted_meant ByteArray found is held = byte_array_held is held
