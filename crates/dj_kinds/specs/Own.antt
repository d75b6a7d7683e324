-- Which members a class has itself (JVMS 4.5, 4.6).
use Rattle.std.specs.Prelude.{◌≡◌, ◌≢◌, ◌⊎◌, ◌&&◌, ℕ, ◌<◌, Bool, true, false, List, Some, IsBitSet, is_some, slice_get}
use Rattle.dj_names.specs.declared.header.Header.{Header}
use Rattle.dj_names.specs.declared.members.Field.{Field}
use Rattle.dj_names.specs.declared.members.MethodHead.{MethodHead}
use Rattle.dj_names.specs.declared.members.ClassMembers.{ClassMembers}
use Rattle.dj_names.specs.declared.members.Member.{Member}
use Rattle.dj_names.specs.Headers.{Name, names, IsInterface}
use Rattle.dj_names.specs.MethodNames.{is_constructor}
use Rattle.dj_names.specs.Types.{JType, Descriptor, view_type, view_descriptor, parameters_of, result_of}

-- the place of the first item of which this holds
pub record IsFirst {A : Type 0} (Holds : A → Type 0) (items : List A) (at : ℕ) : Type 0 where
  pub item : A
  pub is : slice_get items at ≡ Some item
  pub holds : Holds item
  pub first : (earlier : ℕ) (other : A) → earlier < at → slice_get items earlier ≡ Some other → ¬ Holds other

-- the members of a class of this name, at a place in both lists
pub record IsClassAt (headers : List Header) (members : List ClassMembers) (class : Name) (at : ℕ) (declared : ClassMembers) : Type 0 where
  pub named : slice_get (names headers) at ≡ Some class
  pub there : slice_get members at ≡ Some declared

-- ---- fields

-- the field has this name and type
abbrev pub IsFieldOf : Name → JType → Field → Type 0
IsFieldOf name type field = (field.name ≡ name) × (view_type field.descriptor ≡ type)

-- the class has the field itself: the first of its name and type in the file
pub record HasOwnField (headers : List Header) (members : List ClassMembers) (name : Name) (type : JType) (class : Name) (member : Member) : Type 0 where
  pub declared : ClassMembers
  pub class_at : IsClassAt headers members class member.class declared
  pub is_field : member.method ≡ false
  pub first : IsFirst (IsFieldOf name type) declared.fields member.number

-- ---- methods

-- the method has this name and descriptor
abbrev pub IsMethodOf : Name → Descriptor → MethodHead → Type 0
IsMethodOf name descriptor method = (method.name ≡ name) × (view_descriptor method.descriptor ≡ descriptor)

-- the method has this name and takes these parameters
abbrev pub IsOverload : Name → List JType → MethodHead → Type 0
IsOverload name parameters method = (method.name ≡ name) × (parameters_of (view_descriptor method.descriptor) ≡ parameters)

-- a compiler made the method to stand for another of other types (ACC_BRIDGE, JVMS table 4.6-A)
abbrev pub IsBridge : MethodHead → Type 0
IsBridge method = IsBitSet method.flags 6

-- a static or private method of an interface isn't seen from a class below it (JLS 8.4.8; JVMS 5.4.3.3)
abbrev pub IsHiddenBelow : List Header → Name → Name → MethodHead → Type 0
IsHiddenBelow headers start class method = (start ≢ class) × IsInterface headers class × (IsBitSet method.flags 3 ⊎ IsBitSet method.flags 1)

-- of a class, which is Object there, an interface sees only what is public and not static (JLS 9.2; JVMS 5.4.3.4)
abbrev pub IsHiddenInObject : List Header → Name → Name → MethodHead → Type 0
IsHiddenInObject headers start class method = IsInterface headers start × ¬ IsInterface headers class × (¬ IsBitSet method.flags 0 ⊎ IsBitSet method.flags 3)

-- a method of a constructor's name that has a result is no constructor (JVMS 2.9, 4.4.2)
abbrev pub is_false_constructor : Name → Descriptor → Bool
is_false_constructor name descriptor = is_constructor name && is_some (result_of descriptor)

-- a method of a class is seen by a search that starts at a class
abbrev pub IsSeen : List Header → Name → Name → MethodHead → Type 0
IsSeen headers start class method =
    ¬ IsHiddenBelow headers start class method × ¬ IsHiddenInObject headers start class method × (is_false_constructor method.name (view_descriptor method.descriptor) ≡ false)

-- the first of these methods that has the name and the descriptor and is seen
abbrev pub IsFirstOf : Name → Descriptor → (MethodHead → Type 0) → List MethodHead → ℕ → Type 0
IsFirstOf name descriptor Seen = IsFirst (λ method. IsMethodOf name descriptor method × Seen method)

-- of the methods of one name and parameters that are seen the first counts that is no bridge, and where all are bridges the first
abbrev pub Counts : Name → List JType → (MethodHead → Type 0) → List MethodHead → ℕ → Type 0
Counts name parameters Seen methods at =
    IsFirst (λ method. IsOverload name parameters method × Seen method × ¬ IsBridge method) methods at
    ⊎ (((other : ℕ) → ¬ IsFirst (λ method. IsOverload name parameters method × Seen method × ¬ IsBridge method) methods other) × IsFirst (λ method. IsOverload name parameters method × Seen method) methods at)

-- the class has the method itself, by what picks one among those of its methods that are seen where the search starts
pub record HasOwnMethod (headers : List Header) (members : List ClassMembers) (Picks : (MethodHead → Type 0) → List MethodHead → ℕ → Type 0) (start class : Name) (member : Member) : Type 0 where
  pub declared : ClassMembers
  pub class_at : IsClassAt headers members class member.class declared
  pub is_method : member.method ≡ true
  pub picked : Picks (IsSeen headers start class) declared.methods member.number
