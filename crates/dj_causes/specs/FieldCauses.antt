-- Why a field isn't printed (JVMS 4.5, 4.7.2; JLS 3.8, 4.2.1, 8.3, 15.28).
use Rattle.std.specs.Prelude.{◌≡◌, ◌⊎◌, ℕ, ℤ, pos, negsuc, ◌≤ℤ◌, ◌<◌, List, map, Option, Some, IsSomeAnd, IsBitSet, slice_get, codes}
use Rattle.dj_names.specs.declared.members.Constant.{Constant}
use Rattle.dj_names.specs.declared.members.Constant.TheVariants as constant
use Rattle.dj_names.specs.Headers.{Name}
use Rattle.dj_names.specs.Identifiers.{IsIdentifier}
use Rattle.dj_names.specs.Types.{JType, Boolean, Byte, Char, Short, Int, Long, Float, Double, Class, Array}
use Rattle.dj_class.specs.Described.{ClassOf, FieldOf}
use Rattle.dj_world.specs.Worlds.{WorldOf}
use Rattle.dj_world.specs.Named.{class_of}
use Rattle.dj_causes.specs.declared.cause.FieldCause.{FieldCause}
use Rattle.dj_causes.specs.declared.cause.FieldCause.TheVariants as cause
use Rattle.dj_causes.specs.Firsts.{IsFirstCause}
use Rattle.dj_causes.specs.ClassCauses.{IsSaid}

-- the names of fields, in order
abbrev pub field_names : List FieldOf → List Name
field_names = map (λ (field : FieldOf). field.name)

-- a name that stands before this place too
pub record IsRepeated (names : List Name) (at : ℕ) : Type 0 where
  pub name : Name
  pub here : slice_get names at ≡ Some name
  pub earlier : ℕ
  pub before : earlier < at
  pub there : slice_get names earlier ≡ Some name

-- the ints that a field of a type may have (JLS 4.2.1; JVMS 2.3.4 for boolean)
abbrev pub IsInRange : JType → ℤ → Type 0
IsInRange Boolean number = (pos 0 ≤ℤ number) × (number ≤ℤ pos 1)
IsInRange Byte number = (negsuc 127 ≤ℤ number) × (number ≤ℤ pos 127)
IsInRange Char number = (pos 0 ≤ℤ number) × (number ≤ℤ pos 65535)
IsInRange Short number = (negsuc 32767 ≤ℤ number) × (number ≤ℤ pos 32767)
IsInRange Int number = Unit {0}
IsInRange Long number = ⊥
IsInRange Float number = ⊥
IsInRange Double number = ⊥
IsInRange (Class name) number = ⊥
IsInRange (Array element) number = ⊥

-- a constant that the text of a field of a type can show: neither a float nor a double, and one of the type's values
abbrev pub IsShowable : JType → Constant → Type 0
IsShowable type (constant.Int number) = IsInRange type number
IsShowable type (constant.Long number) = type ≡ Long
IsShowable type (constant.Text units) = type ≡ Class (codes "java/lang/String")
IsShowable type (constant.Float bits) = ⊥
IsShowable type (constant.Double bits) = ⊥

-- the first of a field's own name and its type's that can't be said
abbrev pub IsUnsaidInField : WorldOf → ClassOf → FieldOf → Name → Type 0
IsUnsaidInField world class field name =
    (¬ IsIdentifier field.name × (name ≡ field.name))
    ⊎ (IsIdentifier field.name × (class_of field.descriptor ≡ Some name) × ¬ IsSaid world class.this_class name)

-- a static field (ACC_STATIC, 0x0008) has a constant, and it isn't final (ACC_FINAL, 0x0010) or its text can't show the constant
abbrev pub HasWrongConstant : FieldOf → Type 0
HasWrongConstant field =
    IsBitSet field.flags 3 × IsSomeAnd field.constant (λ value. ¬ IsBitSet field.flags 4 ⊎ ¬ IsShowable field.descriptor value)

-- when each cause holds of the field at a place: a name that can't be said; one before it has its name; a wrong constant
abbrev pub HasFieldCause : WorldOf → ClassOf → ℕ → FieldCause → Type 0
HasFieldCause world class at (cause.Name name) = IsSomeAnd (slice_get class.fields at) (λ field. IsUnsaidInField world class field name)
HasFieldCause world class at cause.Signature = IsRepeated (field_names class.fields) at
HasFieldCause world class at cause.Constant = IsSomeAnd (slice_get class.fields at) HasWrongConstant

-- the number of a cause
abbrev pub field_number : FieldCause → ℕ
field_number (cause.Name name) = 1
field_number cause.Signature = 2
field_number cause.Constant = 3

-- the first cause that a field has, or that it has none
abbrev pub IsFieldCause : WorldOf → ClassOf → ℕ → Option FieldCause → Type 0
IsFieldCause world class at = IsFirstCause field_number (HasFieldCause world class at)
