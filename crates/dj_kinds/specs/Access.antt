-- Where a member may be used (JLS 6.6), with no class inside another.
use Rattle.std.specs.Prelude.{◌≡◌, ◌⊎◌, ◌||◌, ◌==◌, ℕ, Bool, true, false, List, [], ◌∷◌, map, Option, Some, IfSome, IsSomeAnd, IsBitSet, slice_get, if◌then◌else◌, codes}
use Rattle.dj_names.specs.declared.header.Header.{Header}
use Rattle.dj_names.specs.declared.members.Field.{Field}
use Rattle.dj_names.specs.declared.members.MethodHead.{MethodHead}
use Rattle.dj_names.specs.declared.members.ClassMembers.{ClassMembers}
use Rattle.dj_names.specs.declared.members.Member.{Member}
use Rattle.dj_names.specs.Headers.{Name, IsInterface, IsSubclass}
use Rattle.dj_names.specs.Types.{JType, Boolean, Byte, Char, Short, Int, Long, Float, Double, Class, Array, view_descriptor, parameters_of}
use Rattle.dj_names.specs.Assignable.{object_name}
use Rattle.dj_kinds.specs.Own.{IsClassAt}

-- whether a slash is among the units
abbrev pub has_slash : List ℕ → Bool
has_slash [] = false
has_slash (unit ∷ units) = (unit == 47) || has_slash units

-- the units of a class's name up to its last slash, which tell its package (JVMS 4.2.1; JLS 7.1)
abbrev pub package_of : Name → List ℕ
package_of [] = []
package_of (unit ∷ units) = if has_slash (unit ∷ units) then unit ∷ package_of units else []

-- the type is the class, or one that its superclasses lead to it; an array has the superclass Object (JLS 10.8)
abbrev pub IsBelow : List Header → Name → JType → Type 0
IsBelow headers class Boolean = ⊥
IsBelow headers class Byte = ⊥
IsBelow headers class Char = ⊥
IsBelow headers class Short = ⊥
IsBelow headers class Int = ⊥
IsBelow headers class Long = ⊥
IsBelow headers class Float = ⊥
IsBelow headers class Double = ⊥
IsBelow headers class (Class name) = IsSubclass headers name class
IsBelow headers class (Array element) = class ≡ object_name

-- a protected member of this class may be used in a class below it, which is no interface, and what isn't static only through
-- an expression of a type below that class or, for `super`, none (6.6.2)
abbrev pub AllowsBelow : List Header → Name → Name → ℕ → Option JType → Type 0
AllowsBelow headers from class flags through =
    IsBitSet flags 2 × IsSubclass headers from class × ¬ IsInterface headers from × (IsBitSet flags 3 ⊎ IfSome through (IsBelow headers from))

-- a member of this class with these flags may be used in the class `from`, through an expression of a type or none:
-- everywhere where it is public; in its class where it is private; else in its package, and below its class where it is protected (6.6.1)
abbrev pub Allows : List Header → Name → Name → ℕ → Option JType → Type 0
Allows headers from class flags through =
    IsBitSet flags 0
    ⊎ (IsBitSet flags 1 × (from ≡ class))
    ⊎ (¬ IsBitSet flags 1 × (package_of from ≡ package_of class))
    ⊎ AllowsBelow headers from class flags through

-- the flags of the methods, or of the fields, of a class
abbrev pub flags_of : Bool → ClassMembers → List ℕ
flags_of true declared = map (λ (method : MethodHead). method.flags) declared.methods
flags_of false declared = map (λ (field : Field). field.flags) declared.fields

-- the type is an array
abbrev pub IsArray : JType → Type 0
IsArray Boolean = ⊥
IsArray Byte = ⊥
IsArray Char = ⊥
IsArray Short = ⊥
IsArray Int = ⊥
IsArray Long = ⊥
IsArray Float = ⊥
IsArray Double = ⊥
IsArray (Class name) = ⊥
IsArray (Array element) = Unit {0}

-- the method `clone` of Object, which each array has as a public one (JLS 10.7)
pub record IsClone (declared : ClassMembers) (class : Name) (member : Member) : Type 0 where
  pub of_object : class ≡ object_name
  pub is_method : member.method ≡ true
  pub method : MethodHead
  pub there : slice_get declared.methods member.number ≡ Some method
  pub name : method.name ≡ codes "clone"
  pub plain : parameters_of (view_descriptor method.descriptor) ≡ []

-- the member is there and may be used
pub record IsAccessible (headers : List Header) (members : List ClassMembers) (from : Name) (member : Member) (through : Option JType) : Type 0 where
  pub class : Name
  pub declared : ClassMembers
  pub class_at : IsClassAt headers members class member.class declared
  pub flags : ℕ
  pub there : slice_get (flags_of member.method declared) member.number ≡ Some flags
  pub allowed : Allows headers from class flags through ⊎ (IsSomeAnd through IsArray × IsClone declared class member)
