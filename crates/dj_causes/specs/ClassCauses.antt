-- Why the text of a class can't be printed (JVMS 4.1, 4.7.2; JLS 6.4.2, 7.4.1, 8.1.4, 8.9, 9.3, 9.6).
use Rattle.std.specs.Prelude.{◌≡◌, ◌⊎◌, ℕ, List, ◌++◌, Option, None, IsSomeAnd, IsBitSet, codes}
use Rattle.std.specs.Option.{option_to_list}
use Rattle.dj_names.specs.declared.members.Constant.{Constant}
use Rattle.dj_names.specs.declared.members.Constant.TheVariants as constant
use Rattle.dj_names.specs.Headers.{Name}
use Rattle.dj_kinds.specs.Access.{package_of}
use Rattle.dj_class.specs.Described.{ClassOf, FieldOf}
use Rattle.dj_world.specs.Worlds.{WorldOf}
use Rattle.dj_sayable.specs.Saying.{IsUnobscured, CanBeSaid}
use Rattle.dj_causes.specs.declared.cause.ClassCause.{ClassCause}
use Rattle.dj_causes.specs.declared.cause.ClassCause.TheVariants as cause
use Rattle.dj_causes.specs.Firsts.{IsFirstWith, IsFirstCause}

-- the text of a class can say a name
abbrev pub IsSaid : WorldOf → Name → Name → Type 0
IsSaid world class name = CanBeSaid world.headers world.members class name

-- a class's own name can stand as its package and the name that it declares
abbrev pub IsOwnSaid : WorldOf → Name → Type 0
IsOwnSaid world class = IsUnobscured world.headers world.members class class

-- the class of a file that holds what is said of a package or a module (JLS 7.4.1; JVMS 4.1)
abbrev pub DescribesPackage : Name → Type 0
DescribesPackage class = (class ≡ package_of class ++ codes "package-info") ⊎ (class ≡ package_of class ++ codes "module-info")

-- the names behind the class's own that its text begins with: its superclass's and its interfaces'
abbrev pub parent_names : ClassOf → List Name
parent_names class = option_to_list class.super_class ++ class.interfaces

-- the first that can't stand in its text: the class's own name, of which less is asked, or one of its parents'
abbrev pub IsFirstUnsaid : WorldOf → ClassOf → Name → Type 0
IsFirstUnsaid world class name =
    (¬ IsOwnSaid world class.this_class × (name ≡ class.this_class))
    ⊎ (IsOwnSaid world class.this_class × IsFirstWith (λ parent. ¬ IsSaid world class.this_class parent) (parent_names class) name)

-- a float or a double
abbrev pub IsFloating : Constant → Type 0
IsFloating (constant.Int number) = ⊥
IsFloating (constant.Long number) = ⊥
IsFloating (constant.Text units) = ⊥
IsFloating (constant.Float bits) = Unit {0}
IsFloating (constant.Double bits) = Unit {0}

-- a field has a constant that counts, since the field is static (JVMS 4.7.2), and that is no float and no double
abbrev pub HasConstant : FieldOf → Type 0
HasConstant field = IsBitSet field.flags 3 × IsSomeAnd field.constant (λ value. ¬ IsFloating value)

-- the name of the first field without such a constant
pub record IsFirstUnset (fields : List FieldOf) (name : Name) : Type 0 where
  pub field : FieldOf
  pub first : IsFirstWith (λ field. ¬ HasConstant field) fields field
  pub named : name ≡ field.name

-- when each cause holds: an enum (ACC_ENUM, 0x4000); an annotation type (ACC_ANNOTATION, 0x2000); no class of its own;
-- java/lang/Object; a name that can't stand in its text; in an interface (ACC_INTERFACE, 0x0200) a field without such a constant
abbrev pub HasClassCause : WorldOf → ClassOf → ClassCause → Type 0
HasClassCause world class cause.Enum = IsBitSet class.flags 14
HasClassCause world class cause.Annotation = IsBitSet class.flags 13
HasClassCause world class cause.Package = DescribesPackage class.this_class
HasClassCause world class cause.Root = class.super_class ≡ None
HasClassCause world class (cause.Name name) = IsFirstUnsaid world class name
HasClassCause world class (cause.Constant name) = IsBitSet class.flags 9 × IsFirstUnset class.fields name

-- the number of a cause
abbrev pub class_number : ClassCause → ℕ
class_number cause.Enum = 1
class_number cause.Annotation = 2
class_number cause.Package = 3
class_number cause.Root = 4
class_number (cause.Name name) = 5
class_number (cause.Constant name) = 6

-- the first cause that a class has, or that it has none
abbrev pub IsClassCause : WorldOf → ClassOf → Option ClassCause → Type 0
IsClassCause world class = IsFirstCause class_number (HasClassCause world class)
