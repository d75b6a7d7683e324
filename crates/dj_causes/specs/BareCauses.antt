-- Why a method without code isn't printed (JLS 6.4.2, 8.4).
use Rattle.std.specs.Prelude.{◌≡◌, ◌⊎◌, ℕ, List, [], ◌∷◌, Option, IsTrue, IsSomeAnd, Contains, slice_get, codes}
use Rattle.dj_names.specs.Headers.{Name}
use Rattle.dj_names.specs.Assignable.{object_name}
use Rattle.dj_names.specs.Identifiers.{IsIdentifier}
use Rattle.dj_names.specs.MethodNames.{is_constructor, is_initialiser}
use Rattle.dj_class.specs.Described.{ClassOf, MethodOf}
use Rattle.dj_world.specs.Worlds.{WorldOf}
use Rattle.dj_world.specs.Named.{NamesClass}
use Rattle.dj_sayable.specs.Above.{IsAtOrAbove}
use Rattle.dj_causes.specs.declared.cause.Cause.{Cause}
use Rattle.dj_causes.specs.declared.cause.Cause.TheVariants as cause
use Rattle.dj_causes.specs.Firsts.{IsLeastName, IsFirstCause}
use Rattle.dj_causes.specs.ClassCauses.{IsSaid}
use Rattle.dj_signatures.specs.Signatures.{BreaksSignature}

-- an identifier, or the name of a constructor or of a static initialiser
abbrev pub IsMethodName : Name → Type 0
IsMethodName name = IsTrue (is_constructor name) ⊎ IsTrue (is_initialiser name) ⊎ IsIdentifier name

-- the classes that every text may rest on
abbrev pub core_names : List Name
core_names = object_name ∷ codes "java/lang/String" ∷ codes "java/lang/Class" ∷ codes "java/lang/Throwable" ∷ []

-- a class that the texts of all methods of a class may rest on: its own, and those that every text may
abbrev pub IsCommon : ClassOf → Name → Type 0
IsCommon class name = Contains (class.this_class ∷ core_names) name

-- a class that the head of a method names: in its descriptor, or among those that it declares to throw
abbrev pub IsInHead : MethodOf → Name → Type 0
IsInHead method name = NamesClass method.descriptor name ⊎ Contains method.thrown name

-- a name that can't be said among a method's own, and those of the classes that its text may rest on and all above them
abbrev pub IsUnsaid : WorldOf → ClassOf → MethodOf → Name → Type 0
IsUnsaid world class method name =
    (¬ IsMethodName method.name × (name ≡ method.name))
    ⊎ (IsAtOrAbove world.headers (λ lower. IsCommon class lower ⊎ IsInHead method lower) name × ¬ IsSaid world class.this_class name)

-- when each cause holds of the method at a place, which has no code: no cause that speaks of code does
abbrev pub HasBareCause : WorldOf → ClassOf → ℕ → Cause → Type 0
HasBareCause world class at (cause.Float pc) = ⊥
HasBareCause world class at (cause.Dynamic pc) = ⊥
HasBareCause world class at (cause.Missing name) = ⊥
HasBareCause world class at (cause.Name name) = IsSomeAnd (slice_get class.methods at) (λ method. IsLeastName (IsUnsaid world class method) name)
HasBareCause world class at cause.Signature = IsSomeAnd (slice_get class.methods at) (BreaksSignature class at)
HasBareCause world class at (cause.Member pc) = ⊥
HasBareCause world class at (cause.Interface pc) = ⊥
HasBareCause world class at (cause.Monitor pc) = ⊥
HasBareCause world class at (cause.BeforeSuper pc) = ⊥
HasBareCause world class at (cause.Unborn pc) = ⊥
HasBareCause world class at (cause.Large count) = ⊥

-- the number of a cause
abbrev pub number_of : Cause → ℕ
number_of (cause.Float pc) = 1
number_of (cause.Dynamic pc) = 2
number_of (cause.Missing name) = 3
number_of (cause.Name name) = 4
number_of cause.Signature = 5
number_of (cause.Member pc) = 6
number_of (cause.Interface pc) = 7
number_of (cause.Monitor pc) = 8
number_of (cause.BeforeSuper pc) = 9
number_of (cause.Unborn pc) = 10
number_of (cause.Large count) = 11

-- the first cause that a method without code has, or that it has none
abbrev pub IsBareCause : WorldOf → ClassOf → ℕ → Option Cause → Type 0
IsBareCause world class at = IsFirstCause number_of (HasBareCause world class at)
