-- What is made once of a class to tell the causes of it and of its members.
use Rattle.std.specs.Prelude.{◌≡◌, ◌≢◌, ◌⊎◌, ℕ, List, length, slice_get, Option, Some, None, IfSome, MatchOption}
use Rattle.std.specs.declared.cmp.Ordering.TheVariants.{Less}
use Rattle.std.specs.Ordering.{nat_cmp}
use Rattle.std.specs.Cmp.Lexicographic.{slice_cmp}
use Rattle.dj_names.specs.Headers.{Name}
use Rattle.dj_class.specs.Described.{ClassOf, MethodOf}
use Rattle.dj_world.specs.Worlds.{WorldOf}
use Rattle.dj_sayable.specs.Above.{IsAtOrAbove}
use Rattle.dj_sayable.specs.Scopes.{IsScope}
use Rattle.dj_signatures.specs.Signatures.{method_names, TellsRivals}
use Rattle.dj_causes.specs.declared.bare.BareTable.{BareTable}
use Rattle.dj_causes.specs.declared.cause.Cause.{Cause}
use Rattle.dj_causes.specs.declared.cause.FieldCause.{FieldCause}
use Rattle.dj_causes.specs.declared.causes.Causes.{Causes}
use Rattle.dj_causes.specs.declared.tables.Tables.{Tables}
use Rattle.dj_causes.specs.Firsts.{IsLeastName}
use Rattle.dj_causes.specs.ClassCauses.{IsSaid}
use Rattle.dj_causes.specs.FieldCauses.{IsFieldCause, field_names}
use Rattle.dj_causes.specs.BareCauses.{IsCommon, IsUnsaid, IsBareCause}

-- a name that can't be said among those of some classes and all above them
abbrev pub IsUnsaidAbove : WorldOf → Name → (Name → Type 0) → Name → Type 0
IsUnsaidAbove world class IsOne name = IsAtOrAbove world.headers IsOne name × ¬ IsSaid world class name

-- of two names that may be missing the one that comes first in the order of units
abbrev pub IsLesser : Option Name → Option Name → Option Name → Type 0
IsLesser None second found = found ≡ second
IsLesser (Some first) None found = found ≡ Some first
IsLesser (Some first) (Some second) found =
    ((found ≡ Some second) × (slice_cmp nat_cmp second first ≡ Less)) ⊎ ((found ≡ Some first) × (slice_cmp nat_cmp second first ≢ Less))

-- the least name of which this holds, or that it holds of none
abbrev pub IsLeastIfAny : (Name → Type 0) → Option Name → Type 0
IsLeastIfAny P found = MatchOption found ((name : Name) → ¬ P name) (IsLeastName P)

-- what the causes of methods without code rest on: which methods of the class have rivals, and the least unsaid name that all of them share
pub record IsBareTable (world : WorldOf) (class : ClassOf) (table : BareTable) : Type 0 where
  pub rivals : TellsRivals class.methods table.rivals
  pub common : IsLeastIfAny (IsUnsaidAbove world class.this_class (IsCommon class)) table.common

-- the tables are those of a class: its scope, its members' names, and what the causes of its methods without code rest on, where that was made
pub record AreTables (world : WorldOf) (class : ClassOf) (tables : Tables) : Type 0 where
  pub scope : IsScope world.headers world.members class.this_class tables.scope
  pub fields : tables.fields ≡ field_names class.fields
  pub methods : tables.methods ≡ method_names class.methods
  pub bare : IfSome tables.bare (IsBareTable world class)

-- the first cause of each field of a class, in file order
pub record TellsFields (world : WorldOf) (class : ClassOf) (found : List (Option FieldCause)) : Type 0 where
  pub size : length found ≡ length class.fields
  pub each : (at : ℕ) (cause : Option FieldCause) → slice_get found at ≡ Some cause → IsFieldCause world class at cause

-- the first cause of the method at a place, where it has no code; its text can say each of its names where it has none
pub record IsToldOf (world : WorldOf) (class : ClassOf) (at : ℕ) (cause : Option Cause) : Type 0 where
  pub first : (method : MethodOf) → slice_get class.methods at ≡ Some method → method.code ≡ None → IsBareCause world class at cause
  pub said : (method : MethodOf) → slice_get class.methods at ≡ Some method → method.code ≡ None → cause ≡ None → (name : Name) → ¬ IsUnsaid world class method name

-- the first cause of each method of a class that has no code, in file order
pub record TellsMethods (world : WorldOf) (class : ClassOf) (found : List (Option Cause)) : Type 0 where
  pub size : length found ≡ length class.methods
  pub each : (at : ℕ) (cause : Option Cause) → slice_get found at ≡ Some cause → IsToldOf world class at cause

-- the causes are those of a class: its tables, and the causes of its members
pub record AreCauses (world : WorldOf) (class : ClassOf) (causes : Causes) : Type 0 where
  pub tables : AreTables world class causes.tables
  pub fields : TellsFields world class causes.fields
  pub methods : TellsMethods world class causes.methods
