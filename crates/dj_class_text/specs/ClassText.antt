-- The unit of a class, given the bodies of its methods (JVMS 4.1, 4.5, 4.6; JLS 7.4, 8.1, 9.1).
use Rattle.std.specs.Prelude.{◌≡◌, ◌≢◌, ℕ, ◌<◌, Bool, ◌||◌, List, ◌∷◌, ◌++◌, All, length, slice_index, Option, Some, None, if◌then◌else◌}
use Rattle.std.specs.Str.{bytes_eq}
use Rattle.dj_names.specs.Headers.{Name}
use Rattle.dj_names.specs.Assignable.{object_name}
use Rattle.dj_syntax.specs.Trees.{Body, CompilationUnit}
use Rattle.dj_syntax.specs.UnitText.{is_interface}
use Rattle.dj_syntax.specs.WellFormed.{held_class}
use Rattle.dj_class.specs.Described.{ClassOf}
use Rattle.dj_world.specs.Worlds.{WorldOf}
use Rattle.dj_signatures.specs.Signatures.{method_names}
use Rattle.dj_class_text.specs.Fields.{ShowsFields}
use Rattle.dj_class_text.specs.Methods.{ShowsMethods}
use Rattle.dj_class_text.specs.Helpers.{IsHelper, methods_have_rethrow}

-- the superclass that the text names: none in an interface, and none where it is Object (JLS 8.1.4, 9.1.3)
abbrev pub shown_superclass : Bool → Option Name → Option Name
shown_superclass interface None = None
shown_superclass interface (Some name) = if interface || bytes_eq name object_name then None else Some name

-- a class's name is a package's name, where there is one, a slash, and a simple name, which has no slash
abbrev pub IsSplit : Option Name → Name → Name → Type 0
IsSplit None simple name = (name ≡ simple) × All (λ unit. unit ≢ 47) simple
IsSplit (Some in_package) simple name = (name ≡ in_package ++ 47 ∷ simple) × All (λ unit. unit ≢ 47) simple

-- a slash stands at this place, and none behind it
pub record IsLastSlash (at : ℕ) (units : Name) : Type 0 where
  pub within : at < length units
  pub here : slice_index units at ≡ 47
  pub none_behind : (k : ℕ) → at < k → k < length units → slice_index units k ≢ 47

-- the unit of a class in a world, with these bodies of its methods, one place a method
pub record IsClassText (world : WorldOf) (class : ClassOf) (bodies : List (Option Body)) (unit : CompilationUnit) : Type 0 where
  pub named : IsSplit unit.«package» unit.name class.this_class
  pub flags : unit.flags ≡ held_class class.flags
  pub superclass : unit.superclass ≡ shown_superclass (is_interface class.flags) class.super_class
  pub interfaces : unit.interfaces ≡ class.interfaces
  pub fields : ShowsFields world class (is_interface class.flags) 0 class.fields unit.fields
  pub helper : IsHelper (method_names class.methods) (methods_have_rethrow unit.methods) unit.helper
  pub methods : ShowsMethods world class (is_interface class.flags) 0 class.methods bodies unit.methods
