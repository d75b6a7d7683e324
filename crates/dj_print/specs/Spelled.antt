-- How the printer writes names, as the spellings that the text of a unit speaks of.
use Rattle.std.specs.Prelude.{ℕ, ◌<◌, ◌==◌, if◌then◌else◌, All, List, [], ◌∷◌, ◌++◌, map, IfSome, codes}
use Rattle.std.specs.List.{flat_map}
use Rattle.dj_names.specs.Identifiers.{IsIdentifier}
use Rattle.dj_syntax.specs.Items.{Item, Space}
use Rattle.dj_syntax.specs.Trees.{CompilationUnit, view_unit}
use Rattle.dj_syntax.specs.UnitText.{Spellings, full_names, sign}
use Rattle.dj_syntax.specs.WellFormed.{IsQualified, IsHelperName}
use Rattle.dj_syntax.specs.declared.unit.Unit as code_unit

-- every class's name in full, and the names of the unit's own
abbrev pub spellings : code_unit.Unit → Spellings
spellings unit = full_names (view_unit unit)

-- the names that a unit's text has besides those of its members
pub record IsNamedUnit (unit : CompilationUnit) : Type 0 where
  pub in_package : IfSome unit.«package» IsQualified
  pub name : IsIdentifier unit.name
  pub helper : IfSome unit.helper IsHelperName

-- units that are characters of one byte
abbrev pub IsAsciiName : List ℕ → Type 0
IsAsciiName name = All (λ unit. unit < 128) name

-- a unit of a class's name, with a dot for a slash
abbrev pub dot : ℕ → ℕ
dot unit = if unit == 47 then 46 else unit

-- what stands before an argument by its place: a comma before each but the first
abbrev pub comma_text : ℕ → List ℕ
comma_text index = if index == 0 then [] else codes ", "

-- the names of classes, each with a comma before it
abbrev pub more_classes : Spellings → List (List ℕ) → List Item
more_classes names classes = flat_map (λ piece. (sign (codes ",") ∷ Space ∷ []) ++ piece) (map names.class_name classes)
