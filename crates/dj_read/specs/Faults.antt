-- Why bytes aren't read as a unit.
use Rattle.std.specs.Prelude.{◌≢◌, ℕ, List}
use Rattle.dj_syntax.specs.Trees.{CompilationUnit}
use Rattle.dj_syntax.specs.UnitText.{unit_text}
use Rattle.dj_syntax.specs.WellFormed.{IsWellFormed}
use Rattle.dj_depth.specs.Depth.{IsDeep}
use Rattle.dj_read.specs.declared.read.ReadUnitFault.{ReadUnitFault}
use Rattle.dj_read.specs.declared.read.ReadUnitFault.TheVariants.{Misread, Deep, Memory}

-- the text of no well formed unit
abbrev pub IsNoText : List ℕ → Type 0
IsNoText bytes = (unit : CompilationUnit) → IsWellFormed unit → unit_text unit ≢ bytes

-- the fault of bytes that nest too deep, and of others that are the text of no well formed unit, if memory isn't out
abbrev pub IsReadUnitFault : List ℕ → ReadUnitFault → Type 0
IsReadUnitFault bytes Misread = ¬ IsDeep bytes × IsNoText bytes
IsReadUnitFault bytes Deep = IsDeep bytes
IsReadUnitFault bytes (Memory error) = Unit {0}
