-- What files in memory show, and which of their calls fail.
use Rattle.std.specs.Prelude.{◌≡◌, ◌⊎◌, ◌<◌, ◌≤◌, ◌++◌, [], ◌∷◌, ℕ, List, Result, Ok, Err, length, map, Contains, IsNone, String, string_bytes, Vec}
use Rattle.std.specs.declared.alloc.Global.{Global}
use Rattle.dj_outer.specs.declared.files.Loaded.{Loaded}
use Rattle.dj_outer.specs.declared.files.Loaded.TheVariants.{Whole, Over}
use Rattle.dj_outer.specs.declared.files.LoadFault.{LoadFault}
use Rattle.dj_outer.specs.declared.files.LoadFault.TheVariants.{Failed, Memory}
use Rattle.dj_outer.specs.Count.{next_count}
use Rattle.dj_outer.specs.Files.{file_named}

-- `failing` has the numbers of the calls that fail, `calls` is the next call's; `asked` is oldest first
pub record FilesState : Type 0 where
  pub held : List (List ℕ × List ℕ)
  pub failing : List ℕ
  pub calls : ℕ
  pub asked : List (List ℕ)
  pub faults : ℕ

-- files as told: the bytes of each name, and of each file
abbrev pub told_files : List (String Global × Vec ℕ Global) → List (List ℕ × List ℕ)
told_files files = map (λ file. (string_bytes file.0, file.1.items)) files

-- what a file of these bytes gives: all of them, or Over where they are more than the limit
abbrev pub Gives : Loaded → ℕ → List ℕ → Type 0
Gives (Whole given) limit bytes = (given.items ≡ bytes) × (length bytes ≤ limit)
Gives Over limit bytes = limit < length bytes

-- the next load fails: its number is listed, or no file has the name
abbrev pub LoadFails : FilesState → List ℕ → Type 0
LoadFails files name = Contains files.failing files.calls ⊎ IsNone (file_named files.held name)

-- a load spends its number; the name is asked unless memory is wanting, and Failed counts a fault
abbrev pub after_load : FilesState → List ℕ → Result Loaded LoadFault → FilesState
after_load files name (Ok loaded) =
    record files { calls = next_count files.calls; asked = files.asked ++ name ∷ [] }
after_load files name (Err Failed) =
    record files { calls = next_count files.calls; asked = files.asked ++ name ∷ []; faults = next_count files.faults }
after_load files name (Err (Memory error)) = record files { calls = next_count files.calls }
