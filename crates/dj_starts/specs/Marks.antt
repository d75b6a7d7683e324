-- Marks of pcs, as a list of booleans by pc.
use Rattle.std.specs.Prelude.{◌≡◌, ◌⊎◌, ℕ, ◌+◌, ◌*◌, ◌<◌, ◌≤◌, Bool, true, false, List, [], ◌∷◌, length, slice_index_or, if◌then◌else◌}
use Rattle.std.specs.List.{Contains}
use Rattle.dj_instructions.specs.Instructions.{Instructions}
use Rattle.dj_code.specs.MethodCode.{Code}
use Rattle.dj_code.specs.Targets.{IsStart}
use Rattle.dj_starts.specs.declared.ways.Edge.{Edge}
use Rattle.dj_starts.specs.Edges.{edges, from_pc}

-- the pc is marked
abbrev pub IsMarked : List Bool → ℕ → Type 0
IsMarked marks pc = slice_index_or marks pc false ≡ true

-- of the pcs that there is room for, those are marked now that were before and those that are asked for
pub record MarksMore (old new : List Bool) (Asked : ℕ → Type 0) : Type 0 where
  pub room : length new ≡ length old
  pub kept : (pc : ℕ) → IsMarked old pc → IsMarked new pc
  pub these : (pc : ℕ) → pc < length old → Asked pc → IsMarked new pc
  pub only : (pc : ℕ) → IsMarked new pc → IsMarked old pc ⊎ Asked pc

-- how many pcs aren't marked
abbrev pub unmarked : List Bool → ℕ
unmarked [] = 0
unmarked (mark ∷ rest) = (if mark then 0 else 1) + unmarked rest

-- from this pc on no instruction begins
pub record IsRoom (instructions : Instructions) (room : ℕ) : Type 0 where
  pub within : (pc : ℕ) → room ≤ pc → from_pc pc instructions ≡ []

-- one of the ways leads to the pc
pub record IsTarget (ways : List Edge) (pc : ℕ) : Type 0 where
  pub way : Edge
  pub one : Contains ways way
  pub there : pc ≡ way.target

-- pcs that are asked for were marked, and those that are new wait
pub record Visits (seen marked : List Bool) (pending waiting : List ℕ) (Asked : ℕ → Type 0) : Type 0 where
  pub marks : MarksMore seen marked Asked
  pub fresh : (pc : ℕ) → IsMarked marked pc → IsMarked seen pc ⊎ Contains waiting pc
  pub kept : (pc : ℕ) → Contains pending pc → Contains waiting pc
  pub only : (pc : ℕ) → Contains waiting pc → Contains pending pc ⊎ IsMarked marked pc
  pub work : 2 * unmarked marked + length waiting ≤ 2 * unmarked seen + length pending

-- the ways from the instruction at this pc lead to marked pcs, where there is room
abbrev pub GoesOn : Code → List Bool → ℕ → Type 0
GoesOn code marks pc = (way : Edge) → Contains (edges code pc) way → way.target < length marks → IsMarked marks way.target

-- an instruction begins at the pc, which is marked in both lists
pub record IsBothMarked (instructions : Instructions) (first second : List Bool) (pc : ℕ) : Type 0 where
  pub at : IsStart instructions pc
  pub one : IsMarked first pc
  pub other : IsMarked second pc
