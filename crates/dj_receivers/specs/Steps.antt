-- What the functions inside the crate promise each other of marks.
use Rattle.std.specs.Prelude.{◌≡◌, ◌⊎◌, ◌↔◌, ℕ, ◌<◌, Bool, true, false, List, [], ◌∷◌, length, slice_index_or}
use Rattle.std.specs.List.{Contains}
use Rattle.dj_instructions.specs.Instructions.{Instructions}
use Rattle.dj_code.specs.declared.method_code.Handler.{Handler}
use Rattle.dj_code.specs.MethodCode.{Code, Typed}
use Rattle.dj_code.specs.Targets.{targets_of}
use Rattle.dj_starts.specs.Marks.{IsMarked, IsRoom}
use Rattle.dj_receivers.specs.Receivers.{Arrives}

-- an entry is marked, with so many on top of it; the topmost mark stands first
abbrev pub IsAt : List Bool → ℕ → Type 0
IsAt marks place = slice_index_or marks place false ≡ true

-- each mark of the first list is one of the second
abbrev pub IsBelow : List Bool → List Bool → Type 0
IsBelow fewer more = (place : ℕ) → IsAt fewer place → IsAt more place

-- it is, and is one of so many from the top on
abbrev pub IsHeld : List Bool → ℕ → ℕ → Type 0
IsHeld marks height place = (place < height) × IsAt marks place

-- so many marks from the top on are left
abbrev pub IsCut : List Bool → ℕ → List Bool → Type 0
IsCut marks height found = (place : ℕ) → IsAt found place ↔ IsHeld marks height place

-- what is marked among some and among others, of which so many are looked at
abbrev pub IsMet : List Bool → List Bool → ℕ → List Bool → Type 0
IsMet known marks height found = (place : ℕ) → IsAt found place ↔ (IsAt known place × IsHeld marks height place)

-- one is marked among some, and not among others
pub record HasMore (known marks : List Bool) (height : ℕ) : Type 0 where
  pub place : ℕ
  pub at : IsAt known place
  pub lost : ¬ IsHeld marks height place

-- ---- where control comes otherwise than from the instruction before

-- one of these instructions jumps to a pc
abbrev pub IsJumpedTo : Instructions → ℕ → Type 0
IsJumpedTo [] pc = ⊥
IsJumpedTo (at ∷ rest) pc = Contains (targets_of at.1) pc ⊎ IsJumpedTo rest pc

-- the handler of one of these entries is at a pc
abbrev pub IsHandlerOf : List Handler → ℕ → Type 0
IsHandlerOf [] pc = ⊥
IsHandlerOf (handler ∷ rest) pc = (pc ≡ handler.target) ⊎ IsHandlerOf rest pc

-- of the pcs that there is room for, those are marked to which control jumps
pub record AreJoins (code : Code) (joins : List Bool) : Type 0 where
  pub room : IsRoom code.instructions (length joins)
  pub first : 0 < length joins → IsMarked joins 0
  pub jumps : (pc : ℕ) → pc < length joins → IsJumpedTo code.instructions pc → IsMarked joins pc
  pub handlers : (pc : ℕ) → pc < length joins → IsHandlerOf code.handlers pc → IsMarked joins pc

-- ---- paths

-- on some path to a pc an entry isn't marked
pub record Misses (typed : Typed) (pc place : ℕ) : Type 0 where
  pub found : List Bool
  pub arrives : Arrives typed pc found
  pub misses : ¬ IsAt found place

-- each mark that is missing is missing on some path
abbrev pub IsLow : Typed → ℕ → List Bool → Type 0
IsLow typed pc marks = (place : ℕ) → ¬ IsAt marks place → Misses typed pc place
