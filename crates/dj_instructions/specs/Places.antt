-- Where the instruction at a pc stands among others, or that none stands there.
use Rattle.std.specs.Prelude.{◌≡◌, ◌≢◌, ℕ, ◌<◌, List, length, slice_index_or}
use Rattle.dj_instructions.specs.declared.instruction.Instruction as declared

-- the instruction at this place is the one at the pc
pub record IsPlaceOf (instructions : List (ℕ × declared.Instruction)) (pc place : ℕ) : Type 0 where
  pub within : place < length instructions
  pub here : (other : ℕ × declared.Instruction) → (slice_index_or instructions place other).0 ≡ pc

-- no instruction is at the pc
pub record IsNoPlace (instructions : List (ℕ × declared.Instruction)) (pc : ℕ) : Type 0 where
  pub none : (place : ℕ) (other : ℕ × declared.Instruction) → place < length instructions → (slice_index_or instructions place other).0 ≢ pc
