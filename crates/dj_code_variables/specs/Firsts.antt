-- The frames with which blocks begin, from the bottom of their stacks up.
use Rattle.std.specs.Prelude.{◌≡◌, ℕ, length, List, Option, Some, None, slice_get}
use Rattle.dj_instructions.specs.Instructions.{Instruction}
use Rattle.dj_frames.specs.Frames.{Frame}
use Rattle.dj_code.specs.MethodCode.{Typed}
use Rattle.dj_tags.specs.Goes.{Working, top_down}
use Rattle.dj_vars.specs.Naming.{IsAt}

-- this is the one frame before the one instruction at a pc
pub record IsFrameAt (typed : Typed) (pc : ℕ) (frame : Frame) : Type 0 where
  pub instruction : Instruction
  pub at : IsAt typed pc instruction (top_down frame)
  pub only : (other : Instruction) (found : Working) → IsAt typed pc other found → found ≡ top_down frame

-- the frame before the instruction at a pc, if there is one
abbrev pub IsFirstAt : Typed → ℕ → Option Frame → Type 0
IsFirstAt typed pc None = (instruction : Instruction) (frame : Working) → ¬ IsAt typed pc instruction frame
IsFirstAt typed pc (Some frame) = IsFrameAt typed pc frame

-- these are the frames at the pcs at which blocks start
pub record AreFirsts (typed : Typed) (starts : List ℕ) (firsts : List (Option Frame)) : Type 0 where
  pub long : length firsts ≡ length starts
  pub each : (block start : ℕ) (first : Option Frame) → slice_get starts block ≡ Some start → slice_get firsts block ≡ Some first → IsFirstAt typed start first
