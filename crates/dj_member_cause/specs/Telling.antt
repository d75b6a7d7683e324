-- What was told of earlier instructions, and where it serves again.
use Rattle.std.specs.Prelude.{◌≡◌, ◌↔◌, ◌<◌, ℕ, Bool, false, List, Some, length, slice_get, IsTrue, IfSome}
use Rattle.dj_names.specs.MethodNames.{is_constructor}
use Rattle.dj_instructions.specs.declared.instruction.Instruction as declared
use Rattle.dj_instructions.specs.Instructions.{MethodRef, Instruction, InvokeSpecial, instruction_at, view_instruction, view_instructions}
use Rattle.dj_frames.specs.declared.frame.Frame as code_frame
use Rattle.dj_frames.specs.Frames.{view_frame}
use Rattle.dj_code.specs.declared.method_code.Typed.{Typed}
use Rattle.dj_code.specs.MethodCode.{view_typed}
use Rattle.dj_receivers.specs.Marked.{AreOnThis}
use Rattle.dj_static.specs.declared.classes.Classes.{Classes}
use Rattle.dj_member_cause.specs.declared.judging.Judgement.{Judgement}
use Rattle.dj_member_cause.specs.declared.known.Known.{Known}
use Rattle.dj_member_cause.specs.Deciding.{IsJudged, LacksAt}

-- instructions are the same, and no constructor is called by `invokespecial`: so what is told of them doesn't go by the frame
pub record IsAlike (first second : Instruction) : Type 0 where
  pub same : first ≡ second
  pub plain : (method : MethodRef) → first ≡ InvokeSpecial method → is_constructor method.name ≡ false

-- an earlier instruction is like the one at a place
pub record IsSameAt (instructions : List (ℕ × declared.Instruction)) (place earlier : ℕ) : Type 0 where
  pub before : earlier < place
  pub one : ℕ × declared.Instruction
  pub other : ℕ × declared.Instruction
  pub there : slice_get instructions earlier ≡ Some one
  pub here : slice_get instructions place ≡ Some other
  pub alike : IsAlike (view_instruction one.1) (view_instruction other.1)

-- this may be told of the instruction at a place
abbrev pub IsJudgedAt : Classes → Typed → ℕ → Judgement → Type 0
IsJudgedAt classes typed place judgement =
    (at : ℕ × declared.Instruction) (frame : code_frame.Frame) → slice_get typed.code.instructions place ≡ Some at → slice_get typed.frames place ≡ Some frame
    → IsJudged classes (view_frame frame) (view_instruction at.1) judgement

-- these were told of the instructions before a place
pub record AreTold (classes : Classes) (typed : Typed) (told : List Judgement) (place : ℕ) : Type 0 where
  pub many : length told ≡ place
  pub each : (earlier : ℕ) (judgement : Judgement) → slice_get told earlier ≡ Some judgement → IsJudgedAt classes typed earlier judgement

-- the instruction at a place is the one at its offset
abbrev pub IsThereAt : Typed → ℕ → Type 0
IsThereAt typed place = (at : ℕ × declared.Instruction) → slice_get typed.code.instructions place ≡ Some at → instruction_at (view_instructions typed.code.instructions) at.0 ≡ Some (view_instruction at.1)

-- it is told that the instruction at a place lacks its member, or doesn't
abbrev pub LacksByPlace : Classes → Typed → ℕ → Bool → Type 0
LacksByPlace classes typed place lacks =
    (at : ℕ × declared.Instruction) (frame : code_frame.Frame) → slice_get typed.code.instructions place ≡ Some at → slice_get typed.frames place ≡ Some frame
    → IsTrue lacks ↔ LacksAt classes (view_typed typed) at.0 (view_instruction at.1) (view_frame frame)

-- what is known before a place
pub record IsKnown (classes : Classes) (typed : Typed) (place : ℕ) (known : Known) : Type 0 where
  pub told : AreTold classes typed known.told place
  pub calls : IfSome known.calls (AreOnThis (view_typed typed))
