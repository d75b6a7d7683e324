-- What it says of the rebuilt text that no instruction lacks its member.
use Rattle.std.specs.Prelude.{◌≡◌, ℕ, List, Option, Some}
use Rattle.dj_names.specs.declared.header.Header.{Header}
use Rattle.dj_names.specs.Headers.{Name}
use Rattle.dj_instructions.specs.Instructions.{MethodRef, Instruction, InvokeSpecial}
use Rattle.dj_frames.specs.Frames.{Tag, UnbornThis, Unborn, Frame}
use Rattle.dj_meaning.specs.Members.{Members}
use Rattle.dj_meant.specs.Meant as meant
use Rattle.dj_meant.specs.Meant.{Receiver, Made, Begun, This, Other}
use Rattle.dj_member_cause.specs.Lawful.{may_set, receiver_tag}

-- what a receiver is, by its tag; it is `this` only where that is so on each way, and any other may be taken for Other
pub data IsReceiver (tag : Option Tag) (OnThis : Type 0) : Receiver → Type 0 where
  as_made : {pc : ℕ} → tag ≡ Some (Unborn pc) → IsReceiver tag OnThis Made
  as_begun : tag ≡ Some UnbornThis → IsReceiver tag OnThis Begun
  as_this : OnThis → IsReceiver tag OnThis This
  as_other : IsReceiver tag OnThis Other

-- what is asked of the receiver of an instruction
abbrev pub IsReceiverOf : (MethodRef → Type 0) → Frame → Instruction → Receiver → Type 0
IsReceiverOf OnThis frame instruction receiver = (method : MethodRef) → instruction ≡ InvokeSpecial method → IsReceiver (receiver_tag method frame) (OnThis method) receiver

-- an instruction with its member has it as the trials on members ask
pub record IsShown (world : List Header) (members : List Members) (from : Name) (OnThis : MethodRef → Type 0) (frame : Frame) (instruction : Instruction) : Type 0 where
  pub receiver : Receiver
  pub is : IsReceiverOf OnThis frame instruction receiver
  pub has : meant.HasMember world members from (may_set world members from) receiver instruction
