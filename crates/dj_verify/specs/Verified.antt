-- What the checker answers.
use Rattle.std.specs.Prelude.{⊤, List}
use Rattle.dj_names.specs.declared.header.Header.{Header}
use Rattle.dj_frames.specs.Frames.{Frame}
use Rattle.dj_code.specs.MethodCode.{Code, Typed}
use Rattle.dj_tags.specs.Goes.{Assignability}
use Rattle.dj_verify.specs.declared.fault.VerifyFault.{VerifyFault}
use Rattle.dj_verify.specs.declared.fault.VerifyFault.TheVariants as fault
use Rattle.dj_verify.specs.Table.{IsFrameTable, IsFirstViolation}

-- there is a table of frames for code
pub record HasFrames (Goes : Assignability) (headers : List Header) (code : Code) : Type 0 where
  pub frames : List Frame
  pub table : IsFrameTable Goes headers code frames

-- typed code has a table as its frames
abbrev pub IsTyped : Assignability → List Header → Typed → Type 0
IsTyped Goes headers typed = IsFrameTable Goes headers typed.code typed.frames

-- the fault is the first violation, or memory ran out
abbrev pub IsVerifyFault : Assignability → List Header → Code → VerifyFault → Type 0
IsVerifyFault Goes headers code (fault.Unverified pc rule) = IsFirstViolation Goes headers code pc rule
IsVerifyFault Goes headers code (fault.Memory error) = ⊤
