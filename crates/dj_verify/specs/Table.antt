-- The table of frames, which must exist, and what is told where there is none (JVMS 4.10.1.6).
use Rattle.std.specs.Prelude.{◌≡◌, ℕ, ◌+◌, List, [], ◌∷◌, map, length, drop, Option, Some, None, IsSome, IfSome, ◌⊎◌, if◌then◌else◌}
use Rattle.dj_names.specs.declared.header.Header.{Header}
use Rattle.dj_instructions.specs.Instructions.{Instruction, Instructions}
use Rattle.dj_frames.specs.Frames.{Frame}
use Rattle.dj_code.specs.MethodCode.{Code}
use Rattle.dj_tags.specs.Goes.{Assignability, Working, top_down}
use Rattle.dj_verify.specs.declared.rule.Rule.{Rule}
use Rattle.dj_verify.specs.declared.rule.Rule.TheVariants.{NoFrame, Into, Operands, Room, Target, Handler, Past}
use Rattle.dj_verify.specs.Rules.{Place, entry, given, falls, effect_at, FrameKeeps}

-- ---- one place

-- the first frame, else the other
abbrev pub or_else : Option Working → Option Working → Option Working
or_else None flow = flow
or_else (Some frame) flow = Some frame

-- the frame at a place: the one given there, else what flows in
abbrev pub frame_at : Code → Place → Option Working
frame_at code place = or_else (given code place.pc) place.flow

-- what flows into the place behind, by the frame here
abbrev pub flow_behind : Code → Place → Working → Option Working
flow_behind code place frame = if falls place.instruction then Some (effect_at code place frame) else None

-- the place keeps the rule; without a frame all but the first are kept
abbrev pub Keeps : Assignability → List Header → Code → Place → Rule → Type 0
Keeps Goes headers code place NoFrame = IsSome (frame_at code place)
Keeps Goes headers code place Into = IfSome (given code place.pc) (λ frame. FrameKeeps Goes headers code place frame Into)
Keeps Goes headers code place Operands = IfSome (frame_at code place) (λ frame. FrameKeeps Goes headers code place frame Operands)
Keeps Goes headers code place Room = IfSome (frame_at code place) (λ frame. FrameKeeps Goes headers code place frame Room)
Keeps Goes headers code place Target = IfSome (frame_at code place) (λ frame. FrameKeeps Goes headers code place frame Target)
Keeps Goes headers code place Handler = IfSome (frame_at code place) (λ frame. FrameKeeps Goes headers code place frame Handler)
Keeps Goes headers code place Past = IfSome (frame_at code place) (λ frame. FrameKeeps Goes headers code place frame Past)

-- the rules, in the order in which they are looked at
abbrev pub rules : List Rule
rules = NoFrame ∷ Into ∷ Operands ∷ Room ∷ Target ∷ Handler ∷ Past ∷ []

-- all of them are kept
abbrev pub KeepsAll : (Rule → Type 0) → List Rule → Type 0
KeepsAll Keep [] = Unit {0}
KeepsAll Keep (rule ∷ more) = Keep rule × KeepsAll Keep more

-- this is the first of them that is broken
abbrev pub BreaksFirst : (Rule → Type 0) → List Rule → Rule → Type 0
BreaksFirst Keep [] broken = ⊥
BreaksFirst Keep (rule ∷ more) broken = ((rule ≡ broken) × ¬ Keep rule) ⊎ (Keep rule × BreaksFirst Keep more broken)

-- ---- the table

-- frames of the first instructions, one each: each is the one at its place, which keeps the rules
abbrev pub AreFrames : Assignability → List Header → Code → Option Working → Instructions → List Working → Type 0
AreFrames Goes headers code flow part [] = Unit {0}
AreFrames Goes headers code flow [] (frame ∷ frames) = ⊥
AreFrames Goes headers code flow (first ∷ rest) (frame ∷ frames) =
    let place : Place = record { flow = flow; pc = first.0; instruction = first.1; rest = rest } in
    (frame_at code place ≡ Some frame) × KeepsAll (Keeps Goes headers code place) rules × AreFrames Goes headers code (flow_behind code place frame) rest frames

-- a table for so many of the first instructions
pub record IsTableTo (Goes : Assignability) (headers : List Header) (code : Code) (count : ℕ) (frames : List Working) : Type 0 where
  pub number : length frames ≡ count
  pub are : AreFrames Goes headers code (Some (entry code)) code.instructions frames

-- the frames are a table: one for each instruction
abbrev pub IsFrameTable : Assignability → List Header → Code → List Frame → Type 0
IsFrameTable Goes headers code frames = IsTableTo Goes headers code (length code.instructions) (map top_down frames)

-- what flows in behind these frames
abbrev pub flow_after : Code → Option Working → Instructions → List Working → Option Working
flow_after code flow part [] = flow
flow_after code flow [] (frame ∷ frames) = flow
flow_after code flow (first ∷ rest) (frame ∷ frames) =
    flow_after code (flow_behind code (record { flow = flow; pc = first.0; instruction = first.1; rest = rest }) frame) rest frames

-- a table for the instructions before `pc` exists and none up to it, and this is the first rule that fails there
pub record IsFirstViolation (Goes : Assignability) (headers : List Header) (code : Code) (pc : ℕ) (rule : Rule) : Type 0 where
  pub before : List Working
  pub table : IsTableTo Goes headers code (length before) before
  pub instruction : Instruction
  pub rest : Instructions
  pub here : drop (length before) code.instructions ≡ (pc, instruction) ∷ rest
  pub breaks : BreaksFirst (Keeps Goes headers code (record { flow = flow_after code (Some (entry code)) code.instructions before; pc = pc; instruction = instruction; rest = rest })) rules rule
  pub none : (frames : List Working) → ¬ IsTableTo Goes headers code (length before + 1) frames
