-- What the functions that check a place promise each other.
use Rattle.std.specs.Prelude.{◌≡◌, ◌↔◌, ℕ, ◌≤◌, All, List, [], ◌∷◌, length, drop, slice_get, Bool, true, false, Option, Some, None, option_map, IfSome, IsTrue}
use Rattle.std.specs.Option.{option_and_then}
use Rattle.std.specs.Ordering.{nat_cmp}
use Rattle.std.specs.BTreeMap as tree
use Rattle.std.specs.BTreeMap.{BTreeMap}
use Rattle.dj_names.specs.declared.header.Header.{Header}
use Rattle.dj_instructions.specs.Instructions.{Instructions, IsRising, view_instructions}
use Rattle.dj_frames.specs.Frames.{Frame, view_frames}
use Rattle.dj_code.specs.MethodCode.{Code}
use Rattle.dj_tags.specs.Goes.{Assignability, Working}
use Rattle.dj_effects.specs.declared.working.Working as code_working
use Rattle.dj_effects.specs.Doing.{IsKnown, view_working}
use Rattle.dj_verify.specs.declared.checking.Before.{Before}
use Rattle.dj_verify.specs.declared.subject.Subject.{Subject}
use Rattle.dj_verify.specs.declared.rule.Rule.{Rule}
use Rattle.dj_verify.specs.declared.rule.Rule.TheVariants.{Into, Operands, Room, Target, Handler, Past}
use Rattle.dj_verify.specs.Rules.{Covers, HandlerTakes, HasRoom, Place, effect_at, frame_in, FrameKeeps}
use Rattle.dj_verify.specs.Table.{frame_at, flow_behind, Keeps, KeepsAll, BreaksFirst, rules, IsTableTo}

-- ---- given frames

-- of the frames from a place on, the places are those of the first one at each offset
abbrev pub ArePlacesFrom : ℕ → List (ℕ × Frame) → BTreeMap ℕ ℕ → Type 0
ArePlacesFrom from frames places =
    (pc : ℕ) → option_and_then (λ at. option_map (λ x. x.1) (slice_get frames at)) (tree.get nat_cmp places pc) ≡ frame_in pc (drop from frames)

-- the code that is checked has its instructions in order, and all is known that is looked up for it
pub record IsReady (subject : Subject) : Type 0 where
  pub rising : IsRising (view_instructions subject.code.now.instructions)
  pub known : IsKnown subject.known.now
  pub places : ArePlacesFrom 0 (view_frames subject.code.now.frames) subject.places

-- ---- a place

-- what flows in, seen from the top of its stack down
abbrev pub flow_of : Option code_working.Working → Option Working
flow_of = option_map view_working

-- what flows in has no more locals than there are
abbrev pub FlowFits : Code → Option Working → Type 0
FlowFits code flow = IfSome flow (λ frame. length frame.locals ≤ code.max_locals)

-- what is told of a place: whether what flows in fits, and whether it is the last
pub record AreTold (code : Code) (flow : Option Working) (rest : Instructions) (fits is_last : Bool) : Type 0 where
  pub flow_fits : IsTrue fits ↔ FlowFits code flow
  pub at_end : IsTrue is_last ↔ (rest ≡ [])

-- what is asked of a frame alone: whether it is within the limits, and whether the handlers that span the offset take what may be thrown in it
pub record IsAsked (Goes : Assignability) (code : Code) (pc : ℕ) (frame : Working) (before : Before) : Type 0 where
  pub room : IsTrue before.has_room ↔ HasRoom code frame
  pub taken : IsTrue before.is_taken ↔ All (λ handler. Covers handler pc → HandlerTakes Goes code frame handler) code.handlers

-- ---- rules

-- the rules on a frame and what the instruction leaves of it
abbrev pub late_rules : List Rule
late_rules = Room ∷ Target ∷ Handler ∷ Past ∷ []

-- the first of the rules that is broken, if one is
abbrev pub IsBroken : (Rule → Type 0) → List Rule → Option Rule → Type 0
IsBroken Keep list None = KeepsAll Keep list
IsBroken Keep list (Some rule) = BreaksFirst Keep list rule

-- what flows in goes into the frame at a place, which is this one; or it doesn't, and that is the first rule broken there
abbrev pub IsPlaced : Assignability → List Header → Code → Place → Option Working → Bool → Type 0
IsPlaced Goes headers code place frame true = (frame_at code place ≡ frame) × Keeps Goes headers code place Into
IsPlaced Goes headers code place frame false = BreaksFirst (Keeps Goes headers code place) rules Into

-- the first of the later rules that an instruction with its frame breaks; or where it keeps them all, what it leaves
abbrev pub IsFrameChecked : Assignability → List Header → Code → Place → Working → Working → Option Rule → Type 0
IsFrameChecked Goes headers code place frame after (Some rule) = BreaksFirst (FrameKeeps Goes headers code place frame) (Operands ∷ late_rules) rule
IsFrameChecked Goes headers code place frame after None =
    KeepsAll (FrameKeeps Goes headers code place frame) (Operands ∷ late_rules) × (after ≡ effect_at code place frame)

-- the place keeps all rules with its frame, of which this holds, and this flows on
pub record IsKept (Goes : Assignability) (headers : List Header) (code : Code) (place : Place) (Holds : Working → Type 0) (behind : Option Working) : Type 0 where
  pub frame : Working
  pub frame_is : frame_at code place ≡ Some frame
  pub holds : Holds frame
  pub keeps : KeepsAll (Keeps Goes headers code place) rules
  pub flows : behind ≡ flow_behind code place frame

-- the same of all rules at a place
abbrev pub IsChecked : Assignability → List Header → Code → Place → (Working → Type 0) → Option Working → Option Rule → Type 0
IsChecked Goes headers code place Holds behind (Some rule) = BreaksFirst (Keeps Goes headers code place) rules rule
IsChecked Goes headers code place Holds behind None = IsKept Goes headers code place Holds behind

-- there is a table of frames for code, of which this holds
pub record HasTableSo (Holds : List Working → Type 0) (Goes : Assignability) (headers : List Header) (code : Code) : Type 0 where
  pub frames : List Working
  pub holds : Holds frames
  pub table : IsTableTo Goes headers code (length code.instructions) frames
