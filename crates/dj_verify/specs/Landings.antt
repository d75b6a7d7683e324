-- What is the same of a handler wherever it is thrown to.
use Rattle.std.specs.Prelude.{◌≡◌, ◌↔◌, ℕ, true, List, [], ◌∷◌, map, All, Option, IsSomeAnd, option_map}
use Rattle.std.specs.Option.{option_copied}
use Rattle.dj_frames.specs.Frames.{Tag, Frame, view_frame}
use Rattle.dj_code.specs.MethodCode.{Code, view_code}
use Rattle.dj_tags.specs.Goes.{Assignability, Working, LocalsGo}
use Rattle.dj_verify.specs.declared.landing.Landing.{Landing}
use Rattle.dj_verify.specs.declared.subject.Subject.{Subject}
use Rattle.dj_verify.specs.Rules.{Reaches, HandlerTakes}

-- a frame goes into another, but for their stacks
pub record LandsIn (Goes : Assignability) (frame : Working) (target : Frame) : Type 0 where
  pub locals : LocalsGo Goes frame.locals target.locals
  pub flag : frame.unborn_this ≡ true → target.unborn_this ≡ true

-- a frame goes into the one there is, but for their stacks
abbrev pub Lands : Assignability → Working → Option Frame → Type 0
Lands Goes frame target = IsSomeAnd target (LandsIn Goes frame)

-- the frames that reach an offset with nothing on their stacks but this are those that land in the one there is
abbrev pub IsTarget : Assignability → Code → ℕ → Tag → Option Frame → Type 0
IsTarget Goes code pc caught target = (frame : Working) → Lands Goes frame target ↔ Reaches Goes code (record frame { stack = caught ∷ [] }) pc

-- the frame that a landing has
abbrev pub target_in : Landing → Option Frame
target_in landing = option_map view_frame (option_copied landing.target)

-- a handler takes what lands in the frame there is
abbrev pub IsLanding : Assignability → Code → Landing → Type 0
IsLanding Goes code landing = (frame : Working) → Lands Goes frame (target_in landing) ↔ HandlerTakes Goes code frame landing.handler.now

-- those of all handlers of the code, in order
pub record AreLandings (Goes : Assignability) (code : Code) (landings : List Landing) : Type 0 where
  pub handlers : map (λ (landing : Landing). landing.handler.now) landings ≡ code.handlers
  pub each : All (IsLanding Goes code) landings

-- so they are kept for the code that is checked
abbrev pub HasLandings : Assignability → Subject → Type 0
HasLandings Goes subject = AreLandings Goes (view_code subject.code.now) subject.landings.items
