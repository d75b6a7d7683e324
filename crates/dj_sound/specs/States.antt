-- Where a run of typed code stands, and what a step from there does (JVMS 2.11, 4.10.1.6).
use Rattle.std.specs.Prelude.{◌≡◌, ℕ, List, map, drop, Some, slice_get}
use Rattle.dj_values.specs.Values.{Value}
use Rattle.dj_values.specs.Outcomes.{Throws, More, Stuck, Outcome, Is, Stops}
use Rattle.dj_names.specs.declared.header.Header.{Header}
use Rattle.dj_instructions.specs.Instructions.{Instructions, IsRising}
use Rattle.dj_code.specs.MethodCode.{Code, Typed}
use Rattle.dj_tags.specs.Goes.{Working, top_down}
use Rattle.dj_tags.specs.Laxly.{Strictly}
use Rattle.dj_loaded.specs.Loaded.{MayRun}
use Rattle.dj_bytecode.specs.Machine.{Locals, Place, Before, Returned}
use Rattle.dj_typed_states.specs.Facts.{Facts, IsThrown}
use Rattle.dj_typed_states.specs.Held.{Describes}
use Rattle.dj_verify.specs.Verified.{IsTyped}

-- the table of typed code, each frame from the top of its stack down
abbrev pub table_of : Typed → List Working
table_of typed = map top_down typed.frames

-- a run stands before these instructions: they are those from a place on, and the frame at the same place of the table describes the state, by what is known of references
pub record Stands (facts : Facts) (code : Code) (table : List Working) (rest : Instructions) (stack : List Value) (locals : Locals) : Type 0 where
  pub place : ℕ
  pub here : drop place code.instructions ≡ rest
  pub frame : Working
  pub there : slice_get table place ≡ Some frame
  pub describes : Describes facts code frame stack locals

-- and so at a place of the machine; at its end nothing is asked
abbrev pub StandsAt : Facts → Code → List Working → Place → Locals → Type 0
StandsAt facts code table (Before rest stack) locals = Stands facts code table rest stack locals
StandsAt facts code table (Returned value) locals = Unit {0}

-- a step isn't stuck, where it leads the run stands, and of what it throws the facts hold that are known of what is thrown
abbrev pub StepsWell : Facts → Code → List Working → Outcome Locals Place → Type 0
StepsWell facts code table (Is place state) = StandsAt facts code table place state.store
StepsWell facts code table (Stops (Throws reference) state) = IsThrown facts reference
StepsWell facts code table (Stops More state) = Unit {0}
StepsWell facts code table (Stops Stuck state) = ⊥

-- code that keeps Java's rules in a world, by the table of its frames; its instructions rise
pub record IsStrict (world : List Header) (typed : Typed) : Type 0 where
  pub table : IsTyped (Strictly world) world typed
  pub rising : IsRising typed.code.instructions

-- strict code, where these classes may run
pub record RunsStrictly (world headers : List Header) (typed : Typed) : Type 0 where
  pub strict : IsStrict world typed
  pub may : MayRun world headers
