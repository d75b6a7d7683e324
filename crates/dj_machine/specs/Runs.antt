-- What the program's functions come to, as outcomes of the definition.
use Rattle.std.specs.Prelude.{◌≡◌, ℕ, Bool, true, List, [], map, drop, Option, Some, None, Result, option_map}
use Rattle.std.specs.Ordering.{nat_cmp}
use Rattle.std.specs.BTreeMap as tree
use Rattle.std.specs.BTreeMap.{BTreeMap}
use Rattle.dj_names.specs.declared.header.Header.{Header}
use Rattle.dj_names.specs.Types.{JType}
use Rattle.dj_values.specs.declared.value.Value as code_value
use Rattle.dj_values.specs.Values.{Value}
use Rattle.dj_values.specs.Views.{view_value}
use Rattle.dj_values.specs.Deciding.{is_instance}
use Rattle.dj_values.specs.Outcomes.{State, Outcome}
use Rattle.dj_instructions.specs.Instructions.{Instructions, view_instructions}
use Rattle.dj_code.specs.MethodCode.{Code}
use Rattle.dj_bytecode.specs.Meanings.{Family}
use Rattle.dj_bytecode.specs.Machine.{Locals, local_slots, Place, Before, Returned, code_from, step}
use Rattle.dj_operands.specs.Stacks.{stacked}
use Rattle.dj_outside.specs.declared.stop.Stop as code_stop
use Rattle.dj_outside.specs.Runs.{world_of, state_of, Ends}
use Rattle.dj_machine.specs.declared.locals.Locals as code_locals
use Rattle.dj_machine.specs.declared.run.Method as code_method
use Rattle.dj_machine.specs.declared.run.Run as code_run
use Rattle.dj_machine.specs.declared.run.Place as code_place
use Rattle.dj_machine.specs.declared.run.Place.TheVariants as places

-- ---- where instructions begin

-- the instructions from a place on, none without one
abbrev pub from_place : Instructions → Option ℕ → Instructions
from_place instructions None = []
from_place instructions (Some place) = drop place instructions

-- of the instructions from a place on, these are the places of the first one at each offset
abbrev pub AreStartsFrom : ℕ → Instructions → BTreeMap ℕ ℕ → Type 0
AreStartsFrom from instructions places = (pc : ℕ) → from_place instructions (tree.get nat_cmp places pc) ≡ code_from pc (drop from instructions)

-- what is looked up for a method's run is where its instructions begin
pub record IsReady (method : code_method.Method) : Type 0 where
  pub starts : AreStartsFrom 0 (view_instructions method.code.now.instructions) method.starts.now.places

-- ---- states

-- the values of locals, by slot
abbrev pub view_slots : List (Option code_value.Value) → Locals
view_slots = map (option_map view_value)

-- the locals of the program
abbrev pub located : code_locals.Locals → Locals
located locals = view_slots locals.slots

-- the state of a run
abbrev pub run_state : code_run.Run → State Locals
run_state run = state_of (located run.locals) (world_of run.outside)

-- ---- outcomes

-- a place, with the stack there
abbrev pub view_place : List Value → code_place.Place → Place
view_place stack (places.Before rest) = Before (view_instructions rest.now) stack
view_place stack (places.Returned value) = Returned (option_map view_value value)

-- a run has done an instruction of this family that goes on behind itself
abbrev pub HasDone : List Header → Code → Family → Result (Unit {0}) code_stop.Stop → code_run.Run → code_run.Run → Type 0
HasDone headers code family result old new =
    (rest : Instructions) → Ends (λ done. Before rest (stacked new.stack)) result (run_state new) (step headers local_slots code family rest (stacked old.stack) (run_state old))

-- a run has come to a place, or stopped
abbrev pub HasCome : Result code_place.Place code_stop.Stop → code_run.Run → Outcome Locals Place → Type 0
HasCome result run outcome = Ends (view_place (stacked run.stack)) result (run_state run) outcome

-- an exception of this type is one of the class that an entry names, if it names one
abbrev pub is_caught : List Header → JType → Option (List ℕ) → Bool
is_caught headers type None = true
is_caught headers type (Some class) = is_instance headers type class
