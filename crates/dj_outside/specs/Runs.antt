-- What the functions of a program that runs code or source come to, as outcomes of the definition.
use Rattle.std.specs.Prelude.{◌≡◌, ℕ, codes, true, List, ◌∷◌, map, Option, Some, None, Result, Ok, Err, IfSome}
use Rattle.dj_names.specs.declared.header.Header.{Header}
use Rattle.dj_values.specs.Values.{Action, Answer}
use Rattle.dj_values.specs.Views.{view_reference, view_action, view_answer}
use Rattle.dj_values.specs.Deciding.{is_answer}
use Rattle.dj_values.specs.Outcomes.{Throws, More, Stuck, World, State, Outcome, Is, Stops}
use Rattle.dj_values.specs.Outcomes as outcomes
use Rattle.dj_outside.specs.declared.trap.Trap as code_trap
use Rattle.dj_outside.specs.declared.trap.Trap.TheVariants as traps
use Rattle.dj_outside.specs.declared.stop.Stop as code_stop
use Rattle.dj_outside.specs.declared.stop.Stop.TheVariants as stops
use Rattle.dj_outside.specs.declared.outside.Outside as code_outside

-- the class of an exception that the machine throws by itself
abbrev pub trap_class : code_trap.Trap → List ℕ
trap_class traps.Arithmetic = codes "java/lang/ArithmeticException"
trap_class traps.Null = codes "java/lang/NullPointerException"
trap_class traps.Bounds = codes "java/lang/ArrayIndexOutOfBoundsException"
trap_class traps.Store = codes "java/lang/ArrayStoreException"
trap_class traps.Cast = codes "java/lang/ClassCastException"
trap_class traps.Size = codes "java/lang/NegativeArraySizeException"

-- the answers that are left, and the actions so far
abbrev pub world_of : code_outside.Outside → World
world_of outside = record { answers = map view_answer outside.answers.now; actions = map view_action outside.actions }

-- a state of this store and this world
abbrev pub state_of : {S : Type 0} → S → World → State S
state_of store world = record { store = store; world = world }

-- a state that is a world alone
abbrev pub alone : World → State (Unit {0})
alone = state_of tt

-- a stop; want of memory is none
abbrev pub stop_of : code_stop.Stop → Option outcomes.Stop
stop_of (stops.Memory error) = None
stop_of (stops.Throws reference) = Some (Throws (view_reference reference))
stop_of stops.More = Some More
stop_of stops.Stuck = Some Stuck

-- an outcome is what a function of the program came to in this state; of want of memory nothing is said
abbrev pub Ends : {S A B : Type 0} → (A → B) → Result A code_stop.Stop → State S → Outcome S B → Type 0
Ends view (Ok value) state outcome = outcome ≡ Is (view value) state
Ends view (Err stop) state outcome = IfSome (stop_of stop) (λ why. outcome ≡ Stops why state)

-- the next answer is this one, which the action can have, and it is taken
abbrev pub IsTold : List Header → Action → Answer → World → World → Type 0
IsTold headers action first old new = (old.answers ≡ first ∷ new.answers) × (is_answer headers action first ≡ true) × (new.actions ≡ old.actions)

-- the next answer is missing, or the action can't have it
abbrev pub IsUntold : List Header → Action → World → Type 0
IsUntold headers action world = (first : Answer) (rest : List Answer) → world.answers ≡ first ∷ rest → is_answer headers action first ≡ true → ⊥
