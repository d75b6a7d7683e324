-- What the outside tells doesn't depend on what else a run has, nor a trap on what would have come of it.
use Rattle.std.proofs.Common.{◌≡◌, Bool, true, false, ℕ, List, [], ◌∷◌, Option, Some, None, refl, ap, ◌∙◌}
use Rattle.std.specs.Prelude.{if◌then◌else◌, Result, Ok, Err, IfSome}
use Rattle.dj_names.specs.declared.header.Header.{Header}
use Rattle.dj_values.specs.Values.{Action, Trap, Answer, Given, Done, Thrown}
use Rattle.dj_values.specs.Deciding.{is_answer}
use Rattle.dj_values.specs.Outcomes.{Stop, More, Stuck, Reply, Gives, Halts, Asks, told, then_on, trap, World, State, Outcome, Is, Stops, acted, answered, outside}
use Rattle.dj_outside.specs.declared.stop.Stop as code_stop
use Rattle.dj_outside.specs.Runs.{state_of, alone, stop_of, Ends}

-- ---- in any store

-- the outcome of a world alone, with a store beside it
abbrev pub with_store : {S A : Type 0} → S → Outcome (Unit {0}) A → Outcome S A
with_store store (Is result state) = Is result (state_of store state.world)
with_store store (Stops stop state) = Stops stop (state_of store state.world)

answered_anywhere : {S A : Type 0} (headers : List Header) (action : Action) (store : S) (there : Answer → State S → Outcome S A) (here : Answer → State (Unit {0}) → Outcome (Unit {0}) A)
    → ((answer : Answer) (world : World) → there answer (state_of store world) ≡ with_store store (here answer (alone world)))
    → (answers : List Answer) (world : World) → answered headers action there answers (state_of store world) ≡ with_store store (answered headers action here answers (alone world))
answered_anywhere headers action store there here same [] world = refl
answered_anywhere headers action store there here same (first ∷ rest) world = fits (is_answer headers action first)
  where
    behind : World
    behind = record { answers = rest; actions = world.actions }

    fits : (test : Bool) → (if test then there first (state_of store behind) else Stops More (state_of store world)) ≡ with_store store (if test then here first (alone behind) else Stops More (alone world))
    fits true = same first behind
    fits false = refl

pub outside_anywhere : {S A : Type 0} (headers : List Header) (reply : Reply A) (store : S) (world : World) → outside headers reply (state_of store world) ≡ with_store store (outside headers reply (alone world))
outside_anywhere headers (Gives result) store world = refl
outside_anywhere headers (Halts stop) store world = refl
outside_anywhere headers (Asks action next) store world =
    answered_anywhere headers action store (λ answer. outside headers (next answer)) (λ answer. outside headers (next answer)) (λ answer behind. outside_anywhere headers (next answer) store behind)
    world.answers (acted action (alone world)).world

-- what a reply came to in a world alone, it comes to beside any store
pub ends_anywhere : {S A B : Type 0} (view : A → B) (headers : List Header) (reply : Reply B) (store : S) (old new : World) (result : Result A code_stop.Stop)
    → Ends view result (alone new) (outside headers reply (alone old)) → Ends view result (state_of store new) (outside headers reply (state_of store old))
ends_anywhere view headers reply store old new (Ok value) is = outside_anywhere headers reply store old ∙ ap (with_store store) is
ends_anywhere view headers reply store old new (Err stop) is = stopped (stop_of stop) is
  where
    stopped : (why : Option Stop) → IfSome why (λ it. outside headers reply (alone old) ≡ Stops it (alone new)) → IfSome why (λ it. outside headers reply (state_of store old) ≡ Stops it (state_of store new))
    stopped None same = tt
    stopped (Some it) same = outside_anywhere headers reply store old ∙ ap (with_store store) same

-- ---- traps

-- a stop, in place of any result
abbrev retyped : {S A B : Type 0} → Outcome S A → Outcome S B
retyped (Is result state) = Stops Stuck state
retyped (Stops stop state) = Stops stop state

-- a trap, whatever it would have given
abbrev trapped : {S A : Type 0} → List Header → List ℕ → List Answer → State S → Outcome S A
trapped headers class = answered headers (Trap class) (λ answer. outside headers (then_on (told answer) (λ other. Halts Stuck)))

retyped-trap : {S : Type 0} (A B : Type 0) (headers : List Header) (class : List ℕ) (answers : List Answer) (state : State S) → trapped {A = B} headers class answers state ≡ retyped (trapped {A = A} headers class answers state)
retyped-trap A B headers class [] state = refl
retyped-trap {S = S} A B headers class (first ∷ rest) state = of_answer first (is_answer headers (Trap class) first)
  where
    behind : State S
    behind = record { store = state.store; world = record { answers = rest; actions = state.world.actions } }

    of_answer : (answer : Answer) (test : Bool)
        → (if test then outside {A = B} headers (then_on (told answer) (λ other. Halts Stuck)) behind else Stops More state) ≡ retyped (if test then outside {A = A} headers (then_on (told answer) (λ other. Halts Stuck)) behind else Stops More state)
    of_answer (Given value) true = refl
    of_answer (Given value) false = refl
    of_answer Done true = refl
    of_answer Done false = refl
    of_answer (Thrown reference) true = refl
    of_answer (Thrown reference) false = refl

-- what a trap came to, it comes to in place of any result
pub trap_as : {S : Type 0} (A B : Type 0) (headers : List Header) (class : List ℕ) (state after : State S) (why : Stop) → outside headers (trap {A = A} class) state ≡ Stops why after → outside headers (trap {A = B} class) state ≡ Stops why after
trap_as A B headers class state after why is = retyped-trap A B headers class state.world.answers (acted (Trap class) state) ∙ ap retyped is
