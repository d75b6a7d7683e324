-- One thing after another, as outcomes.
use Rattle.std.proofs.Common.{◌≡◌, Bool, true, false, List, [], ◌∷◌, refl, ap}
use Rattle.std.specs.Prelude.{if◌then◌else◌, Err}
use Rattle.dj_names.specs.declared.header.Header.{Header}
use Rattle.dj_values.specs.Values.{Action, Answer}
use Rattle.dj_values.specs.Deciding.{is_answer}
use Rattle.dj_values.specs.Outcomes.{More, Reply, Gives, Halts, Asks, then_on, State, Outcome, Is, Stops, bind, acted, answered, outside}
use Rattle.dj_outside.specs.declared.stop.Stop as code_stop
use Rattle.dj_outside.specs.declared.stop.Stop.TheVariants as stops
use Rattle.dj_outside.specs.Runs.{Ends}

pub bind-bind : {S A B C : Type 0} (first : Outcome S A) (next : A → State S → Outcome S B) (last : B → State S → Outcome S C) → bind (bind first next) last ≡ bind first (λ result state. bind (next result state) last)
bind-bind (Is result state) next last = refl
bind-bind (Stops stop state) next last = refl

answered-then : {S A B : Type 0} (headers : List Header) (action : Action) (after : Answer → State S → Outcome S A) (both : Answer → State S → Outcome S B) (next : A → State S → Outcome S B)
    → ((answer : Answer) (state : State S) → both answer state ≡ bind (after answer state) next) → (answers : List Answer) (state : State S) → answered headers action both answers state ≡ bind (answered headers action after answers state) next
answered-then headers action after both next same [] state = refl
answered-then {S = S} headers action after both next same (first ∷ rest) state = fits (is_answer headers action first)
  where
    behind : State S
    behind = record { store = state.store; world = record { answers = rest; actions = state.world.actions } }

    fits : (test : Bool) → (if test then both first behind else Stops More state) ≡ bind (if test then after first behind else Stops More state) next
    fits true = same first behind
    fits false = refl

pub outside-then : {S A B : Type 0} (headers : List Header) (reply : Reply A) (next : A → Reply B) (state : State S) → outside headers (then_on reply next) state ≡ bind (outside headers reply state) (λ result after. outside headers (next result) after)
outside-then headers (Gives result) next state = refl
outside-then headers (Halts stop) next state = refl
outside-then headers (Asks action after) next state =
    answered-then headers action (λ answer. outside headers (after answer)) (λ answer. outside headers (then_on (after answer) next)) (λ result behind. outside headers (next result) behind)
    (λ answer behind. outside-then headers (after answer) next behind) state.world.answers (acted action state)

-- what stops stops what comes behind it
pub stops_bind : {S A B C D : Type 0} (view : A → B) (other : C → D) (stop : code_stop.Stop) (state : State S) (outcome : Outcome S B) (next : B → State S → Outcome S D)
    → Ends view (Err stop) state outcome → Ends other (Err stop) state (bind outcome next)
stops_bind view other (stops.Memory error) state outcome next is = tt
stops_bind view other (stops.Throws reference) state outcome next is = ap (λ run. bind run next) is
stops_bind view other stops.More state outcome next is = ap (λ run. bind run next) is
stops_bind view other stops.Stuck state outcome next is = ap (λ run. bind run next) is

-- a stop, whatever it is a stop of
pub stops_as : {S A B C : Type 0} (view : A → B) (other : C → B) (stop : code_stop.Stop) (state : State S) (outcome : Outcome S B) → Ends view (Err stop) state outcome → Ends other (Err stop) state outcome
stops_as view other stop state outcome is = is
