-- What a run asks and is told, and what it comes to: the outcomes that bytecode and source share (JVMS 2.10, 2.11; JLS 11.1, 14.1, 15.6).
use Rattle.std.specs.Prelude.{◌≡◌, ℕ, if◌then◌else◌, List, [], ◌∷◌, ◌++◌, Option, Some, None}
use Rattle.dj_names.specs.declared.header.Header.{Header}
use Rattle.dj_values.specs.Values.{RefValue, Value, Action, Trap, Answer, Given, Done, Thrown, End, Return, Throw, Show}
use Rattle.dj_values.specs.Values as values
use Rattle.dj_values.specs.Deciding.{is_answer}

-- ---- what is asked of the outside

-- why a run stops without a result: by an exception, at its bound or for want of an answer, or where the rules rule it out
pub data Stop : Type 0 where
  Throws : RefValue → Stop
  More : Stop
  Stuck : Stop

-- what an operation asks of the outside, as a tree: a result, a stop, or an action and what comes of each answer
pub data Reply (A : Type 0) : Type 0 where
  Gives : A → Reply A
  Halts : Stop → Reply A
  Asks : Action → (Answer → Reply A) → Reply A

-- an answer as a result: a value, none, or an exception
abbrev pub told : Answer → Reply (Option Value)
told (Given value) = Gives (Some value)
told Done = Gives None
told (Thrown reference) = Halts (Throws reference)

-- an action, and what the outside tells of it
abbrev pub ask : Action → Reply (Option Value)
ask action = Asks action told

-- one reply after another
abbrev pub then_on : {A B : Type 0} → Reply A → (A → Reply B) → Reply B
then_on (Gives result) next = next result
then_on (Halts stop) next = Halts stop
then_on (Asks action after) next = Asks action (λ answer. then_on (after answer) next)

-- what has to be there
abbrev pub there : {A : Type 0} → Option A → Reply A
there None = Halts Stuck
there (Some result) = Gives result

-- an action that is answered by a value
abbrev pub ask_value : Action → Reply Value
ask_value action = then_on (ask action) there

-- an exception of this class that the machine throws by itself (JVMS 2.10): the answer to it is the exception
abbrev pub trap : {A : Type 0} → List ℕ → Reply A
trap class = then_on (ask (Trap class)) (λ other. Halts Stuck)

-- ---- a run

-- the answers left, and the actions so far, the oldest first
pub record World : Type 0 where
  pub answers : List Answer
  pub actions : List Action

-- what a run has: a store of its own, the machine's locals or the source's variables, and the world
pub record State (S : Type 0) : Type 0 where
  pub store : S
  pub world : World

-- what a run comes to; one that stops keeps its state
pub data Outcome (S A : Type 0) : Type 0 where
  Is : A → State S → Outcome S A
  Stops : Stop → State S → Outcome S A

-- one thing after another
abbrev pub bind : {S A B : Type 0} → Outcome S A → (A → State S → Outcome S B) → Outcome S B
bind (Is result state) next = next result state
bind (Stops stop state) next = Stops stop state

-- a state with one action more
abbrev pub acted : {S : Type 0} → Action → State S → State S
acted action state = record { store = state.store; world = record { answers = state.world.answers; actions = state.world.actions ++ action ∷ [] } }

-- the next answer, where it is one that the action can have
abbrev pub answered : {S A : Type 0} → List Header → Action → (Answer → State S → Outcome S A) → List Answer → State S → Outcome S A
answered headers action next [] state = Stops More state
answered headers action next (first ∷ rest) state =
    if is_answer headers action first then next first (record { store = state.store; world = record { answers = rest; actions = state.world.actions } })
    else Stops More state

-- a reply, run against the answers that are left: an action whose answer is missing or can't be is shown, and ends the run
abbrev pub outside : {S A : Type 0} → List Header → Reply A → State S → Outcome S A
outside headers (Gives result) state = Is result state
outside headers (Halts stop) state = Stops stop state
outside headers (Asks action next) state = answered headers action (λ answer. outside headers (next answer)) state.world.answers (acted action state)

-- no action yet
abbrev pub opening : List Answer → World
opening answers = record { answers = answers; actions = [] }

-- what is shown of the run of a method; one that is stuck counts as one that goes on
abbrev pub shown : {S : Type 0} → Outcome S (Option Value) → Show
shown (Is result state) = record { actions = state.world.actions; end = Return result }
shown (Stops (Throws reference) state) = record { actions = state.world.actions; end = Throw reference }
shown (Stops More state) = record { actions = state.world.actions; end = values.More }
shown (Stops Stuck state) = record { actions = state.world.actions; end = values.More }

-- ---- runs at greater bounds

-- the second list goes on from the first
abbrev pub IsFront : List Action → List Action → Type 0
IsFront first second = (rest : List Action) × (second ≡ first ++ rest)

-- the actions of a run, however it ended
abbrev pub actions_of : {S A : Type 0} → Outcome S A → List Action
actions_of (Is result state) = state.world.actions
actions_of (Stops stop state) = state.world.actions

-- a run that was cut is below each that goes on from its actions; any other is below itself alone
abbrev pub Below : {S A : Type 0} → Outcome S A → Outcome S A → Type 0
Below (Is result state) other = other ≡ Is result state
Below (Stops (Throws reference) state) other = other ≡ Stops (Throws reference) state
Below (Stops More state) other = IsFront state.world.actions (actions_of other)
Below (Stops Stuck state) other = other ≡ Stops Stuck state
