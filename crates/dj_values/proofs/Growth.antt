-- Runs only add actions, and a run that was cut is below each that goes on from it.
use Rattle.std.proofs.Common.{◌≡◌, Bool, true, false, List, [], ◌∷◌, ◌++◌, Option, refl, sym, ap, ◌∙◌, subst, inl, inr}
use Rattle.std.proofs.lemmas.List.{append-nil, append_assoc}
use Rattle.std.specs.Prelude.{if◌then◌else◌}
use Rattle.dj_names.specs.declared.header.Header.{Header}
use Rattle.dj_values.specs.Values.{Value, Action, Answer, IsBelow}
use Rattle.dj_values.specs.Deciding.{is_answer}
use Rattle.dj_values.specs.Outcomes.{Stop, Throws, More, Stuck, Reply, Gives, Halts, Asks, State, Outcome, Is, Stops, bind, acted, answered, outside, shown, IsFront, actions_of, Below}

-- ---- actions

pub front-refl : (first : List Action) → IsFront first first
front-refl first = ([], sym (append-nil first))

pub front-join : (first second third : List Action) → IsFront first second → IsFront second third → IsFront first third
front-join first second third p q = (p.0 ++ q.0, q.1 ∙ ap (λ list. list ++ q.0) p.1 ∙ append_assoc first p.0 q.0)

-- ---- runs only add actions

pub record Rises {S A : Type 0} (run : State S → Outcome S A) : Type 0 where
  pub rises : (state : State S) → IsFront state.world.actions (actions_of (run state))

pub rises-is : {S A : Type 0} (result : A) → Rises {S = S} (λ state. Is result state)
rises-is result = record { rises = λ state. front-refl state.world.actions }

pub rises-stops : {S A : Type 0} (stop : Stop) → Rises {S = S} {A = A} (λ state. Stops stop state)
rises-stops stop = record { rises = λ state. front-refl state.world.actions }

pub rises-if : {S A : Type 0} (test : Bool) (first second : State S → Outcome S A) → Rises first → Rises second → Rises (λ state. if test then first state else second state)
rises-if true first second h k = h
rises-if false first second h k = k

rises-answered : {S A : Type 0} (headers : List Header) (action : Action) (next : Answer → State S → Outcome S A) → ((answer : Answer) → Rises (next answer)) → (answers : List Answer) → Rises (answered headers action next answers)
rises-answered headers action next h [] = record { rises = λ state. front-refl state.world.actions }
rises-answered {S = S} {A = A} headers action next h (answer ∷ rest) = record { rises = λ state. fitted state (is_answer headers action answer) }
  where
    after : State S → State S
    after state = record { store = state.store; world = record { answers = rest; actions = state.world.actions } }

    fitted : (state : State S) (test : Bool) → IsFront state.world.actions (actions_of {S = S} {A = A} (if test then next answer (after state) else Stops More state))
    fitted state true = (h answer).rises (after state)
    fitted state false = front-refl state.world.actions

pub rises-outside : {S A : Type 0} (headers : List Header) (reply : Reply A) → Rises {S = S} (outside headers reply)
rises-outside headers (Gives result) = record { rises = λ state. front-refl state.world.actions }
rises-outside headers (Halts stop) = record { rises = λ state. front-refl state.world.actions }
rises-outside headers (Asks action next) = record {
  rises = λ state.
      front-join state.world.actions (state.world.actions ++ action ∷ []) _ (action ∷ [], refl)
      ((rises-answered headers action (λ answer. outside headers (next answer)) (λ answer. rises-outside headers (next answer)) state.world.answers).rises (acted action state));
}

rises-on : {S A B : Type 0} (start : List Action) (first : Outcome S A) (next : A → State S → Outcome S B) → IsFront start (actions_of first) → ((result : A) → Rises (next result)) → IsFront start (actions_of (bind first next))
rises-on start (Is result state) next front h = front-join start state.world.actions _ front ((h result).rises state)
rises-on start (Stops stop state) next front h = front

pub rises-bind : {S A B : Type 0} (run : State S → Outcome S A) (next : A → State S → Outcome S B) → Rises run → ((result : A) → Rises (next result)) → Rises (λ state. bind (run state) next)
rises-bind run next h k = record { rises = λ state. rises-on state.world.actions (run state) next (h.rises state) k }

-- ---- below

pub below-refl : {S A : Type 0} (run : Outcome S A) → Below run run
below-refl (Is result state) = refl
below-refl (Stops (Throws reference) state) = refl
below-refl (Stops More state) = front-refl state.world.actions
below-refl (Stops Stuck state) = refl

-- what comes after two runs, of which the second may have come further and then only adds actions
pub below-bind : {S A B : Type 0} (first second : Outcome S A) (next later : A → State S → Outcome S B) → Below first second → ((result : A) (state : State S) → Below (next result state) (later result state)) → ((result : A) → Rises (later result))
    → Below (bind first next) (bind second later)
below-bind (Is result state) second next later e f r = subst (λ run. Below (next result state) (bind run later)) (sym e) (f result state)
below-bind (Stops (Throws reference) state) second next later e f r = ap (λ run. bind run later) e
below-bind (Stops More state) second next later e f r = rises-on state.world.actions second later e r
below-bind (Stops Stuck state) second next later e f r = ap (λ run. bind run later) e

actions-shown : {S : Type 0} (run : Outcome S (Option Value)) → (shown run).actions ≡ actions_of run
actions-shown (Is result state) = refl
actions-shown (Stops (Throws reference) state) = refl
actions-shown (Stops More state) = refl
actions-shown (Stops Stuck state) = refl

pub shown-below : {S : Type 0} (first second : Outcome S (Option Value)) → Below first second → IsBelow (shown first) (shown second)
shown-below (Is result state) second e = inl (sym (ap shown e))
shown-below (Stops (Throws reference) state) second e = inl (sym (ap shown e))
shown-below (Stops More state) second front = inr (refl, (front.0, actions-shown second ∙ front.1))
shown-below (Stops Stuck state) second e = inl (sym (ap shown e))
