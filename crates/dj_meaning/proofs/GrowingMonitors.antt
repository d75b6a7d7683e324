-- What a part that holds a monitor keeps of a run that is below another.
use Rattle.std.proofs.Common.{List, [], ◌∷◌, sym, ap, subst}
use Rattle.dj_names.specs.declared.header.Header.{Header}
use Rattle.dj_values.specs.Values.{RefValue, Action, Enter, Exit}
use Rattle.dj_values.specs.Outcomes.{Throws, More, Stuck, ask, State, Outcome, Is, Stops, outside, IsFront, actions_of, Below}
use Rattle.dj_values.proofs.Growth.{front-refl, front-join, rises-outside, rises-bind}
use Rattle.dj_meaning.specs.Runs.{Store, Meaning, with_store}
use Rattle.dj_meaning.specs.Completions.{Completion, with_held, left_by, exited, released, entered_on, holding}
use Rattle.dj_meaning.proofs.Growing.{Grows, grows-pure, grows-stop, grows-bind, grows-same}

-- ---- leaving

front-left : (headers : List Header) (next : Meaning Completion) → Grows next next → (held : List RefValue) (state : State Store) → IsFront state.world.actions (actions_of (left_by headers next held state))
front-left headers next h [] state = h.rises.rises state
front-left headers next h (monitor ∷ rest) state =
    (rises-bind {S = Store} (λ state. outside headers (ask (Exit monitor)) (with_store (with_held rest) state)) (λ done. next)
    (record { rises = λ state. (rises-outside headers (ask (Exit monitor))).rises (with_store (with_held rest) state) }) (λ done. h.rises)).rises state

grows-exited : (headers : List Header) {next : Meaning Completion} → Grows next next → Grows (exited headers next) (exited headers next)
grows-exited headers {next = next} h = grows-same (record { rises = λ state. front-left headers next h state.store.held state })

front-released : (headers : List Header) (start : List Action) (run : Outcome Store Completion) → IsFront start (actions_of run) → IsFront start (actions_of (released headers run))
front-released headers start (Is completion state) front = front-join start state.world.actions _ front ((grows-exited headers (grows-pure completion)).rises.rises state)
front-released headers start (Stops (Throws reference) state) front = front-join start state.world.actions _ front ((grows-exited headers (grows-stop (Throws reference))).rises.rises state)
front-released headers start (Stops More state) front = front
front-released headers start (Stops Stuck state) front = front

below-released : (headers : List Header) (first second : Outcome Store Completion) → Below first second → Below (released headers first) (released headers second)
below-released headers (Is completion state) second e =
    subst (λ run. Below (released headers (Is completion state)) (released headers run)) (sym e) ((grows-exited headers (grows-pure completion)).below state)
below-released headers (Stops (Throws reference) state) second e =
    subst (λ run. Below (released headers (Stops (Throws reference) state)) (released headers run)) (sym e) ((grows-exited headers (grows-stop (Throws reference))).below state)
below-released headers (Stops More state) second front = front-released headers state.world.actions second front
below-released headers (Stops Stuck state) second e = ap (released headers) e

grows-released : (headers : List Header) {body longer : Meaning Completion} → Grows body longer → Grows (λ state. released headers (body state)) (λ state. released headers (longer state))
grows-released headers {body = body} {longer = longer} h = record {
  rises = record { rises = λ state. front-released headers state.world.actions (longer state) (h.rises.rises state) };
  below = λ state. below-released headers (body state) (longer state) (h.below state);
}

-- ---- holding

grows-entered_on : (headers : List Header) (monitor : RefValue) → Grows (entered_on headers monitor) (entered_on headers monitor)
grows-entered_on headers monitor =
    grows-bind (grows-same (rises-outside headers (ask (Enter monitor)))) (λ done. grows-same (record { rises = λ state. front-refl state.world.actions }))

pub grows-holding : (headers : List Header) (monitor : RefValue) {body longer : Meaning Completion} → Grows body longer → Grows (holding headers monitor body) (holding headers monitor longer)
grows-holding headers monitor h = grows-bind (grows-entered_on headers monitor) (λ done. grows-released headers h)
