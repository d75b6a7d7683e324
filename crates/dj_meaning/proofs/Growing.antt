-- A run that is below another and goes on as it does: what each way of putting meanings together keeps of this.
use Rattle.std.proofs.Common.{ℕ, zero, suc, ◌≤◌, Bool, true, false, List, Option, Some, None, sym, ap, subst, arith}
use Rattle.dj_names.specs.declared.header.Header.{Header}
use Rattle.dj_names.specs.Types.{JType}
use Rattle.dj_syntax.specs.declared.variable.Var.{Var}
use Rattle.dj_values.specs.Values.{RefValue, Value, Action}
use Rattle.dj_values.specs.Outcomes.{Stop, Throws, More, Stuck, Reply, State, Outcome, Is, Stops, outside, IsFront, actions_of, Below}
use Rattle.dj_values.proofs.Growth.{front-refl, front-join, Rises, rises-is, rises-stops, rises-outside, rises-bind, below-refl, below-bind}
use Rattle.dj_meaning.specs.StaticTypes.{Scope}
use Rattle.dj_meaning.specs.Runs.{Store, Meaning, pure, stop, ◌>>=◌, looked_up, look, with_value, with_store, put, map_state, local}
use Rattle.dj_meaning.specs.Expressions.{either}
use Rattle.dj_meaning.specs.Completions.{Completion, Normal, Break, Continue, Return, Misfit, sequence, is_own, next_turn, turns, do_turns, handled, finished}

-- the first is below the second, which only adds to the actions
pub record Grows {A : Type 0} (first second : Meaning A) : Type 0 where
  pub rises : Rises second
  pub below : (state : State Store) → Below (first state) (second state)

pub grows-same : {A : Type 0} {part : Meaning A} → Rises part → Grows part part
grows-same {part = part} h = record { rises = h; below = λ state. below-refl (part state) }

pub grows-pure : {A : Type 0} (result : A) → Grows (pure result) (pure result)
grows-pure result = grows-same (rises-is result)

pub grows-stop : {A : Type 0} (why : Stop) → Grows (stop {A = A} why) (stop why)
grows-stop why = grows-same (rises-stops why)

pub grows-more : {A : Type 0} {part other : Meaning A} → Grows part other → Grows (stop More) other
grows-more h = record { rises = h.rises; below = h.rises.rises }

pub grows-outside : {A : Type 0} (headers : List Header) (reply : Reply A) → Grows (outside {S = Store} headers reply) (outside headers reply)
grows-outside headers reply = grows-same (rises-outside headers reply)

pub grows-bind : {A B : Type 0} {first second : Meaning A} {next later : A → Meaning B} → Grows first second → ((result : A) → Grows (next result) (later result)) → Grows (first >>= next) (second >>= later)
grows-bind {first = first} {second = second} {next = next} {later = later} h k = record {
  rises = rises-bind second later h.rises (λ result. (k result).rises);
  below = λ state. below-bind (first state) (second state) next later (h.below state) (λ result. (k result).below) (λ result. (k result).rises);
}

pub grows-either : {A : Type 0} {one other more most : Meaning A} (answer : Bool) → Grows one more → Grows other most → Grows (either answer one other) (either answer more most)
grows-either true h k = h
grows-either false h k = k

-- ---- variables

rises-looked_up : (type : Option JType) (found : Option Value) → Rises (looked_up type found)
rises-looked_up None found = rises-stops Stuck
rises-looked_up (Some type) None = rises-stops Stuck
rises-looked_up (Some type) (Some value) = rises-is value

pub grows-look : (scope : Scope) (variable : Var) → Grows (look scope variable) (look scope variable)
grows-look scope variable = grows-same (record { rises = λ state. (rises-looked_up (scope variable) (state.store.variables variable)).rises state })

pub grows-put : (variable : Var) (value : Option Value) → Grows (put variable value) (put variable value)
grows-put variable value = grows-same (record { rises = λ state. front-refl state.world.actions })

front-mapped : {A : Type 0} (start : List Action) (change : Store → Store) (run : Outcome Store A) → IsFront start (actions_of run) → IsFront start (actions_of (map_state (with_store change) run))
front-mapped start change (Is result state) front = front
front-mapped start change (Stops why state) front = front

below-mapped : {A : Type 0} (change : Store → Store) (first second : Outcome Store A) → Below first second → Below (map_state (with_store change) first) (map_state (with_store change) second)
below-mapped change (Is result state) second e = ap (map_state (with_store change)) e
below-mapped change (Stops (Throws reference) state) second e = ap (map_state (with_store change)) e
below-mapped change (Stops More state) second front = front-mapped state.world.actions change second front
below-mapped change (Stops Stuck state) second e = ap (map_state (with_store change)) e

pub grows-local : {A : Type 0} {first second : Meaning A} (variable : Var) → Grows first second → Grows (local variable first) (local variable second)
grows-local {first = first} {second = second} variable h = record {
  rises = record { rises = λ state. front-mapped state.world.actions (with_value variable (state.store.variables variable)) (second state) (h.rises.rises state) };
  below = λ state. below-mapped (with_value variable (state.store.variables variable)) (first state) (second state) (h.below state);
}

-- ---- completions

pub grows-sequence : {next later : Meaning Completion} → Grows next later → (completion : Completion) → Grows (sequence next completion) (sequence later completion)
grows-sequence h Normal = h
grows-sequence h (Break label) = grows-pure (Break label)
grows-sequence h (Continue label) = grows-pure (Continue label)
grows-sequence h (Return result) = grows-pure (Return result)
grows-sequence h Misfit = grows-pure Misfit

grows-next_turn : {again later : Meaning Completion} (own : Option ℕ) → Grows again later → (completion : Completion) → Grows (next_turn own again completion) (next_turn own later completion)
grows-next_turn own h Normal = h
grows-next_turn own h (Break label) = grows-pure (Break label)
grows-next_turn own h (Continue label) = grows-either (is_own own label) h (grows-pure (Continue label))
grows-next_turn own h (Return result) = grows-pure (Return result)
grows-next_turn own h Misfit = grows-pure Misfit

-- ---- loops

module _ {test : Meaning Bool} {step : Meaning (Unit {0})} {body later : Meaning Completion} (own : Option ℕ) (tests : Grows test test) (steps : Grows step step) (bodies : Grows body later) where
  again-turns : (bound : ℕ) → Grows (turns bound own test step later) (turns bound own test step later)
  again-turns zero = grows-bind tests (λ answer. grows-either answer (grows-stop More) (grows-pure Normal))
  again-turns (suc bound) =
      grows-bind tests (λ answer. grows-either answer (grows-bind (grows-same bodies.rises) (grows-next_turn own (grows-bind steps (λ done. again-turns bound)))) (grows-pure Normal))

  pub grows-turns : (bound longer : ℕ) → bound ≤ longer → Grows (turns bound own test step body) (turns longer own test step later)
  grows-turns zero zero less = grows-bind tests (λ answer. grows-either answer (grows-stop More) (grows-pure Normal))
  grows-turns zero (suc longer) less =
      grows-bind tests (λ answer. grows-either answer (grows-more (grows-bind (grows-same bodies.rises) (grows-next_turn own (grows-bind steps (λ done. again-turns longer))))) (grows-pure Normal))
  grows-turns (suc bound) zero less = absurd (omega arith)
  grows-turns (suc bound) (suc longer) less =
      grows-bind tests (λ answer. grows-either answer (grows-bind bodies (grows-next_turn own (grows-bind steps (λ done. grows-turns bound longer (omega arith))))) (grows-pure Normal))

  again-do_turns : (bound : ℕ) → Grows (do_turns bound own test later) (do_turns bound own test later)
  again-do_turns zero = grows-stop More
  again-do_turns (suc bound) =
      grows-bind (grows-same bodies.rises) (grows-next_turn own (grows-bind tests (λ answer. grows-either answer (again-do_turns bound) (grows-pure Normal))))

  pub grows-do_turns : (bound longer : ℕ) → bound ≤ longer → Grows (do_turns bound own test body) (do_turns longer own test later)
  grows-do_turns zero longer less = grows-more (again-do_turns longer)
  grows-do_turns (suc bound) zero less = absurd (omega arith)
  grows-do_turns (suc bound) (suc longer) less =
      grows-bind bodies (grows-next_turn own (grows-bind tests (λ answer. grows-either answer (grows-do_turns bound longer (omega arith)) (grows-pure Normal))))

-- ---- exceptions

module _ {handler later : RefValue → Meaning Completion} (handlers : (reference : RefValue) → Grows (handler reference) (later reference)) where
  front-handled : (start : List Action) (run : Outcome Store Completion) → IsFront start (actions_of run) → IsFront start (actions_of (handled later run))
  front-handled start (Is completion state) front = front
  front-handled start (Stops (Throws reference) state) front = front-join start state.world.actions (actions_of (later reference state)) front ((handlers reference).rises.rises state)
  front-handled start (Stops More state) front = front
  front-handled start (Stops Stuck state) front = front

  below-handled : (first second : Outcome Store Completion) → Below first second → Below (handled handler first) (handled later second)
  below-handled (Is completion state) second e = ap (handled later) e
  below-handled (Stops (Throws reference) state) second e = subst (λ run. Below (handler reference state) (handled later run)) (sym e) ((handlers reference).below state)
  below-handled (Stops More state) second front = front-handled state.world.actions second front
  below-handled (Stops Stuck state) second e = ap (handled later) e

  pub grows-handled : {body longer : Meaning Completion} → Grows body longer → Grows (λ state. handled handler (body state)) (λ state. handled later (longer state))
  grows-handled {body = body} {longer = longer} h = record {
    rises = record { rises = λ state. front-handled state.world.actions (longer state) (h.rises.rises state) };
    below = λ state. below-handled (body state) (longer state) (h.below state);
  }

module _ {last later : Meaning Completion} (lasts : Grows last later) where
  front-finished : (start : List Action) (run : Outcome Store Completion) → IsFront start (actions_of run) → IsFront start (actions_of (finished later run))
  front-finished start (Is completion state) front =
      front-join start state.world.actions _ front ((grows-bind lasts (grows-sequence (grows-pure completion))).rises.rises state)
  front-finished start (Stops (Throws reference) state) front =
      front-join start state.world.actions _ front ((grows-bind lasts (grows-sequence (grows-stop (Throws reference)))).rises.rises state)
  front-finished start (Stops More state) front = front
  front-finished start (Stops Stuck state) front = front

  below-finished : (first second : Outcome Store Completion) → Below first second → Below (finished last first) (finished later second)
  below-finished (Is completion state) second e =
      subst (λ run. Below (finished last (Is completion state)) (finished later run)) (sym e) ((grows-bind lasts (grows-sequence (grows-pure completion))).below state)
  below-finished (Stops (Throws reference) state) second e =
      subst (λ run. Below (finished last (Stops (Throws reference) state)) (finished later run)) (sym e) ((grows-bind lasts (grows-sequence (grows-stop (Throws reference)))).below state)
  below-finished (Stops More state) second front = front-finished state.world.actions second front
  below-finished (Stops Stuck state) second e = ap (finished later) e

  pub grows-finished : {body longer : Meaning Completion} → Grows body longer → Grows (λ state. finished last (body state)) (λ state. finished later (longer state))
  grows-finished {body = body} {longer = longer} h = record {
    rises = record { rises = λ state. front-finished state.world.actions (longer state) (h.rises.rises state) };
    below = λ state. below-finished (body state) (longer state) (h.below state);
  }
