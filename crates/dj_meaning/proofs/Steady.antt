-- A tree gives back the monitors that it holds: what each part keeps of this.
use Rattle.std.proofs.Common.{ℕ, Bool, true, false, List, [], ◌∷◌, Option, Some, None, refl, sym, subst}
use Rattle.std.specs.Prelude.{if◌then◌else◌}
use Rattle.dj_names.specs.declared.header.Header.{Header}
use Rattle.dj_names.specs.Types.{JType}
use Rattle.dj_syntax.specs.declared.variable.Var.{Var}
use Rattle.dj_syntax.specs.Trees.{Stm, Stms}
use Rattle.dj_values.specs.Values.{RefValue, Value, Action, Answer, Enter, Exit}
use Rattle.dj_values.specs.Deciding.{is_answer}
use Rattle.dj_values.specs.Outcomes.{Stop, Throws, More, Stuck, Reply, Gives, Halts, Asks, ask, State, Outcome, Is, Stops, bind, acted, answered, outside}
use Rattle.dj_meaning.specs.StaticTypes.{Context, Scope}
use Rattle.dj_meaning.specs.Runs.{Store, Meaning, pure, stop, ◌>>=◌, looked_up, look, with_value, with_store, put, map_state, local}
use Rattle.dj_meaning.specs.Completions.{Completion, sequence, Normal, Break, Continue, Return, Misfit, handled, finished, with_held, left_by, released, held_besides, holding}
use Rattle.dj_meaning.specs.Monitors.{HoldsStill}
use Rattle.dj_meaning.specs.Statements.{Place}
use Rattle.dj_meaning.specs.Meaning.{run, run_all, run_statements}
use Rattle.dj_meaning.proofs.EachVariable.{each-stm, each-stms}
use Rattle.dj_meaning.proofs.KeptExpressions.{IsKept}
use Rattle.dj_meaning.proofs.KeptStatements.{kept-run, kept-all, kept-statements}
use Rattle.dj_meaning.proofs.KeptLoops.{IsStepped, kept-turns, kept-do_turns}

-- a part that ends with the monitors held with which it began
pub record Steady {A : Type 0} (part : Meaning A) : Type 0 where
  pub steady : (state : State Store) → HoldsStill state.store.held (part state)

steady-pure : {A : Type 0} (result : A) → Steady (pure result)
steady-pure result = record { steady = λ state. refl }

steady-stop : {A : Type 0} (why : Stop) → Steady (stop {A = A} why)
steady-stop (Throws reference) = record { steady = λ state. refl }
steady-stop More = record { steady = λ state. tt }
steady-stop Stuck = record { steady = λ state. tt }

steady-answered : {A : Type 0} (headers : List Header) (action : Action) (next : Answer → Meaning A) → ((answer : Answer) → Steady (next answer)) → (answers : List Answer) → Steady (answered headers action next answers)
steady-answered headers action next h [] = record { steady = λ state. tt }
steady-answered {A = A} headers action next h (answer ∷ rest) = record { steady = λ state. fitted state (is_answer headers action answer) }
  where
    after : State Store → State Store
    after state = record { store = state.store; world = record { answers = rest; actions = state.world.actions } }

    fitted : (state : State Store) (test : Bool) → HoldsStill {A = A} state.store.held (if test then next answer (after state) else Stops More state)
    fitted state true = (h answer).steady (after state)
    fitted state false = tt

steady-outside : {A : Type 0} (headers : List Header) (reply : Reply A) → Steady (outside {S = Store} headers reply)
steady-outside headers (Gives result) = steady-pure result
steady-outside headers (Halts stop) = steady-stop stop
steady-outside headers (Asks action next) = record {
  steady = λ state. (steady-answered headers action (λ answer. outside headers (next answer)) (λ answer. steady-outside headers (next answer)) state.world.answers).steady (acted action state);
}

holds-on : {A B : Type 0} (held : List RefValue) (run : Outcome Store A) (next : A → Meaning B) → HoldsStill held run → ((result : A) → Steady (next result)) → HoldsStill held (bind run next)
holds-on held (Is result state) next e h = subst (λ these. HoldsStill these (next result state)) e ((h result).steady state)
holds-on held (Stops (Throws reference) state) next e h = e
holds-on held (Stops More state) next e h = tt
holds-on held (Stops Stuck state) next e h = tt

steady-bind : {A B : Type 0} {part : Meaning A} {next : A → Meaning B} → Steady part → ((result : A) → Steady (next result)) → Steady (part >>= next)
steady-bind {part = part} {next = next} h k = record { steady = λ state. holds-on state.store.held (part state) next (h.steady state) k }

-- ---- variables

steady-looked_up : (type : Option JType) (found : Option Value) → Steady (looked_up type found)
steady-looked_up None found = steady-stop Stuck
steady-looked_up (Some type) None = steady-stop Stuck
steady-looked_up (Some type) (Some value) = steady-pure value

steady-look : (scope : Scope) (variable : Var) → Steady (look scope variable)
steady-look scope variable = record { steady = λ state. (steady-looked_up (scope variable) (state.store.variables variable)).steady state }

steady-put : (variable : Var) (found : Option Value) → Steady (put variable found)
steady-put variable found = record { steady = λ state. refl }

holds-mapped : {A : Type 0} (held : List RefValue) (variable : Var) (found : Option Value) (run : Outcome Store A) → HoldsStill held run → HoldsStill held (map_state (with_store (with_value variable found)) run)
holds-mapped held variable found (Is result state) e = e
holds-mapped held variable found (Stops (Throws reference) state) e = e
holds-mapped held variable found (Stops More state) e = tt
holds-mapped held variable found (Stops Stuck state) e = tt

steady-local : (variable : Var) {part : Meaning Completion} → Steady part → Steady (local variable part)
steady-local variable {part = part} h = record { steady = λ state. holds-mapped state.store.held variable (state.store.variables variable) (part state) (h.steady state) }

-- ---- exceptions

holds-handled : (held : List RefValue) (handler : RefValue → Meaning Completion) (run : Outcome Store Completion) → HoldsStill held run → ((reference : RefValue) → Steady (handler reference)) → HoldsStill held (handled handler run)
holds-handled held handler (Is completion state) e h = e
holds-handled held handler (Stops (Throws reference) state) e h = subst (λ these. HoldsStill these (handler reference state)) e ((h reference).steady state)
holds-handled held handler (Stops More state) e h = tt
holds-handled held handler (Stops Stuck state) e h = tt

steady-sequence : {next : Meaning Completion} → Steady next → (completion : Completion) → Steady (sequence next completion)
steady-sequence h Normal = h
steady-sequence h (Break label) = steady-pure (Break label)
steady-sequence h (Continue label) = steady-pure (Continue label)
steady-sequence h (Return result) = steady-pure (Return result)
steady-sequence h Misfit = steady-pure Misfit

holds-finished : (held : List RefValue) (last : Meaning Completion) (run : Outcome Store Completion) → HoldsStill held run → Steady last → HoldsStill held (finished last run)
holds-finished held last (Is completion state) e h =
    subst (λ these. HoldsStill these (finished last (Is completion state))) e ((steady-bind h (steady-sequence (steady-pure completion))).steady state)
holds-finished held last (Stops (Throws reference) state) e h =
    subst (λ these. HoldsStill these (finished last (Stops (Throws reference) state))) e ((steady-bind h (steady-sequence (steady-stop (Throws reference)))).steady state)
holds-finished held last (Stops More state) e h = tt
holds-finished held last (Stops Stuck state) e h = tt

-- ---- monitors

-- leaving the innermost of the monitors held leaves the others
holds-left : (headers : List Header) (monitor : RefValue) (held : List RefValue) (next : Meaning Completion) (state : State Store) → Steady next → HoldsStill held (left_by headers next (monitor ∷ held) state)
holds-left headers monitor held next state h =
    (steady-bind (steady-outside headers (ask (Exit monitor))) (λ done. h)).steady (with_store (with_held held) state)

holds-released : (headers : List Header) (monitor : RefValue) (held : List RefValue) (run : Outcome Store Completion) → HoldsStill (monitor ∷ held) run → HoldsStill held (released headers run)
holds-released headers monitor held (Is completion state) e =
    subst (λ these. HoldsStill held (left_by headers (pure completion) these state)) (sym e) (holds-left headers monitor held (pure completion) state (steady-pure completion))
holds-released headers monitor held (Stops (Throws reference) state) e =
    subst (λ these. HoldsStill held (left_by headers (stop (Throws reference)) these state)) (sym e) (holds-left headers monitor held (stop (Throws reference)) state (steady-stop (Throws reference)))
holds-released headers monitor held (Stops More state) e = tt
holds-released headers monitor held (Stops Stuck state) e = tt

-- behind the entrance the monitor is held besides
holds-held : (headers : List Header) (monitor : RefValue) (body : Meaning Completion) (held : List RefValue) (run : Outcome Store (Option Value)) → HoldsStill held run → Steady body
    → HoldsStill held (bind (bind run (λ done. held_besides monitor)) (λ done state. released headers (body state)))
holds-held headers monitor body held (Is result state) e h =
    let inner = with_store (with_held (monitor ∷ state.store.held)) state in
    subst (λ these. HoldsStill these (released headers (body inner))) e (holds-released headers monitor state.store.held (body inner) (h.steady inner))
holds-held headers monitor body held (Stops (Throws reference) state) e h = e
holds-held headers monitor body held (Stops More state) e h = tt
holds-held headers monitor body held (Stops Stuck state) e h = tt

steady-holding : (headers : List Header) (monitor : RefValue) {body : Meaning Completion} → Steady body → Steady (holding headers monitor body)
steady-holding headers monitor {body = body} h = record {
  steady = λ state. holds-held headers monitor body state.store.held (outside headers (ask (Enter monitor)) state) ((steady-outside headers (ask (Enter monitor))).steady state) h;
}

-- ---- trees

steady-stepped : IsStepped (λ A first second. Steady {A = A} second)
steady-stepped = record { pures = steady-pure; stops = steady-stop; binds = steady-bind }

steady-kept : (bound : ℕ) → IsKept (λ A first second. Steady {A = A} second) (λ variable. Unit {0}) bound bound
steady-kept bound = record {
  pures = steady-pure;
  stops = steady-stop;
  asks = steady-outside;
  binds = steady-bind;
  looks = λ scope variable n. steady-look scope variable;
  puts = λ variable found n. steady-put variable found;
  locals = λ variable n h. steady-local variable h;
  loops = λ own {test} {step} {body} {later} tests steps bodies. kept-turns steady-stepped bound own {body = later} tests steps bodies;
  do_loops = λ own {test} {body} {later} tests bodies. kept-do_turns steady-stepped bound own {body = later} tests bodies;
  handles = λ {handler} {another} {body} {later} h k. record { steady = λ state. holds-handled state.store.held another (later state) (k.steady state) h };
  finishes = λ {last} {another} {body} {later} h k. record { steady = λ state. holds-finished state.store.held another (later state) (k.steady state) h };
  holds = λ headers monitor h. steady-holding headers monitor h;
}

-- statements that complete, or are left by an exception, give back the monitors that they have entered
pub steady-all : (context : Context) (scope : Scope) (bound : ℕ) (list : Stms) → Steady (run_all context scope bound list)
steady-all context scope bound list = kept-all (steady-kept bound) context scope list (each-stms (λ variable. tt) list)

pub steady-statements : (context : Context) (scope : Scope) (bound : ℕ) (list : Stms) → Steady (run_statements context scope bound list)
steady-statements context scope bound list = kept-statements (steady-kept bound) context scope list (each-stms (λ variable. tt) list)
