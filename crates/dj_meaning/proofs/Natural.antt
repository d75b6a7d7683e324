-- A run neither reads nor changes a variable that its tree doesn't name: what each part keeps of this.
use Rattle.std.proofs.Common.{ℕ, ◌≡◌, ◌==◌, Bool, true, false, List, [], ◌∷◌, Option, Some, None, refl, sym, ap, ◌∙◌}
use Rattle.std.specs.Prelude.{◌&&◌, if◌then◌else◌}
use borrow.Author.Tests.{eqb-true, eq-eqb, both_ways}
use Rattle.dj_names.specs.declared.header.Header.{Header}
use Rattle.dj_names.specs.Types.{JType}
use Rattle.dj_syntax.specs.declared.variable.Var.{Var}
use Rattle.dj_syntax.specs.NameText.{letter}
use Rattle.dj_syntax.specs.Trees.{Stm, Stms}
use Rattle.dj_values.specs.Values.{RefValue, Value, Action, Answer, Enter, Exit}
use Rattle.dj_values.specs.Deciding.{is_answer}
use Rattle.dj_values.specs.Outcomes.{Stop, Throws, More, Stuck, Reply, Gives, Halts, Asks, ask, State, Outcome, Is, Stops, bind, acted, answered, outside}
use Rattle.dj_meaning.specs.StaticTypes.{Context, Scope, is_same_variable}
use Rattle.dj_meaning.specs.Runs.{Store, Meaning, pure, stop, ◌>>=◌, looked_up, look, with_value, with_store, put, map_state, local}
use Rattle.dj_meaning.specs.Completions.{Completion, sequence, Normal, Break, Continue, Return, Misfit, handled, finished, with_held, left_by, released, holding}
use Rattle.dj_meaning.specs.Variables.{EachInStm, EachInStms}
use Rattle.dj_meaning.specs.Statements.{Place}
use Rattle.dj_meaning.specs.Meaning.{run, run_all, run_statements}
use Rattle.dj_meaning.proofs.KeptExpressions.{IsKept}
use Rattle.dj_meaning.proofs.KeptStatements.{kept-run, kept-all, kept-statements}
use Rattle.dj_meaning.proofs.KeptLoops.{IsStepped, kept-turns, kept-do_turns}

-- writes of two different variables, in either order
same_value : (first second : Bool) (one other kept : Option Value) → (first ≡ true → second ≡ true → ⊥) → (if first then one else (if second then other else kept)) ≡ (if second then other else (if first then one else kept))
same_value true true one other kept apart = absurd (apart refl refl)
same_value true false one other kept apart = refl
same_value false true one other kept apart = refl
same_value false false one other kept apart = refl

both_hold : (first second : Bool) → (first && second) ≡ true → (first ≡ true) × (second ≡ true)
both_hold true second e = (refl, e)
both_hold false second e = absurd (cc)

-- a variable that is spelled as two others shows that these are spelled alike
no_both : (one other another : Var) → is_same_variable one other ≡ false → is_same_variable another one ≡ true → is_same_variable another other ≡ true → ⊥
no_both one other another differ first second =
    let a = both_hold (letter another.kind == letter one.kind) (another.number == one.number) first in
    let b = both_hold (letter another.kind == letter other.kind) (another.number == other.number) second in
    let letters = sym (eqb-true (letter another.kind) (letter one.kind) a.0) ∙ eqb-true (letter another.kind) (letter other.kind) b.0 in
    let numbers = sym (eqb-true another.number one.number a.1) ∙ eqb-true another.number other.number b.1 in
    let same : is_same_variable one other ≡ true = ap (λ test. test && (one.number == other.number)) (eq-eqb (letter one.kind) (letter other.kind) letters) ∙ eq-eqb one.number other.number numbers in
    both_ways (is_same_variable one other) differ same

module _ (unnamed : Var) (found : Option Value) where
  -- a state in which the variable has this value, or none
  abbrev given : State Store → State Store
  given = with_store (with_value unnamed found)

  -- another variable
  abbrev pub IsOther : Var → Type 0
  IsOther variable = is_same_variable variable unnamed ≡ false

  -- a part does with another value of the variable what it does with its own
  pub record Natural {A : Type 0} (part : Meaning A) : Type 0 where
    pub natural : (state : State Store) → part (given state) ≡ map_state given (part state)

  natural-pure : {A : Type 0} (result : A) → Natural (pure result)
  natural-pure result = record { natural = λ state. refl }

  natural-stop : {A : Type 0} (why : Stop) → Natural (stop {A = A} why)
  natural-stop why = record { natural = λ state. refl }

  natural-answered : {A : Type 0} (headers : List Header) (action : Action) (next : Answer → Meaning A) → ((answer : Answer) → Natural (next answer)) → (answers : List Answer) → Natural (answered headers action next answers)
  natural-answered headers action next h [] = record { natural = λ state. refl }
  natural-answered {A = A} headers action next h (answer ∷ rest) = record { natural = λ state. fitted (is_answer headers action answer) state (h answer) }
    where
      after : State Store → State Store
      after state = record { store = state.store; world = record { answers = rest; actions = state.world.actions } }

      fitted : (test : Bool) (state : State Store) → Natural (next answer) → (if test then next answer (after (given state)) else Stops More (given state)) ≡ map_state given (if test then next answer (after state) else Stops More state)
      fitted true state n = n.natural (after state)
      fitted false state n = refl

  natural-outside : {A : Type 0} (headers : List Header) (reply : Reply A) → Natural (outside {S = Store} headers reply)
  natural-outside headers (Gives result) = natural-pure result
  natural-outside headers (Halts stop) = natural-stop stop
  natural-outside headers (Asks action next) = record {
    natural = λ state. (natural-answered headers action (λ answer. outside headers (next answer)) (λ answer. natural-outside headers (next answer)) state.world.answers).natural (acted action state);
  }

  natural-on : {A B : Type 0} (run : Outcome Store A) (next : A → Meaning B) → ((result : A) → Natural (next result)) → bind (map_state given run) next ≡ map_state given (bind run next)
  natural-on (Is result state) next h = (h result).natural state
  natural-on (Stops why state) next h = refl

  natural-bind : {A B : Type 0} {part : Meaning A} {next : A → Meaning B} → Natural part → ((result : A) → Natural (next result)) → Natural (part >>= next)
  natural-bind {part = part} {next = next} h k = record { natural = λ state. ap (λ run. bind run next) (h.natural state) ∙ natural-on (part state) next k }

  -- ---- variables

  natural-looked_up : (type : Option JType) (value : Option Value) → Natural (looked_up type value)
  natural-looked_up None value = natural-stop Stuck
  natural-looked_up (Some type) None = natural-stop Stuck
  natural-looked_up (Some type) (Some value) = natural-pure value

  natural-look : (scope : Scope) (variable : Var) → IsOther variable → Natural (look scope variable)
  natural-look scope variable other = record {
    natural = λ state.
        ap (λ same. looked_up (scope variable) (if same then found else state.store.variables variable) (given state)) other
        ∙ (natural-looked_up (scope variable) (state.store.variables variable)).natural state;
  }

  swapped : (variable : Var) (value : Option Value) (store : Store) → IsOther variable → with_value variable value (with_value unnamed found store) ≡ with_value unnamed found (with_value variable value store)
  swapped variable value store other = λ i. record {
    variables = λ another. same_value (is_same_variable another variable) (is_same_variable another unnamed) value found (store.variables another) (no_both variable unnamed another other) i;
    held = store.held;
  }

  natural-put : (variable : Var) (value : Option Value) → IsOther variable → Natural (put variable value)
  natural-put variable value other = record { natural = λ state. ap (λ store. Is tt (record { store = store; world = state.world })) (swapped variable value state.store other) }

  mapped : (variable : Var) (value : Option Value) (run : Outcome Store Completion) → IsOther variable → map_state (with_store (with_value variable value)) (map_state given run) ≡ map_state given (map_state (with_store (with_value variable value)) run)
  mapped variable value (Is result state) other = ap (λ store. Is result (record { store = store; world = state.world })) (swapped variable value state.store other)
  mapped variable value (Stops why state) other = ap (λ store. Stops why (record { store = store; world = state.world })) (swapped variable value state.store other)

  natural-local : (variable : Var) {part : Meaning Completion} → IsOther variable → Natural part → Natural (local variable part)
  natural-local variable {part = part} other h = record {
    natural = λ state.
        ap (λ same. map_state (with_store (with_value variable (if same then found else state.store.variables variable))) (part (given state))) other
        ∙ ap (map_state (with_store (with_value variable (state.store.variables variable)))) (h.natural state)
        ∙ mapped variable (state.store.variables variable) (part state) other;
  }

  -- ---- exceptions

  natural-sequence : {next : Meaning Completion} → Natural next → (completion : Completion) → Natural (sequence next completion)
  natural-sequence h Normal = h
  natural-sequence h (Break label) = natural-pure (Break label)
  natural-sequence h (Continue label) = natural-pure (Continue label)
  natural-sequence h (Return result) = natural-pure (Return result)
  natural-sequence h Misfit = natural-pure Misfit

  on_handled : (handler : RefValue → Meaning Completion) (run : Outcome Store Completion) → ((reference : RefValue) → Natural (handler reference)) → handled handler (map_state given run) ≡ map_state given (handled handler run)
  on_handled handler (Is completion state) h = refl
  on_handled handler (Stops (Throws reference) state) h = (h reference).natural state
  on_handled handler (Stops More state) h = refl
  on_handled handler (Stops Stuck state) h = refl

  on_finished : (last : Meaning Completion) (run : Outcome Store Completion) → Natural last → finished last (map_state given run) ≡ map_state given (finished last run)
  on_finished last (Is completion state) h = (natural-bind h (natural-sequence (natural-pure completion))).natural state
  on_finished last (Stops (Throws reference) state) h = (natural-bind h (natural-sequence (natural-stop (Throws reference)))).natural state
  on_finished last (Stops More state) h = refl
  on_finished last (Stops Stuck state) h = refl

  -- ---- monitors

  on_left : (headers : List Header) (next : Meaning Completion) (held : List RefValue) (state : State Store) → Natural next → left_by headers next held (given state) ≡ map_state given (left_by headers next held state)
  on_left headers next [] state h = h.natural state
  on_left headers next (monitor ∷ rest) state h = (natural-bind (natural-outside headers (ask (Exit monitor))) (λ done. h)).natural (with_store (with_held rest) state)

  on_released : (headers : List Header) (run : Outcome Store Completion) → released headers (map_state given run) ≡ map_state given (released headers run)
  on_released headers (Is completion state) = on_left headers (pure completion) state.store.held state (natural-pure completion)
  on_released headers (Stops (Throws reference) state) = on_left headers (stop (Throws reference)) state.store.held state (natural-stop (Throws reference))
  on_released headers (Stops More state) = refl
  on_released headers (Stops Stuck state) = refl

  natural-holding : (headers : List Header) (monitor : RefValue) {body : Meaning Completion} → Natural body → Natural (holding headers monitor body)
  natural-holding headers monitor {body = body} h =
      natural-bind (natural-bind (natural-outside headers (ask (Enter monitor))) (λ done. record { natural = λ state. refl }))
      (λ done. record { natural = λ state. ap (released headers) (h.natural state) ∙ on_released headers (body state) })

  -- ---- trees

  natural-stepped : IsStepped (λ A first second. Natural {A = A} second)
  natural-stepped = record { pures = natural-pure; stops = natural-stop; binds = natural-bind }

  natural-kept : (bound : ℕ) → IsKept (λ A first second. Natural {A = A} second) IsOther bound bound
  natural-kept bound = record {
    pures = natural-pure;
    stops = natural-stop;
    asks = natural-outside;
    binds = natural-bind;
    looks = natural-look;
    puts = natural-put;
    locals = λ variable n h. natural-local variable n h;
    loops = λ own {test} {step} {body} {later} tests steps bodies. kept-turns natural-stepped bound own {body = later} tests steps bodies;
    do_loops = λ own {test} {body} {later} tests bodies. kept-do_turns natural-stepped bound own {body = later} tests bodies;
    handles = λ {handler} {another} {body} {later} h k. record { natural = λ state. ap (handled another) (k.natural state) ∙ on_handled another (later state) h };
    finishes = λ {last} {another} {body} {later} h k. record { natural = λ state. ap (finished another) (k.natural state) ∙ on_finished another (later state) h };
    holds = λ headers monitor h. natural-holding headers monitor h;
  }

  -- statements that don't name the variable
  pub natural-all : (context : Context) (scope : Scope) (bound : ℕ) (list : Stms) → EachInStms IsOther list → Natural (run_all context scope bound list)
  natural-all context scope bound list others = kept-all (natural-kept bound) context scope list others

  pub natural-statements : (context : Context) (scope : Scope) (bound : ℕ) (list : Stms) → EachInStms IsOther list → Natural (run_statements context scope bound list)
  natural-statements context scope bound list others = kept-statements (natural-kept bound) context scope list others
