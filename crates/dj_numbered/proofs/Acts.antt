-- Runs under other names show the same: states, and what each part keeps of them.
use Rattle.std.proofs.Common.{ℕ, zero, suc, Bool, true, false, List, [], ◌∷◌, ◌++◌, Option, Some, None, ◌≡◌, refl, sym, ap, ◌∙◌, subst, ◌==◌}
use Rattle.std.specs.Prelude.{codes, if◌then◌else◌}
use Rattle.dj_names.specs.declared.header.Header.{Header}
use Rattle.dj_names.specs.Types.{JType}
use Rattle.dj_syntax.specs.declared.variable.Var.{Var}
use Rattle.dj_values.specs.Values.{RefValue, Value, Int, Long, Null, Ref, Action, Answer, Enter, Exit, Trap}
use Rattle.dj_values.specs.Deciding.{is_answer, is_throwable}
use Rattle.dj_values.specs.Outcomes.{Stop, Throws, More, Stuck, Reply, Gives, Halts, Asks, ask, then_on, World, State, Outcome, Is, Stops, bind, acted, answered, outside, shown}
use Rattle.dj_meaning.specs.StaticTypes.{Context}
use Rattle.dj_meaning.specs.Objects.{with_object}
use Rattle.dj_meaning.specs.Runs.{Store, Meaning, pure, stop, ◌>>=◌, with, looked_up, with_value, with_store, put, map_state, local}
use Rattle.dj_meaning.specs.Expressions.{either}
use Rattle.dj_meaning.specs.Completions.{Completion, Normal, Break, Continue, Return, Misfit, sequence, taken, is_own, next_turn, turns, do_turns, thrown, handled, finished, with_held, left_by, released, held_besides, entered_on, holding}
use Rattle.dj_meaning.specs.Meaning.{ended}
use Rattle.dj_renaming.specs.Renaming.{Names, AreApart}
use Rattle.dj_renaming.proofs.Reach.{own_renamed}
use Rattle.dj_numbered.specs.Shows.{AreStatesAlike}

-- how a statement completes, by the other names of labels
abbrev pub completion_renamed : Names → Completion → Completion
completion_renamed names Normal = Normal
completion_renamed names (Break label) = Break (names.label label)
completion_renamed names (Continue label) = Continue (names.label label)
completion_renamed names (Return result) = Return result
completion_renamed names Misfit = Misfit

-- what is asked of the outside comes to results that stay as they are
abbrev Fixes : {A : Type 0} → (A → A) → Reply A → Type 0
Fixes f (Gives result) = f result ≡ result
Fixes f (Halts why) = Unit {0}
Fixes f (Asks action next) = (answer : Answer) → Fixes f (next answer)

all_fixed : {A : Type 0} (reply : Reply A) → Fixes (λ (result : A). result) reply
all_fixed (Gives result) = refl
all_fixed (Halts why) = tt
all_fixed (Asks action next) = λ answer. all_fixed (next answer)

on_fixed : {A B : Type 0} (f : B → B) (reply : Reply A) (next : A → Reply B) → ((result : A) → Fixes f (next result)) → Fixes f (then_on reply next)
on_fixed f (Gives result) next h = h result
on_fixed f (Halts why) next h = tt
on_fixed f (Asks action more) next h = λ answer. on_fixed f (more answer) next h

module _ (names : Names) (apart : AreApart names) where
  abbrev Alike : State Store → State Store → Type 0
  Alike state later = AreStatesAlike names state later

  -- two runs that come to such states, and the second to what is made of what the first comes to
  abbrev EndAlike : {A : Type 0} → (A → A) → Outcome Store A → Outcome Store A → Type 0
  EndAlike f (Is result state) (Is other later) = (f result ≡ other) × Alike state later
  EndAlike f (Is result state) (Stops why later) = ⊥
  EndAlike f (Stops why state) (Is other later) = ⊥
  EndAlike f (Stops why state) (Stops other later) = (why ≡ other) × Alike state later

  -- two parts that do so from any such states
  pub record Acts {A : Type 0} (f : A → A) (first second : Meaning A) : Type 0 where
    pub acts : (state later : State Store) → Alike state later → EndAlike f (first state) (second later)

  -- two that come to the same
  abbrev pub Finds : {A : Type 0} → Meaning A → Meaning A → Type 0
  Finds {A = A} first second = Acts (λ (result : A). result) first second

  -- and two that complete alike
  abbrev pub Does : Meaning Completion → Meaning Completion → Type 0
  Does first second = Acts (completion_renamed names) first second

  pub acts_pure : {A : Type 0} (f : A → A) (result : A) → Acts f (pure result) (pure (f result))
  acts_pure f result = record { acts = λ state later a. (refl, a) }

  pub finds_pure : {A : Type 0} (result : A) → Finds (pure result) (pure result)
  finds_pure {A = A} result = acts_pure (λ (result : A). result) result

  pub does_pure : (completion : Completion) → Does (pure completion) (pure (completion_renamed names completion))
  does_pure completion = acts_pure (completion_renamed names) completion

  pub acts_stop : {A : Type 0} (f : A → A) (why : Stop) → Acts f (stop {A = A} why) (stop {A = A} why)
  acts_stop f why = record { acts = λ state later a. (refl, a) }

  acted_alike : (action : Action) (state later : State Store) → Alike state later → Alike (acted action state) (acted action later)
  acted_alike action state later a = record {
    variables = a.variables;
    held = a.held;
    world = ap (λ (world : World). record { answers = world.answers; actions = world.actions ++ action ∷ [] }) a.world;
  }

  rest_alike : (rest : List Answer) (state later : State Store) → Alike state later
      → Alike (record { store = state.store; world = record { answers = rest; actions = state.world.actions } }) (record { store = later.store; world = record { answers = rest; actions = later.world.actions } })
  rest_alike rest state later a = record { variables = a.variables; held = a.held; world = ap (λ (world : World). record { answers = rest; actions = world.actions }) a.world }

  answered_alike : {A : Type 0} (f : A → A) (headers : List Header) (action : Action) (next : Answer → Meaning A) → ((answer : Answer) → Acts f (next answer) (next answer)) → (answers : List Answer) (state later : State Store) → Alike state later
      → EndAlike f (answered headers action next answers state) (answered headers action next answers later)
  answered_alike f headers action next h [] state later a = (refl, a)
  answered_alike f headers action next h (first ∷ rest) state later a = go (is_answer headers action first)
    where
      go : (fits : Bool) → EndAlike f (if fits then next first (record { store = state.store; world = record { answers = rest; actions = state.world.actions } }) else Stops More state)
          (if fits then next first (record { store = later.store; world = record { answers = rest; actions = later.world.actions } }) else Stops More later)
      go true = (h first).acts _ _ (rest_alike rest state later a)
      go false = (refl, a)

  acts_outside : {A : Type 0} (f : A → A) (headers : List Header) (reply : Reply A) → Fixes f reply → Acts f (outside {S = Store} headers reply) (outside {S = Store} headers reply)
  acts_outside f headers (Gives result) fixed = record { acts = λ state later a. (fixed, a) }
  acts_outside f headers (Halts why) fixed = acts_stop f why
  acts_outside f headers (Asks action next) fixed = record {
    acts = λ state later a.
        subst (λ (world : World). EndAlike f (answered headers action (λ answer. outside headers (next answer)) state.world.answers (acted action state)) (answered headers action (λ answer. outside headers (next answer)) world.answers (acted action later))) a.world
        (answered_alike f headers action (λ answer. outside headers (next answer)) (λ answer. acts_outside f headers (next answer) (fixed answer)) state.world.answers (acted action state) (acted action later) (acted_alike action state later a));
  }

  pub finds_outside : {A : Type 0} (headers : List Header) (reply : Reply A) → Finds (outside {S = Store} headers reply) (outside {S = Store} headers reply)
  finds_outside {A = A} headers reply = acts_outside (λ (result : A). result) headers reply (all_fixed reply)

  -- a reference that is thrown
  pub does_thrown : (context : Context) (value : Value) → Does (thrown context value) (thrown context value)
  does_thrown context value = acts_outside (completion_renamed names) context.headers (with_object value (λ reference. Halts (if is_throwable context.headers reference then Throws reference else Stuck))) (fixed value)
    where
      fixed : (value : Value) → Fixes (completion_renamed names) (with_object value (λ reference. Halts (if is_throwable context.headers reference then Throws reference else Stuck)))
      fixed (Int number) = tt
      fixed (Long number) = tt
      fixed Null = on_fixed (completion_renamed names) (ask (Trap (codes "java/lang/NullPointerException"))) (λ other. Halts Stuck) (λ other. tt)
      fixed (Ref reference) = tt

  bound_alike : {A B : Type 0} (f : A → A) (g : B → B) (run after : Outcome Store A) (next later : A → Meaning B) → EndAlike f run after → ((result : A) → Acts g (next result) (later (f result))) → EndAlike g (bind run next) (bind after later)
  bound_alike f g (Is result state) (Is other behind) next later e h = subst (λ (other : _). EndAlike g (next result state) (later other behind)) e.0 ((h result).acts state behind e.1)
  bound_alike f g (Is result state) (Stops why behind) next later e h = absurd e
  bound_alike f g (Stops why state) (Is other behind) next later e h = absurd e
  bound_alike f g (Stops why state) (Stops other behind) next later e h = e

  pub acts_bind : {A B : Type 0} {f : A → A} {g : B → B} {first second : Meaning A} {next : A → Meaning B} (later : A → Meaning B) → Acts f first second → ((result : A) → Acts g (next result) (later (f result))) → Acts g (first >>= next) (second >>= later)
  acts_bind {f = f} {g = g} {first = first} {second = second} {next = next} later h k = record {
    acts = λ state behind a. bound_alike f g (first state) (second behind) next later (h.acts state behind a) k;
  }

  pub acts_with : {A B : Type 0} {f : B → B} (found : Option A) {other : Option A} {next later : A → Meaning B} → found ≡ other → ((one : A) → Acts f (next one) (later one)) → Acts f (with found next) (with other later)
  acts_with {A = A} {f = f} found {next = next} {later = later} e h = subst (λ other. Acts f (with found next) (with other later)) e (go found)
    where
      go : (found : Option A) → Acts f (with found next) (with found later)
      go None = acts_stop f Stuck
      go (Some one) = h one

  pub acts_either : {A : Type 0} {f : A → A} (answer : Bool) {reply : Bool} {one other more most : Meaning A} → answer ≡ reply → Acts f one more → Acts f other most → Acts f (either answer one other) (either reply more most)
  acts_either {f = f} answer {one = one} {other = other} {more = more} {most = most} e h k = subst (λ reply. Acts f (either answer one other) (either reply more most)) e (go answer)
    where
      go : (answer : Bool) → Acts f (either answer one other) (either answer more most)
      go true = h
      go false = k

  -- ---- variables

  looked_alike : (type : Option JType) (found : Option Value) (state later : State Store) → Alike state later → EndAlike (λ (result : Value). result) (looked_up type found state) (looked_up type found later)
  looked_alike None found state later a = (refl, a)
  looked_alike (Some type) None state later a = (refl, a)
  looked_alike (Some type) (Some found) state later a = (refl, a)

  pub finds_look : (variable : Var) (type : Option JType) {other : Option JType} → type ≡ other
      → Finds (λ state. looked_up type (state.store.variables variable) state) (λ state. looked_up other (state.store.variables (names.variable variable)) state)
  finds_look variable type e = record {
    acts = λ state later a.
        subst (λ other. EndAlike (λ (result : Value). result) (looked_up type (state.store.variables variable) state) (looked_up other (later.store.variables (names.variable variable)) later)) e
        (subst (λ found. EndAlike (λ (result : Value). result) (looked_up type (state.store.variables variable) state) (looked_up type found later)) (a.variables variable)
        (looked_alike type (state.store.variables variable) state later a));
  }

  put_alike : (variable : Var) (found other : Option Value) (state later : State Store) → found ≡ other → Alike state later
      → Alike (with_store (with_value variable found) state) (with_store (with_value (names.variable variable) other) later)
  put_alike variable found other state later e a = record {
    variables = λ one i. if sym (apart.variables one variable) i then e i else a.variables one i;
    held = a.held;
    world = a.world;
  }

  pub finds_put : (variable : Var) (found : Option Value) → Finds (put variable found) (put (names.variable variable) found)
  finds_put variable found = record { acts = λ state later a. (refl, put_alike variable found found state later refl a) }

  mapped_alike : (variable : Var) (found other : Option Value) (run after : Outcome Store Completion) → found ≡ other → EndAlike (completion_renamed names) run after
      → EndAlike (completion_renamed names) (map_state (with_store (with_value variable found)) run) (map_state (with_store (with_value (names.variable variable) other)) after)
  mapped_alike variable found other (Is result state) (Is one later) e h = (h.0, put_alike variable found other state later e h.1)
  mapped_alike variable found other (Is result state) (Stops why later) e h = absurd h
  mapped_alike variable found other (Stops why state) (Is one later) e h = absurd h
  mapped_alike variable found other (Stops why state) (Stops one later) e h = (h.0, put_alike variable found other state later e h.1)

  pub does_local : (variable : Var) {first second : Meaning Completion} → Does first second → Does (local variable first) (local (names.variable variable) second)
  does_local variable {first = first} {second = second} h = record {
    acts = λ state later a. mapped_alike variable (state.store.variables variable) (later.store.variables (names.variable variable)) (first state) (second later) (a.variables variable) (h.acts state later a);
  }

  -- ---- completions

  pub does_sequence : {next later : Meaning Completion} → Does next later → (completion : Completion) → Does (sequence next completion) (sequence later (completion_renamed names completion))
  does_sequence h Normal = h
  does_sequence h (Break label) = does_pure (Break label)
  does_sequence h (Continue label) = does_pure (Continue label)
  does_sequence h (Return result) = does_pure (Return result)
  does_sequence h Misfit = does_pure Misfit

  pub does_taken : (own : ℕ) (completion : Completion) → Does (taken own completion) (taken (names.label own) (completion_renamed names completion))
  does_taken own Normal = does_pure Normal
  does_taken own (Break label) = acts_either (label == own) (sym (apart.labels label own)) (does_pure Normal) (does_pure (Break label))
  does_taken own (Continue label) = acts_either (label == own) (sym (apart.labels label own)) (acts_stop (completion_renamed names) Stuck) (does_pure (Continue label))
  does_taken own (Return result) = does_pure (Return result)
  does_taken own Misfit = does_pure Misfit

  own_alike : (own : Option ℕ) (label : ℕ) → is_own own label ≡ is_own (own_renamed names own) (names.label label)
  own_alike None label = refl
  own_alike (Some own) label = sym (apart.labels label own)

  does_next : (own : Option ℕ) {again later : Meaning Completion} → Does again later → (completion : Completion) → Does (next_turn own again completion) (next_turn (own_renamed names own) later (completion_renamed names completion))
  does_next own h Normal = h
  does_next own h (Break label) = does_pure (Break label)
  does_next own h (Continue label) = acts_either (is_own own label) (own_alike own label) h (does_pure (Continue label))
  does_next own h (Return result) = does_pure (Return result)
  does_next own h Misfit = does_pure Misfit

  pub does_turns : (bound : ℕ) (own : Option ℕ) {test other : Meaning Bool} {step after : Meaning (Unit {0})} {body later : Meaning Completion} → Finds test other → Finds step after → Does body later
      → Does (turns bound own test step body) (turns bound (own_renamed names own) other after later)
  does_turns zero own tests steps bodies = acts_bind _ tests (λ answer. acts_either answer refl (acts_stop (completion_renamed names) More) (does_pure Normal))
  does_turns (suc bound) own tests steps bodies =
      acts_bind _ tests (λ answer. acts_either answer refl (acts_bind _ bodies (does_next own (acts_bind _ steps (λ done. does_turns bound own tests steps bodies)))) (does_pure Normal))

  pub does_do_turns : (bound : ℕ) (own : Option ℕ) {test other : Meaning Bool} {body later : Meaning Completion} → Finds test other → Does body later
      → Does (do_turns bound own test body) (do_turns bound (own_renamed names own) other later)
  does_do_turns zero own tests bodies = acts_stop (completion_renamed names) More
  does_do_turns (suc bound) own tests bodies =
      acts_bind _ bodies (does_next own (acts_bind _ tests (λ answer. acts_either answer refl (does_do_turns bound own tests bodies) (does_pure Normal))))

  -- ---- exceptions

  handled_alike : (handler another : RefValue → Meaning Completion) (run after : Outcome Store Completion) → EndAlike (completion_renamed names) run after → ((reference : RefValue) → Does (handler reference) (another reference))
      → EndAlike (completion_renamed names) (handled handler run) (handled another after)
  handled_alike handler another (Is completion state) (Is other later) e h = e
  handled_alike handler another (Is completion state) (Stops why later) e h = absurd e
  handled_alike handler another (Stops why state) (Is other later) e h = absurd e
  handled_alike handler another (Stops (Throws reference) state) (Stops (Throws other) later) e h =
      let is = e.0 in let same : reference ≡ other = cc in subst (λ other. EndAlike (completion_renamed names) (handler reference state) (another other later)) same ((h reference).acts state later e.1)
  handled_alike handler another (Stops (Throws reference) state) (Stops More later) e h = let is = e.0 in absurd cc
  handled_alike handler another (Stops (Throws reference) state) (Stops Stuck later) e h = let is = e.0 in absurd cc
  handled_alike handler another (Stops More state) (Stops (Throws other) later) e h = let is = e.0 in absurd cc
  handled_alike handler another (Stops More state) (Stops More later) e h = e
  handled_alike handler another (Stops More state) (Stops Stuck later) e h = let is = e.0 in absurd cc
  handled_alike handler another (Stops Stuck state) (Stops (Throws other) later) e h = let is = e.0 in absurd cc
  handled_alike handler another (Stops Stuck state) (Stops More later) e h = let is = e.0 in absurd cc
  handled_alike handler another (Stops Stuck state) (Stops Stuck later) e h = e

  pub does_handled : {handler another : RefValue → Meaning Completion} {body later : Meaning Completion} → ((reference : RefValue) → Does (handler reference) (another reference)) → Does body later
      → Does (λ state. handled handler (body state)) (λ state. handled another (later state))
  does_handled {handler = handler} {another = another} {body = body} {later = later} h k = record { acts = λ state behind a. handled_alike handler another (body state) (later behind) (k.acts state behind a) h }

  finished_alike : (last another : Meaning Completion) (run after : Outcome Store Completion) → EndAlike (completion_renamed names) run after → Does last another → EndAlike (completion_renamed names) (finished last run) (finished another after)
  finished_alike last another (Is completion state) (Is other later) e h =
      subst (λ other. EndAlike (completion_renamed names) (finished last (Is completion state)) (finished another (Is other later))) e.0 ((acts_bind _ h (does_sequence (does_pure completion))).acts state later e.1)
  finished_alike last another (Is completion state) (Stops why later) e h = absurd e
  finished_alike last another (Stops why state) (Is other later) e h = absurd e
  finished_alike last another (Stops (Throws reference) state) (Stops (Throws other) later) e h =
      let is = e.0 in let same : reference ≡ other = cc in
      subst (λ other. EndAlike (completion_renamed names) (finished last (Stops (Throws reference) state)) (finished another (Stops (Throws other) later))) same
      ((acts_bind _ h (does_sequence (acts_stop (completion_renamed names) (Throws reference)))).acts state later e.1)
  finished_alike last another (Stops (Throws reference) state) (Stops More later) e h = let is = e.0 in absurd cc
  finished_alike last another (Stops (Throws reference) state) (Stops Stuck later) e h = let is = e.0 in absurd cc
  finished_alike last another (Stops More state) (Stops (Throws other) later) e h = let is = e.0 in absurd cc
  finished_alike last another (Stops More state) (Stops More later) e h = e
  finished_alike last another (Stops More state) (Stops Stuck later) e h = let is = e.0 in absurd cc
  finished_alike last another (Stops Stuck state) (Stops (Throws other) later) e h = let is = e.0 in absurd cc
  finished_alike last another (Stops Stuck state) (Stops More later) e h = let is = e.0 in absurd cc
  finished_alike last another (Stops Stuck state) (Stops Stuck later) e h = e

  pub does_finished : {last another body later : Meaning Completion} → Does last another → Does body later → Does (λ state. finished last (body state)) (λ state. finished another (later state))
  does_finished {last = last} {another = another} {body = body} {later = later} h k = record { acts = λ state behind a. finished_alike last another (body state) (later behind) (k.acts state behind a) h }

  -- ---- monitors

  held_alike : (first second : List RefValue) (state later : State Store) → first ≡ second → Alike state later → Alike (with_store (with_held first) state) (with_store (with_held second) later)
  held_alike first second state later e a = record { variables = a.variables; held = e; world = a.world }

  left_alike : (headers : List Header) (next later : Meaning Completion) (monitors : List RefValue) (state behind : State Store) → Does next later → Alike state behind
      → EndAlike (completion_renamed names) (left_by headers next monitors state) (left_by headers later monitors behind)
  left_alike headers next later [] state behind h a = h.acts state behind a
  left_alike headers next later (monitor ∷ rest) state behind h a =
      (acts_bind _ (finds_outside headers (ask (Exit monitor))) (λ done. h)).acts (with_store (with_held rest) state) (with_store (with_held rest) behind) (held_alike rest rest state behind refl a)

  exited_alike : (headers : List Header) (next later : Meaning Completion) (state behind : State Store) → Does next later → Alike state behind
      → EndAlike (completion_renamed names) (left_by headers next state.store.held state) (left_by headers later behind.store.held behind)
  exited_alike headers next later state behind h a =
      subst (λ monitors. EndAlike (completion_renamed names) (left_by headers next state.store.held state) (left_by headers later monitors behind)) a.held (left_alike headers next later state.store.held state behind h a)

  released_alike : (headers : List Header) (run after : Outcome Store Completion) → EndAlike (completion_renamed names) run after → EndAlike (completion_renamed names) (released headers run) (released headers after)
  released_alike headers (Is completion state) (Is other later) e =
      subst (λ other. EndAlike (completion_renamed names) (released headers (Is completion state)) (released headers (Is other later))) e.0
      (exited_alike headers (pure completion) (pure (completion_renamed names completion)) state later (does_pure completion) e.1)
  released_alike headers (Is completion state) (Stops why later) e = absurd e
  released_alike headers (Stops why state) (Is other later) e = absurd e
  released_alike headers (Stops (Throws reference) state) (Stops (Throws other) later) e =
      let is = e.0 in let same : reference ≡ other = cc in
      subst (λ other. EndAlike (completion_renamed names) (released headers (Stops (Throws reference) state)) (released headers (Stops (Throws other) later))) same
      (exited_alike headers (stop (Throws reference)) (stop (Throws reference)) state later (acts_stop (completion_renamed names) (Throws reference)) e.1)
  released_alike headers (Stops (Throws reference) state) (Stops More later) e = let is = e.0 in absurd cc
  released_alike headers (Stops (Throws reference) state) (Stops Stuck later) e = let is = e.0 in absurd cc
  released_alike headers (Stops More state) (Stops (Throws other) later) e = let is = e.0 in absurd cc
  released_alike headers (Stops More state) (Stops More later) e = e
  released_alike headers (Stops More state) (Stops Stuck later) e = let is = e.0 in absurd cc
  released_alike headers (Stops Stuck state) (Stops (Throws other) later) e = let is = e.0 in absurd cc
  released_alike headers (Stops Stuck state) (Stops More later) e = let is = e.0 in absurd cc
  released_alike headers (Stops Stuck state) (Stops Stuck later) e = e

  pub does_holding : (headers : List Header) (monitor : RefValue) {body later : Meaning Completion} → Does body later → Does (holding headers monitor body) (holding headers monitor later)
  does_holding headers monitor {body = body} {later = later} h =
      acts_bind _ (entered headers) (λ done. record { acts = λ state behind a. released_alike headers (body state) (later behind) (h.acts state behind a) })
    where
      besides : Finds (held_besides monitor) (held_besides monitor)
      besides = record { acts = λ state behind a. (refl, held_alike (monitor ∷ state.store.held) (monitor ∷ behind.store.held) state behind (ap (λ held. monitor ∷ held) a.held) a) }

      entered : (headers : List Header) → Finds (entered_on headers monitor) (entered_on headers monitor)
      entered headers = acts_bind _ (finds_outside headers (ask (Enter monitor))) (λ done. besides)

  -- ---- what is shown

  pub finds_ended : (result : Option JType) (completion : Completion) → Finds (ended result completion) (ended result (completion_renamed names completion))
  finds_ended None Normal = finds_pure None
  finds_ended (Some type) Normal = acts_stop (λ (found : Option Value). found) Stuck
  finds_ended result (Break label) = acts_stop (λ (found : Option Value). found) Stuck
  finds_ended result (Continue label) = acts_stop (λ (found : Option Value). found) Stuck
  finds_ended result (Return found) = finds_pure found
  finds_ended result Misfit = acts_stop (λ (found : Option Value). found) Stuck

  shown_stop : (why : Stop) (state later : State Store) → state.world ≡ later.world → shown {S = Store} (Stops why state) ≡ shown {S = Store} (Stops why later)
  shown_stop (Throws reference) state later e = λ i. shown {S = Store} (Stops (Throws reference) (record { store = state.store; world = e i }))
  shown_stop More state later e = λ i. shown {S = Store} (Stops More (record { store = state.store; world = e i }))
  shown_stop Stuck state later e = λ i. shown {S = Store} (Stops Stuck (record { store = state.store; world = e i }))

  pub shown_alike : (run after : Outcome Store (Option Value)) → EndAlike (λ (found : Option Value). found) run after → shown run ≡ shown after
  shown_alike (Is result state) (Is other later) e = λ i. shown (Is (e.0 i) (record { store = state.store; world = e.1.world i }))
  shown_alike (Is result state) (Stops why later) e = absurd e
  shown_alike (Stops why state) (Is other later) e = absurd e
  shown_alike (Stops why state) (Stops other later) e = shown_stop why state later e.1.world ∙ ap (λ why. shown {S = Store} (Stops why later)) e.0
