-- How runs that end well are put together, and what replies of actions come to.
use Rattle.std.proofs.Common.{◌≡◌, Bool, true, false, if◌then◌else◌, List, [], ◌∷◌, Option, Some, None, refl, subst}
use Rattle.dj_names.specs.declared.header.Header.{Header}
use Rattle.dj_names.specs.Headers.{Name}
use Rattle.dj_values.specs.Values.{RefValue, Value, Action, Trap, Answer, Given, Done, Thrown}
use Rattle.dj_values.specs.Fits.{IsThrowable}
use Rattle.dj_values.specs.Answers.{FitsAction}
use Rattle.dj_values.specs.Deciding.{is_answer}
use Rattle.dj_values.proofs.Deciding.{Decides-answer}
use Rattle.dj_values.specs.Outcomes.{Throws, More, Stuck, Reply, Gives, Halts, Asks, told, ask, then_on, ask_value, trap, State, Outcome, Is, Stops, bind, acted, answered, outside}
use Rattle.dj_meaning.specs.Runs.{Store, Meaning}
use Rattle.dj_held.specs.Replies.{Replies, Replied, EndsSo, Ends}

-- ---- runs

pub ends : {A : Type 0} {So : A → State Store → Type 0} {Thrown : RefValue → State Store → Type 0} (result : A) (state : State Store) → So result state → Ends A So Thrown (Is result state)
ends result state holds = record { so = holds }

pub cut : {A : Type 0} {So : A → State Store → Type 0} {Thrown : RefValue → State Store → Type 0} (state : State Store) → Ends A So Thrown (Stops More state)
cut state = record { so = tt }

then_so : {A B : Type 0} {So : A → State Store → Type 0} {Next : B → State Store → Type 0} {Thrown : RefValue → State Store → Type 0} (first : Outcome Store A) (next : A → Meaning B)
    → EndsSo So Thrown first → ((result : A) (state : State Store) → So result state → Ends B Next Thrown (next result state)) → EndsSo Next Thrown (bind first next)
then_so (Is result state) next holds follows = (follows result state holds).so
then_so (Stops (Throws reference) state) next holds follows = holds
then_so (Stops More state) next holds follows = tt
then_so (Stops Stuck state) next holds follows = absurd holds

-- one thing after another
pub then_ends : {A B : Type 0} {So : A → State Store → Type 0} {Next : B → State Store → Type 0} {Thrown : RefValue → State Store → Type 0} {first : Outcome Store A} {next : A → Meaning B}
    → Ends A So Thrown first → ((result : A) (state : State Store) → So result state → Ends B Next Thrown (next result state)) → Ends B Next Thrown (bind first next)
then_ends {first = first} {next = next} holds follows = record { so = then_so first next holds.so follows }

weaker_so : {A : Type 0} {So More : A → State Store → Type 0} {Thrown Later : RefValue → State Store → Type 0} (run : Outcome Store A)
    → EndsSo So Thrown run → ((result : A) (state : State Store) → run ≡ Is result state → So result state → More result state) → ((reference : RefValue) (state : State Store) → Thrown reference state → Later reference state)
    → EndsSo More Later run
weaker_so (Is result state) holds more later = more result state refl holds
weaker_so (Stops (Throws reference) state) holds more later = later reference state holds
weaker_so (Stops More state) holds more later = tt
weaker_so (Stops Stuck state) holds more later = absurd holds

-- what a run ends with, told otherwise
pub weaker : {A : Type 0} {So More : A → State Store → Type 0} {Thrown Later : RefValue → State Store → Type 0} {run : Outcome Store A}
    → Ends A So Thrown run → ((result : A) (state : State Store) → run ≡ Is result state → So result state → More result state) → ((reference : RefValue) (state : State Store) → Thrown reference state → Later reference state)
    → Ends A More Later run
weaker {run = run} holds more later = record { so = weaker_so run holds.so more later }

-- one of two runs
pub either_ends : {A : Type 0} {So : A → State Store → Type 0} {Thrown : RefValue → State Store → Type 0} (first second : Meaning A) (state : State Store) (answer : Bool)
    → (answer ≡ true → Ends A So Thrown (first state)) → (answer ≡ false → Ends A So Thrown (second state)) → Ends A So Thrown ((if answer then first else second) state)
either_ends first second state true yes_so no_so = yes_so refl
either_ends first second state false yes_so no_so = no_so refl

-- ---- replies

module _ (headers : List Header) where
  then_reply : {A B : Type 0} (So : A → Type 0) (Next : B → Type 0) (first : Reply A) (next : A → Reply B) → Replies headers So first → ((result : A) → So result → Replies headers Next (next result)) → Replies headers Next (then_on first next)
  then_reply So Next (Gives result) next holds follows = follows result holds
  then_reply So Next (Halts (Throws reference)) next holds follows = holds
  then_reply So Next (Halts More) next holds follows = tt
  then_reply So Next (Halts Stuck) next holds follows = absurd holds
  then_reply So Next (Asks action after) next holds follows = λ answer fits. then_reply So Next (after answer) next (holds answer fits) follows

  -- one reply after another
  pub then_replies : {A B : Type 0} {So : A → Type 0} {Next : B → Type 0} {first : Reply A} {next : A → Reply B} → Replied A headers So first → ((result : A) → So result → Replied B headers Next (next result)) → Replied B headers Next (then_on first next)
  then_replies {So = So} {Next = Next} {first = first} {next = next} holds follows = record { so = then_reply So Next first next holds.so (λ result so. (follows result so).so) }

  weaker_reply : {A : Type 0} (So Wide : A → Type 0) (reply : Reply A) → Replies headers So reply → ((result : A) → So result → Wide result) → Replies headers Wide reply
  weaker_reply So Wide (Gives result) holds more = more result holds
  weaker_reply So Wide (Halts (Throws reference)) holds more = holds
  weaker_reply So Wide (Halts More) holds more = tt
  weaker_reply So Wide (Halts Stuck) holds more = absurd holds
  weaker_reply So Wide (Asks action after) holds more = λ answer fits. weaker_reply So Wide (after answer) (holds answer fits) more

  pub weaker_replies : {A : Type 0} {So Wide : A → Type 0} {reply : Reply A} → Replied A headers So reply → ((result : A) → So result → Wide result) → Replied A headers Wide reply
  weaker_replies {So = So} {Wide = Wide} {reply = reply} holds more = record { so = weaker_reply So Wide reply holds.so more }

  pub gives : {A : Type 0} {So : A → Type 0} (result : A) → So result → Replied A headers So (Gives result)
  gives result holds = record { so = holds }

  -- what a reply that gives gives
  pub given_holds : {A : Type 0} {So : A → Type 0} {reply : Reply A} (result : A) → Replied A headers So reply → reply ≡ Gives result → So result
  given_holds {So = So} result holds is = subst (Replies headers So) is holds.so

  -- what an action can be answered by
  abbrev pub Told : Action → Option Value → Type 0
  Told action None = FitsAction headers action Done
  Told action (Some value) = FitsAction headers action (Given value)

  told_so : (action : Action) (answer : Answer) → ((reference : RefValue) → FitsAction headers action (Thrown reference) → IsThrowable headers reference) → FitsAction headers action answer → Replies headers (Told action) (told answer)
  told_so action (Given value) throwable fits = fits
  told_so action Done throwable fits = fits
  told_so action (Thrown reference) throwable fits = throwable reference fits

  pub ask_replies : (action : Action) → ((reference : RefValue) → FitsAction headers action (Thrown reference) → IsThrowable headers reference) → Replied (Option Value) headers (Told action) (ask action)
  ask_replies action throwable = record { so = λ answer fits. told_so action answer throwable ((Decides-answer headers action answer).0 fits) }

  pub ask_value_replies : (action : Action) → ((reference : RefValue) → FitsAction headers action (Thrown reference) → IsThrowable headers reference) → ¬ FitsAction headers action Done
      → Replied Value headers (λ value. FitsAction headers action (Given value)) (ask_value action)
  ask_value_replies action throwable never =
      then_replies (ask_replies action throwable) (elim [ None ↦ λ fits. absurd (never fits) | Some value ↦ λ fits. gives value fits ])

  pub trap_replies : {A : Type 0} {So : A → Type 0} (class : Name) → Replied A headers So (trap class)
  trap_replies class =
      then_replies (ask_replies (Trap class) (λ reference fits. fits.throwable)) (elim [ None ↦ λ fits. absurd fits | Some value ↦ λ fits. absurd fits ])

  -- ---- replies in runs: the store stays

  answered_by : {A : Type 0} (Next : A → State Store → Type 0) (Later : RefValue → State Store → Type 0) (next : Outcome Store A) (state : State Store) (fits : Bool) → (fits ≡ true → EndsSo Next Later next)
      → EndsSo Next Later (if fits then next else Stops More state)
  answered_by Next Later next state true follows = follows refl
  answered_by Next Later next state false follows = tt

  answered_so : {A : Type 0} (Next : A → State Store → Type 0) (Later : RefValue → State Store → Type 0) (action : Action) (next : Answer → State Store → Outcome Store A) (answers : List Answer) (store : Store) (state : State Store) → state.store ≡ store
      → ((answer : Answer) → is_answer headers action answer ≡ true → (after : State Store) → after.store ≡ store → EndsSo Next Later (next answer after)) → EndsSo Next Later (answered headers action next answers state)
  answered_so Next Later action next [] store state same follows = tt
  answered_so Next Later action next (first ∷ rest) store state same follows =
      answered_by Next Later (next first (record { store = state.store; world = record { answers = rest; actions = state.world.actions } })) state (is_answer headers action first)
      (λ fits. follows first fits (record { store = state.store; world = record { answers = rest; actions = state.world.actions } }) same)

  outside_so : {A : Type 0} (So : A → Type 0) (Next : A → State Store → Type 0) (Later : RefValue → State Store → Type 0) (reply : Reply A) (store : Store) (state : State Store) → state.store ≡ store → Replies headers So reply
      → ((result : A) (after : State Store) → after.store ≡ store → So result → Next result after) → ((reference : RefValue) (after : State Store) → after.store ≡ store → IsThrowable headers reference → Later reference after)
      → EndsSo Next Later (outside headers reply state)
  outside_so So Next Later (Gives result) store state same holds next later = next result state same holds
  outside_so So Next Later (Halts (Throws reference)) store state same holds next later = later reference state same holds
  outside_so So Next Later (Halts More) store state same holds next later = tt
  outside_so So Next Later (Halts Stuck) store state same holds next later = absurd holds
  outside_so So Next Later (Asks action after) store state same holds next later =
      answered_so Next Later action (λ answer. outside headers (after answer)) state.world.answers store (acted action state) same
      (λ answer fits behind kept. outside_so So Next Later (after answer) store behind kept (holds answer fits) next later)

  pub outside_ends : {A : Type 0} {So : A → Type 0} {Next : A → State Store → Type 0} {Later : RefValue → State Store → Type 0} {reply : Reply A} (state : State Store) → Replied A headers So reply
      → ((result : A) (after : State Store) → after.store ≡ state.store → So result → Next result after) → ((reference : RefValue) (after : State Store) → after.store ≡ state.store → IsThrowable headers reference → Later reference after)
      → Ends A Next Later (outside headers reply state)
  outside_ends {So = So} {Next = Next} {Later = Later} {reply = reply} state holds next later = record { so = outside_so So Next Later reply state.store state refl holds.so next later }
