-- What operations reply: none is stuck, what is given is such, and what is thrown is a reference.
use Rattle.std.proofs.Common.{◌≡◌, ℕ, Bool, true, false, List, [], ◌∷◌, Option, Some, None, refl}
use Rattle.std.specs.Prelude.{if◌then◌else◌}
use Rattle.dj_names.specs.declared.header.Header.{Header}
use Rattle.dj_values.specs.Values.{RefValue, Value, Action, Answer, Given, Done, Thrown}
use Rattle.dj_values.specs.Fits.{IsThrowable}
use Rattle.dj_values.specs.Answers.{FitsAction}
use Rattle.dj_values.specs.Deciding.{is_answer}
use Rattle.dj_values.specs.Outcomes.{Stop, Throws, More, Stuck, Reply, Gives, Halts, Asks, ask, then_on, trap, State, Outcome, Is, Stops, bind, acted, answered, outside}
use Rattle.dj_values.proofs.Deciding.{Decides-answer}
use Rattle.dj_typed_states.specs.Facts.{Facts, IsThrown}

-- ---- replies

-- how a run may stop: not stuck, and by an exception only of which the facts hold that are known of what is thrown
abbrev pub MayStop : Facts → Stop → Type 0
MayStop facts (Throws reference) = IsThrown facts reference
MayStop facts More = Unit {0}
MayStop facts Stuck = ⊥

-- whatever answers that fit come, what is given is such, and a stop may be
abbrev pub Replies : {A : Type 0} → Facts → List Header → (A → Type 0) → Reply A → Type 0
Replies facts headers P (Gives result) = P result
Replies facts headers P (Halts stop) = MayStop facts stop
Replies facts headers P (Asks action next) = (answer : Answer) → FitsAction headers action answer → Replies facts headers P (next answer)

pub replies-then : {A B : Type 0} (facts : Facts) (headers : List Header) (P : A → Type 0) (Q : B → Type 0) (reply : Reply A) (next : A → Reply B) → Replies facts headers P reply → ((result : A) → P result → Replies facts headers Q (next result)) → Replies facts headers Q (then_on reply next)
replies-then facts headers P Q (Gives result) next h k = k result h
replies-then facts headers P Q (Halts stop) next h k = h
replies-then facts headers P Q (Asks action after) next h k = λ answer fits. replies-then facts headers P Q (after answer) next (h answer fits) k

pub replies-if : {A : Type 0} (facts : Facts) (headers : List Header) (P : A → Type 0) (test : Bool) (first second : Reply A) → Replies facts headers P first → Replies facts headers P second → Replies facts headers P (if test then first else second)
replies-if facts headers P true first second h k = h
replies-if facts headers P false first second h k = k

pub replies-ask : (facts : Facts) (headers : List Header) (P : Option Value → Type 0) (action : Action) → ((value : Value) → FitsAction headers action (Given value) → P (Some value)) → (FitsAction headers action Done → P None) → ((reference : RefValue) → FitsAction headers action (Thrown reference) → IsThrown facts reference)
    → Replies facts headers P (ask action)
replies-ask facts headers P action given done thrown (Given value) fits = given value fits
replies-ask facts headers P action given done thrown Done fits = done fits
replies-ask facts headers P action given done thrown (Thrown reference) fits = thrown reference fits

pub replies-trap : {A : Type 0} (facts : Facts) (headers : List Header) → ((one : RefValue) → IsThrowable headers one → IsThrown facts one) → (P : A → Type 0) (class : List ℕ) → Replies facts headers P (trap class)
replies-trap facts headers thrown P class (Given value) fits = absurd fits
replies-trap facts headers thrown P class Done fits = absurd fits
replies-trap facts headers thrown P class (Thrown reference) fits = thrown reference fits.throwable

-- ---- outcomes

-- a run isn't stuck, its result is such, and so is what it throws
abbrev pub Ends : {S A : Type 0} → (A → State S → Type 0) → (RefValue → State S → Type 0) → Outcome S A → Type 0
Ends Result Throw (Is result state) = Result result state
Ends Result Throw (Stops (Throws reference) state) = Throw reference state
Ends Result Throw (Stops More state) = Unit {0}
Ends Result Throw (Stops Stuck state) = ⊥

pub ends-bind : {S A B : Type 0} (First : A → State S → Type 0) (Last : B → State S → Type 0) (Throw : RefValue → State S → Type 0) (first : Outcome S A) (next : A → State S → Outcome S B) → Ends First Throw first → ((result : A) (state : State S) → First result state → Ends Last Throw (next result state))
    → Ends Last Throw (bind first next)
ends-bind First Last Throw (Is result state) next h k = k result state h
ends-bind First Last Throw (Stops (Throws reference) state) next h k = h
ends-bind First Last Throw (Stops More state) next h k = h
ends-bind First Last Throw (Stops Stuck state) next h k = h

-- an exception leaves the store as it is
abbrev pub ThrowsFrom : {S : Type 0} → Facts → S → RefValue → State S → Type 0
ThrowsFrom facts store reference state = IsThrown facts reference × (state.store ≡ store)

module _ {S A : Type 0} (facts : Facts) (headers : List Header) (P : A → Type 0) where
  -- with a store, what a reply comes to
  abbrev Comes : S → Outcome S A → Type 0
  Comes store = Ends (λ result state. P result × (state.store ≡ store)) (ThrowsFrom facts store)

  answered-comes : (action : Action) (next : Answer → Reply A) (answers : List Answer) (state : State S) → ((answer : Answer) → FitsAction headers action answer → (after : State S) → Comes after.store (outside headers (next answer) after)) → Comes state.store (answered headers action (λ answer. outside headers (next answer)) answers state)
  answered-comes action next [] state h = tt
  answered-comes action next (first ∷ rest) state h = go (is_answer headers action first) refl
    where
      after : State S
      after = record { store = state.store; world = record { answers = rest; actions = state.world.actions } }

      go : (test : Bool) → is_answer headers action first ≡ test → Comes state.store (if test then outside headers (next first) after else Stops More state)
      go true is = h first ((Decides-answer headers action first).0 is) after
      go false is = tt

  pub outside-comes : (reply : Reply A) → Replies facts headers P reply → (state : State S) → Comes state.store (outside headers reply state)
  outside-comes (Gives result) h state = (h, refl)
  outside-comes (Halts (Throws reference)) h state = (h, refl)
  outside-comes (Halts More) h state = tt
  outside-comes (Halts Stuck) h state = h
  outside-comes (Asks action next) h state = answered-comes action next state.world.answers (acted action state) (λ answer fits after. outside-comes (next answer) (h answer fits) after)
