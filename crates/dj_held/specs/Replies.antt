-- Replies and runs that never are stuck.
use Rattle.std.specs.Prelude.{◌≡◌, true, List}
use Rattle.dj_names.specs.declared.header.Header.{Header}
use Rattle.dj_values.specs.Values.{RefValue, Answer}
use Rattle.dj_values.specs.Fits.{IsThrowable}
use Rattle.dj_values.specs.Deciding.{is_answer}
use Rattle.dj_values.specs.Outcomes.{Throws, More, Stuck, Reply, Gives, Halts, Asks, State, Outcome, Is, Stops}
use Rattle.dj_meaning.specs.Runs.{Store}

-- a reply isn't stuck, whatever answers its actions have: what it gives is so, and what it throws is an exception
abbrev pub Replies : {A : Type 0} → List Header → (A → Type 0) → Reply A → Type 0
Replies headers So (Gives result) = So result
Replies headers So (Halts (Throws reference)) = IsThrowable headers reference
Replies headers So (Halts More) = Unit {0}
Replies headers So (Halts Stuck) = ⊥
Replies headers So (Asks action next) = (answer : Answer) → is_answer headers action answer ≡ true → Replies headers So (next answer)

-- the same, of what the parts are told by
pub record Replied (A : Type 0) (headers : List Header) (So : A → Type 0) (reply : Reply A) : Type 0 where
  pub so : Replies headers So reply

-- a run isn't stuck: this holds of its result and of where it ends, and that where it throws
abbrev pub EndsSo : {A : Type 0} → (A → State Store → Type 0) → (RefValue → State Store → Type 0) → Outcome Store A → Type 0
EndsSo So Thrown (Is result state) = So result state
EndsSo So Thrown (Stops (Throws reference) state) = Thrown reference state
EndsSo So Thrown (Stops More state) = Unit {0}
EndsSo So Thrown (Stops Stuck state) = ⊥

-- the same, of what the parts are told by
pub record Ends (A : Type 0) (So : A → State Store → Type 0) (Thrown : RefValue → State Store → Type 0) (run : Outcome Store A) : Type 0 where
  pub so : EndsSo So Thrown run
