-- What is printed to takes of a text: all of it, or nothing more once it couldn't take a piece. Bytes that are compared take what they go on with.
use Rattle.std.specs.Prelude.{◌≡◌, ℕ, Bool, true, false, List, ◌++◌, Option, Result, Ok, Err}
use Rattle.dj_outer.specs.declared.files.Failed.{Failed}
use Rattle.dj_outer.specs.Sink.{Puts}

-- what memory holds that isn't full is what it held, and then the text
pub record Grows (full_old full_new : Bool) (old new text : List ℕ) : Type 0 where
  pub room : full_new ≡ false → full_old ≡ false
  pub grown : full_new ≡ false → new ≡ old ++ text

-- what a put answers, given whether it stopped
abbrev pub outcome : Bool → Result (Unit {0}) Failed
outcome true = Err (record {})
outcome false = Ok tt

-- a sink that wasn't stopped took the text as by one put; one that was took nothing
pub record Tells (stopped_old stopped_new : Bool) (taken_old taken_new : Option (List ℕ)) (faults_old faults_new : ℕ) (text : List ℕ) : Type 0 where
  pub going : stopped_old ≡ false → Puts (outcome stopped_new) taken_old taken_new faults_old faults_new text
  pub stopped : stopped_old ≡ true → (stopped_new ≡ true) × (taken_new ≡ taken_old) × (faults_new ≡ faults_old)

-- bytes that don't differ are the text and what is left of them; those that begin to differ don't begin with it
pub record Compares (differs_old differs_new : Bool) (left_old left_new text : List ℕ) : Type 0 where
  pub same : differs_new ≡ false → (differs_old ≡ false) × (left_old ≡ text ++ left_new)
  pub other : differs_old ≡ false → differs_new ≡ true → (rest : List ℕ) → ¬ (left_old ≡ text ++ rest)
