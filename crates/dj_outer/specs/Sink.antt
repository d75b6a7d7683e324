-- What a put leaves in the sink.
use Rattle.std.specs.Prelude.{◌≡◌, ◌≤◌, ℕ, List, Option, Result, OnOk, OnErr, take}
use Rattle.std.specs.Io.KnownBytes.{append_known, Appends}
use Rattle.dj_outer.specs.declared.files.Failed.{Failed}
use Rattle.dj_outer.specs.Count.{Rose}

-- where the bytes taken are told, they grew by the first bytes of the piece, by some or none
abbrev pub TakesPrefix : Option (List ℕ) → Option (List ℕ) → List ℕ → Type 0
TakesPrefix old new piece = (count : ℕ) × (new ≡ append_known old (take count piece))

-- the same of a writer of std, which may begin to tell where it told nothing
abbrev pub AppendsFront : Option (List ℕ) → Option (List ℕ) → List ℕ → Type 0
AppendsFront old new piece = (count : ℕ) × Appends old new (take count piece)

-- a piece was put, by one put or several: it is taken whole and no fault is counted, or a prefix of it and one is
pub record Puts (result : Result (Unit {0}) Failed) (taken_old taken_new : Option (List ℕ)) (faults_old faults_new : ℕ) (piece : List ℕ) : Type 0 where
  pub ok : OnOk result (taken_new ≡ append_known taken_old piece)
  pub prefix : OnErr result (TakesPrefix taken_old taken_new piece)
  pub calm : OnOk result (faults_new ≡ faults_old)
  pub failed : OnErr result (Rose faults_old faults_new)
  pub never_falls : faults_old ≤ faults_new
