-- What a sink in memory shows, and which of its calls fail.
use Rattle.std.specs.Prelude.{◌⊎◌, ◌+◌, ◌<◌, ◌++◌, ℕ, List, Result, Ok, Err, length, Contains}
use Rattle.dj_outer.specs.declared.files.Failed.{Failed}
use Rattle.dj_outer.specs.Count.{next_count}

-- `room` is how many bytes it takes in all; `failing` and `calls` are as for files
pub record SinkState : Type 0 where
  pub room : ℕ
  pub taken : List ℕ
  pub failing : List ℕ
  pub calls : ℕ
  pub faults : ℕ

-- the next put fails: its number is listed, or the piece needs more room than is left
abbrev pub PutFails : SinkState → List ℕ → Type 0
PutFails sink piece = Contains sink.failing sink.calls ⊎ (sink.room < length sink.taken + length piece)

-- a put spends its number, and takes the piece or counts a fault
abbrev pub after_put : SinkState → List ℕ → Result (Unit {0}) Failed → SinkState
after_put sink piece (Ok done) = record sink { taken = sink.taken ++ piece; calls = next_count sink.calls }
after_put sink piece (Err fault) = record sink { calls = next_count sink.calls; faults = next_count sink.faults }
