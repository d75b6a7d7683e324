-- Which monitors are held behind a run (JLS 14.19, 17.1).
use Rattle.std.specs.Prelude.{◌≡◌, List}
use Rattle.dj_values.specs.Values.{RefValue}
use Rattle.dj_values.specs.Outcomes.{Throws, More, Stuck, Outcome, Is, Stops}
use Rattle.dj_meaning.specs.Runs.{Store}

-- a run that isn't cut and isn't stuck ends with these monitors held
abbrev pub HoldsStill : {A : Type 0} → List RefValue → Outcome Store A → Type 0
HoldsStill held (Is result state) = state.store.held ≡ held
HoldsStill held (Stops (Throws reference) state) = state.store.held ≡ held
HoldsStill held (Stops More state) = Unit {0}
HoldsStill held (Stops Stuck state) = Unit {0}
