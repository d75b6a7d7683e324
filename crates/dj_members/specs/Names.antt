-- Where a name stands last among names.
use Rattle.std.specs.Prelude.{◌≡◌, ◌≢◌, ℕ, ◌<◌, List, Option, Some, MatchOption, slice_get}
use Rattle.dj_names.specs.Headers.{Name}

-- the last place before a bound where the name stands
abbrev pub IsLast : List Name → Name → ℕ → Option ℕ → Type 0
IsLast names name bound place =
    MatchOption place ((other : ℕ) → other < bound → slice_get names other ≢ Some name)
    (λ at. (at < bound) × (slice_get names at ≡ Some name) × ((other : ℕ) → at < other → other < bound → slice_get names other ≢ Some name))
