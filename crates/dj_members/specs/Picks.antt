-- Which places of a name are picked.
use Rattle.std.specs.Prelude.{◌≡◌, ℕ, ◌<◌, List, Option, Some, MatchOption, slice_get}
use Rattle.dj_names.specs.Headers.{Name}

-- the first place that is picked
pub record IsFirstPick (Picked : ℕ → Type 0) (at : ℕ) : Type 0 where
  pub picked : Picked at
  pub first : (earlier : ℕ) → earlier < at → ¬ Picked earlier

-- the first place that is picked, or that none is
abbrev pub PicksFirst : (ℕ → Type 0) → Option ℕ → Type 0
PicksFirst Picked found = MatchOption found ((at : ℕ) → ¬ Picked at) (IsFirstPick Picked)

-- a place of the name is picked
pub record IsPickedAt (names : List Name) (name : Name) (Picked : ℕ → Type 0) : Type 0 where
  pub at : ℕ
  pub named : slice_get names at ≡ Some name
  pub picked : Picked at
