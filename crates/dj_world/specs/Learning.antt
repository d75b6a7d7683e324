-- What the functions that gather names promise each other.
use Rattle.std.specs.Prelude.{◌⊎◌, ◌↔◌, IsTrue}
use Rattle.std.specs.Ordering.{nat_cmp}
use Rattle.std.specs.Cmp.Lexicographic.{slice_cmp}
use Rattle.std.specs.BTreeSet as set
use Rattle.std.specs.BTreeSet.{BTreeSet}
use Rattle.dj_names.specs.Headers.{Name}

-- a set has a name
abbrev pub Has : BTreeSet Name → Name → Type 0
Has names name = IsTrue (set.contains (slice_cmp nat_cmp) names name)

-- the new set has the names of the old one and those of which this holds
pub record Learns (old new : BTreeSet Name) (P : Name → Type 0) : Type 0 where
  pub each : (name : Name) → Has new name ↔ (Has old name ⊎ P name)

-- the new set has the names of the old one, and no others but such of which this holds
pub record LearnsSome (old new : BTreeSet Name) (P : Name → Type 0) : Type 0 where
  pub kept : (name : Name) → Has old name → Has new name
  pub only : (name : Name) → Has new name → Has old name ⊎ P name
