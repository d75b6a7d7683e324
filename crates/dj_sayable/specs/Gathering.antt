-- What the functions that gather names promise each other.
use Rattle.std.specs.Prelude.{◌≡◌, ◌≢◌, ◌⊎◌, ◌↔◌, ℕ, ◌≤◌, IsTrue, List, [], ◌∷◌, ◌++◌, length, take, Contains, AllPairs}
use Rattle.std.specs.Option.{option_to_list}
use Rattle.std.specs.Ordering.{nat_cmp}
use Rattle.std.specs.Cmp.Lexicographic.{slice_cmp}
use Rattle.std.specs.BTreeSet.{BTreeSet, contains}
use Rattle.dj_names.specs.declared.header.Header.{Header}
use Rattle.dj_names.specs.Headers.{Name, HasParent}
use Rattle.dj_sayable.specs.Above.{IsAtOrAbove}

-- the set has just these names
pub record HasJust (known : BTreeSet Name) (names : List Name) : Type 0 where
  pub each : (name : Name) → IsTrue (contains (slice_cmp nat_cmp) known name) ↔ Contains names name

-- the new names are the old ones and those of which this holds
pub record Gains (old new : List Name) (P : Name → Type 0) : Type 0 where
  pub each : (name : Name) → Contains new name ↔ (Contains old name ⊎ P name)

-- the new names begin with the old ones, and no two are equal where none were
pub record Continues (old new : List Name) : Type 0 where
  pub begins : (n : ℕ) → n ≤ length old → take n new ≡ take n old
  pub longer : length old ≤ length new
  pub distinct : AllPairs (λ first second. first ≢ second) old → AllPairs (λ first second. first ≢ second) new

-- the names that a header has as its superclass and among its interfaces
abbrev pub parents_in : Header → List Name
parents_in header = option_to_list header.superclass ++ header.interfaces

-- the names that headers have so
abbrev pub mentioned : List Header → List Name
mentioned [] = []
mentioned (header ∷ headers) = parents_in header ++ mentioned headers

-- names from some classes upward: the parents of the first so many are among them
pub record Climbs (headers : List Header) (classes : List Name) (at : ℕ) (names : List Name) : Type 0 where
  pub distinct : AllPairs (λ first second. first ≢ second) names
  pub roots : (name : Name) → Contains classes name → Contains names name
  pub sound : (name : Name) → Contains names name → IsAtOrAbove headers (Contains classes) name
  pub closed : (lower upper : Name) → Contains (take at names) lower → HasParent headers lower upper → Contains names upper
  pub within : (name : Name) → Contains names name → Contains (classes ++ mentioned headers) name
