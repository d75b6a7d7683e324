-- What a search has found, or that there is nothing.
use Rattle.std.specs.Prelude.{List, [], ◌∷◌, Option, MatchOption}
use Rattle.dj_names.specs.Headers.{Name}
use Rattle.dj_kinds.specs.Search.{IsFirstIn}

-- none of these classes has such a member itself
abbrev pub NoneIn : {A : Type 0} → (Name → A → Type 0) → List Name → Type 0
NoneIn Own [] = Unit {0}
NoneIn {A} Own (class ∷ classes) = ((member : A) → ¬ Own class member) × NoneIn Own classes

-- the first of these classes that has such a member, or that none has
abbrev pub Finds : {A : Type 0} → (Name → A → Type 0) → List Name → Option A → Type 0
Finds Own classes found = MatchOption found (NoneIn Own classes) (IsFirstIn Own classes)
