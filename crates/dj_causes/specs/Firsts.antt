-- Which item is the first, and which cause.
use Rattle.std.specs.Prelude.{◌≡◌, ◌≢◌, ◌⊎◌, ℕ, ◌≤◌, List, [], ◌∷◌, Option, MatchOption}
use Rattle.std.specs.declared.cmp.Ordering.TheVariants.{Less}
use Rattle.std.specs.Ordering.{nat_cmp}
use Rattle.std.specs.Cmp.Lexicographic.{slice_cmp}
use Rattle.dj_names.specs.Headers.{Name}

-- the first item of which this holds
abbrev pub IsFirstWith : {A : Type 0} → (A → Type 0) → List A → A → Type 0
IsFirstWith P [] found = ⊥
IsFirstWith P (item ∷ items) found = (P item × (found ≡ item)) ⊎ (¬ P item × IsFirstWith P items found)

-- of the names of which this holds, the one that comes before each other in the order of units
pub record IsLeastName (P : Name → Type 0) (name : Name) : Type 0 where
  pub holds : P name
  pub least : (other : Name) → P other → slice_cmp nat_cmp other name ≢ Less

-- of the causes that hold, the one of the least number
pub record IsLeastCause {C : Type 0} (number : C → ℕ) (Holds : C → Type 0) (cause : C) : Type 0 where
  pub holds : Holds cause
  pub least : (other : C) → Holds other → number cause ≤ number other

-- the cause of the least number, or that none holds
abbrev pub IsFirstCause : {C : Type 0} → (C → ℕ) → (C → Type 0) → Option C → Type 0
IsFirstCause {C} number Holds found = MatchOption found ((cause : C) → ¬ Holds cause) (IsLeastCause number Holds)
