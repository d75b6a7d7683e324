-- Definite assignment under other names (JLS 16).
use Rattle.std.specs.Prelude.{◌≡◌, ℕ}
use Rattle.dj_syntax.specs.declared.variable.Var.{Var}
use Rattle.dj_syntax.specs.Trees.{Stms}
use Rattle.dj_places.specs.Constants.{Surroundings}
use Rattle.dj_variables.specs.Sets.{Set}
use Rattle.dj_assigned.specs.Assigned.{list_reads}
use Rattle.dj_renaming.specs.Renaming.{Names, AreApart, all_renamed}

-- each variable is in the first set where it is, by its other name, in the second
pub record AreSetsAlike (names : Names) (first second : Set) : Type 0 where
  pub same : (variable : Var) → first variable ≡ second (names.variable variable)

-- the rules of definite assignment are the same
abbrev pub RenamedReads : Type 0
RenamedReads =
    (names : Names) → AreApart names → (around : Surroundings) (first second : Set) → AreSetsAlike names first second → (place : ℕ) (list : Stms)
    → list_reads around first place list ≡ list_reads around second place (all_renamed names list)
