-- What is thrown and caught under other names (JLS 11.2).
use Rattle.std.specs.Prelude.{◌≡◌, ℕ, List}
use Rattle.dj_syntax.specs.declared.variable.Var.{Var}
use Rattle.dj_syntax.specs.Trees.{Stms}
use Rattle.dj_meaning.specs.StaticTypes.{Scope}
use Rattle.dj_thrown.specs.declared.throwing.Held.{Held}
use Rattle.dj_thrown.specs.Settings.{Setting}
use Rattle.dj_thrown.specs.Throws.{classes_in, list_throws}
use Rattle.dj_thrown.specs.Catching.{list_catching}
use Rattle.dj_renaming.specs.Renaming.{Names, AreApart, all_renamed, AreScopesAlike}

-- each catch variable holds by the first list what it holds, by its other name, by the second
pub record AreHeldAlike (names : Names) (first second : List Held) : Type 0 where
  pub same : (variable : Var) → classes_in first variable ≡ classes_in second (names.variable variable)

-- the same is thrown
abbrev pub RenamedThrows : Type 0
RenamedThrows =
    (names : Names) → AreApart names → (setting : Setting) (held other : List Held) → AreHeldAlike names held other
    → (first second : Scope) → AreScopesAlike names first second → (place : ℕ) (list : Stms)
    → list_throws setting held first place list ≡ list_throws setting other second place (all_renamed names list)

-- and the rules on catch clauses are the same
abbrev pub RenamedCatching : Type 0
RenamedCatching =
    (names : Names) → AreApart names → (setting : Setting) (held other : List Held) → AreHeldAlike names held other
    → (first second : Scope) → AreScopesAlike names first second → (place : ℕ) (list : Stms)
    → list_catching setting held first place list ≡ list_catching setting other second place (all_renamed names list)
