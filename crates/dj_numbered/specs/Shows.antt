-- Runs under other names: they show the same (JLS 6.2, 14.7).
use Rattle.std.specs.Prelude.{◌≡◌, ℕ}
use Rattle.dj_syntax.specs.declared.variable.Var.{Var}
use Rattle.dj_syntax.specs.Trees.{Stms}
use Rattle.dj_values.specs.Outcomes.{State, bind, shown}
use Rattle.dj_meaning.specs.StaticTypes.{Context, Scope}
use Rattle.dj_meaning.specs.Runs.{Store}
use Rattle.dj_meaning.specs.Meaning.{run_statements, ended}
use Rattle.dj_renaming.specs.Renaming.{Names, AreApart, all_renamed, AreScopesAlike}

-- each variable has in the first state what it has, by its other name, in the second; nothing else differs
pub record AreStatesAlike (names : Names) (first second : State Store) : Type 0 where
  pub variables : (variable : Var) → first.store.variables variable ≡ second.store.variables (names.variable variable)
  pub held : first.store.held ≡ second.store.held
  pub world : first.world ≡ second.world

-- from two such states the same is shown at the same bound
abbrev pub RenamedShows : Type 0
RenamedShows =
    (names : Names) → AreApart names → (context : Context) (first second : Scope) → AreScopesAlike names first second → (bound : ℕ) (list : Stms)
    → (state other : State Store) → AreStatesAlike names state other
    → shown (bind (run_statements context first bound list state) (ended context.result)) ≡ shown (bind (run_statements context second bound (all_renamed names list) other) (ended context.result))
