-- What values variables had before they were declared, and how they are put back (JLS 6.3).
use Rattle.std.specs.Prelude.{List, [], ◌∷◌, Option, Some, None, option_map}
use Rattle.dj_names.specs.Types.{JType}
use Rattle.dj_syntax.specs.declared.variable.Var.{Var}
use Rattle.dj_values.specs.Views.{view_value}
use Rattle.dj_values.specs.Outcomes.{Outcome}
use Rattle.dj_meaning.specs.Runs.{Store, with_value, with_store, map_state}
use Rattle.dj_source.specs.declared.scopes.KeptValue.{KeptValue}

-- a store with the values that variables had, the last one that was kept first
abbrev pub store_back : List KeptValue → Store → Store
store_back [] store = store
store_back (one ∷ rest) store = with_value one.variable (option_map view_value one.value) (store_back rest store)

-- an outcome in which variables have the values that they had
abbrev pub back : {A : Type 0} → List KeptValue → Outcome Store A → Outcome Store A
back kept = map_state (with_store (store_back kept))

-- a store in which what is declared has the value that it had before
abbrev pub store_without : Option (Var × JType) → Store → Store → Store
store_without None before store = store
store_without (Some one) before store = with_value one.0 (before.variables one.0) store
