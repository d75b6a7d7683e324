-- How the program's scope is seen as that of the definition.
use Rattle.std.specs.Prelude.{ℕ, None, option_map, if◌then◌else◌}
use Rattle.std.specs.Ordering.{nat_cmp}
use Rattle.std.specs.BTreeMap.{BTreeMap, get}
use Rattle.dj_names.specs.declared.types.JType as code
use Rattle.dj_names.specs.Types.{view_type}
use Rattle.dj_syntax.specs.declared.variable.Var.{Var}
use Rattle.dj_syntax.specs.declared.variable.VarKind.{VarKind}
use Rattle.dj_syntax.specs.declared.variable.VarKind.TheVariants as kind
use Rattle.dj_meaning.specs.StaticTypes as types
use Rattle.dj_static.specs.declared.scope.Scope.{Scope}

-- the types of the variables of a kind
abbrev pub table_of : VarKind → Scope → BTreeMap ℕ code.JType
table_of kind.Param scope = scope.parameters
table_of kind.Local scope = scope.locals
table_of kind.Caught scope = scope.caught
table_of kind.State scope = scope.states

-- the type of each variable
abbrev pub scope_of : Scope → types.Scope
scope_of scope variable = option_map view_type (get nat_cmp (table_of variable.kind scope) variable.number)

-- a scope without a variable
abbrev pub without : Var → types.Scope → types.Scope
without variable scope other = if types.is_same_variable other variable then None else scope other
