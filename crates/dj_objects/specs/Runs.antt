-- How what a run knows and has is seen as in the definition.
use Rattle.std.specs.Prelude.{ℕ, map, reverse, Option, option_map}
use Rattle.std.specs.Option.{option_copied}
use Rattle.std.specs.Ordering.{nat_cmp}
use Rattle.std.specs.BTreeMap.{BTreeMap, get}
use Rattle.dj_names.specs.Types.{view_type}
use Rattle.dj_syntax.specs.declared.variable.Var.{Var}
use Rattle.dj_syntax.specs.declared.variable.VarKind.{VarKind}
use Rattle.dj_syntax.specs.declared.variable.VarKind.TheVariants as kind
use Rattle.dj_values.specs.declared.value.Value as code_value
use Rattle.dj_values.specs.Values.{Value}
use Rattle.dj_values.specs.Views.{view_value, view_reference}
use Rattle.dj_values.specs.Outcomes.{State}
use Rattle.dj_meaning.specs.Members.{view_members}
use Rattle.dj_meaning.specs.StaticTypes.{Context}
use Rattle.dj_meaning.specs.Runs.{Store}
use Rattle.dj_outside.specs.Runs.{world_of, state_of}
use Rattle.dj_names.specs.declared.types.JType as code_type
use Rattle.dj_static.specs.declared.fields.Selection as code_selection
use Rattle.dj_static.specs.Views.{view_selection}
use Rattle.dj_meaning.specs.Fields.{Selection}
use Rattle.dj_objects.specs.declared.values.Values.{Values}
use Rattle.dj_objects.specs.declared.run.Method.{Method}
use Rattle.dj_objects.specs.declared.run.Run.{Run}

-- the values of the variables of a kind
abbrev pub table_of : VarKind → Values → BTreeMap ℕ code_value.Value
table_of kind.Param values = values.parameters
table_of kind.Local values = values.locals
table_of kind.Caught values = values.caught
table_of kind.State values = values.states

-- the value of each variable that has one
abbrev pub values_of : Values → Var → Option Value
values_of values variable = option_map view_value (get nat_cmp (table_of variable.kind values) variable.number)

-- what a run of a body knows
abbrev pub context_of : Method → Context
context_of method = record {
  headers = method.classes.headers.now;
  members = map view_members method.classes.members.now;
  class = method.classes.from.now;
  result = option_map view_type (option_copied method.result);
  this = option_map view_value (option_copied method.this);
  constructs = method.constructs;
}

-- what a run changes: the monitors that it holds stand with the innermost last
abbrev pub store_of : Run → Store
store_of run = record { variables = values_of run.values; held = map view_reference (reverse run.held) }

-- the state of a run
abbrev pub run_state : Run → State Store
run_state run = state_of (store_of run) (world_of run.outside)

-- what a name selects, with the type through which it does
abbrev pub view_selected : code_type.JType × code_selection.Selection → Selection
view_selected found = view_selection (view_type found.0) found.1
