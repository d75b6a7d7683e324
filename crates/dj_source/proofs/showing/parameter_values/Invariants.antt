use Rattle.std.proofs.Common.{◌≡◌, ◌<◌, ◌^◌, length, take}
use Rattle.dj_syntax.specs.declared.variable.Var.{Var}
use Rattle.dj_values.specs.Views.{view_values}
use Rattle.dj_meaning.specs.Meaning.{of_parameter}
use Rattle.dj_objects.specs.Runs.{values_of}
use Rattle.dj_source.proofs.showing.parameter_values.Given as goal

abbrev pub invariant-loop-argument : goal.invariant-loop-argument
invariant-loop-argument l = length l.arguments < 2 ^ 32 → (l.number ≡ l.argument-index) × ((variable : Var) → values_of l.values variable ≡ of_parameter (view_values (take l.argument-index l.arguments)) variable)
