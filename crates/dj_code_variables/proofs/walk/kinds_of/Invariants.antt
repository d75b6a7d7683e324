use Rattle.std.proofs.Common.{◌≡◌, map, take}
use Rattle.dj_names.specs.Types.{view_type}
use Rattle.dj_code_variables.specs.Views.{kinds_of}
use Rattle.dj_code_variables.proofs.walk.kinds_of.Given as goal

abbrev pub invariant-loop-variable : goal.invariant-loop-variable
invariant-loop-variable l = map view_type l.kinds ≡ kinds_of (take l.variable-index l.variables)
