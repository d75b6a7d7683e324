use Rattle.std.proofs.Common.{◌≡◌, ◌++◌, length, map}
use Rattle.dj_names.specs.Types.{view_type}
use Rattle.dj_vars.specs.Parameters.{slots_from}
use Rattle.dj_code_variables.specs.Views.{view_vars}
use Rattle.dj_decompile.proofs.entry.holders.Given as goal

abbrev pub invariant-loop-left : goal.invariant-loop-left
invariant-loop-left l = l.found ++ map ((view_vars l.fn.vars).of 0) (slots_from l.slot (map view_type l.left)) ≡ map ((view_vars l.fn.vars).of 0) (slots_from l.fn.first (map view_type l.fn.parameters))

abbrev pub decreases-loop-left : goal.decreases-loop-left
decreases-loop-left l = length l.left
