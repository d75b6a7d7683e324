use Rattle.std.proofs.Common.{take}
use Rattle.dj_names.specs.Types.{view_types}
use Rattle.dj_syntax.specs.Items.{render}
use Rattle.dj_syntax.specs.UnitText.{more_parameters}
use Rattle.dj_print.specs.Spelled.{spellings}
use Rattle.dj_print.proofs.print.method.more_parameters.Given as goal

abbrev pub invariant-loop-index : goal.invariant-loop-index
invariant-loop-index g l =
    g.O.Out.prints l.initial.out l.out (render (more_parameters (spellings l.unit) 1 (view_types (take l.index l.kinds))))
