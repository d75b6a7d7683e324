use Rattle.std.proofs.Common.{take}
use Rattle.std.specs.List.{flat_map}
use Rattle.dj_syntax.specs.Items.{render}
use Rattle.dj_syntax.specs.UnitText.{case_items}
use Rattle.dj_print.proofs.print.statement.parts.cases.Given as goal

abbrev pub invariant-loop-label : goal.invariant-loop-label
invariant-loop-label g l =
    g.O.Out.prints l.initial.out l.out (render (flat_map (case_items l.depth) (take l.label-index l.labels)))
