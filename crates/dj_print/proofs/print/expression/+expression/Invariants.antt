use Rattle.std.proofs.Common.{take}
use Rattle.std.specs.List.{flat_map}
use Rattle.dj_syntax.specs.Items.{render}
use Rattle.dj_syntax.specs.Trees.{view_exps}
use Rattle.dj_syntax.specs.UnitText.{arguments_items}
use Rattle.dj_print.specs.Spelled.{spellings}
use Rattle.dj_print.proofs.ListTexts.{size_items}
use Rattle.dj_print.proofs.print.expression.+expression.Given as goal

abbrev pub invariant-argument_list-loop-index : goal.invariant-argument_list-loop-index
invariant-argument_list-loop-index g l =
    g.O.Out.prints l.initial.out l.out (render (arguments_items (spellings l.unit) (view_exps (take l.index l.list))))

abbrev pub invariant-sizes-loop-exp : goal.invariant-sizes-loop-exp
invariant-sizes-loop-exp g l =
    g.O.Out.prints l.initial.out l.out (render (flat_map (size_items (spellings l.unit)) (take l.exp-index l.list)))
