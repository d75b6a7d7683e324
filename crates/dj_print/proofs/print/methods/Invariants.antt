use Rattle.std.proofs.Common.{take}
use Rattle.std.specs.List.{flat_map}
use Rattle.dj_syntax.specs.Items.{render}
use Rattle.dj_syntax.specs.Trees.{view_method}
use Rattle.dj_syntax.specs.UnitText.{method_items}
use Rattle.dj_print.specs.Spelled.{spellings}
use Rattle.dj_print.proofs.print.methods.Given as goal

abbrev pub invariant-loop-one : goal.invariant-loop-one
invariant-loop-one g l =
    g.O.Out.prints l.initial.out l.out (render (flat_map (λ one. method_items (spellings l.unit) l.interface (view_method one)) (take l.one-index l.methods)))
