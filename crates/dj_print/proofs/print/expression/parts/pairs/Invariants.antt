use Rattle.dj_syntax.specs.Items.{render}
use Rattle.dj_syntax.specs.UnitText.{pairs_items}
use Rattle.dj_print.proofs.print.expression.parts.pairs.Given as goal

abbrev pub invariant-loop : goal.invariant-loop
invariant-loop g l = g.O.Out.prints l.initial.out l.out (render (pairs_items l.counter))
