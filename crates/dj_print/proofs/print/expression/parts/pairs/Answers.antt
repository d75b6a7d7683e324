use Rattle.dj_print.proofs.ListTexts.{pairs_more}
use Rattle.dj_print.proofs.Composing.{two}
use Rattle.dj_print.proofs.print.expression.parts.pairs.Goals as goal

pub loop-init : goal.loop-init
loop-init g c = g.met.O.Out.nothing _

pub loop-preserved : goal.loop-preserved
loop-preserved g c = two g.O.Out.prints g.met.O.Out.then c.loop.invariant c.put.ensures.prints (pairs_more c.loop.counter)
