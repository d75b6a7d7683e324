use Rattle.std.proofs.Common.{◌≡◌, refl, arith}
use Rattle.dj_print.proofs.PrintLemmas.{indented_more}
use Rattle.dj_print.proofs.Composing.{two}
use Rattle.dj_print.proofs.print.text.line.Goals as goal

pub loop-init : goal.loop-init
loop-init g c = g.met.O.Out.nothing _

pub loop-preserved : goal.loop-preserved
loop-preserved g c = two g.O.Out.prints g.met.O.Out.then c.loop.invariant c.put-in-loop.ensures.prints (indented_more c.loop.counter)

pub returns : goal.returns
returns g c =
    let whole : c.loop.counter ≡ c.args.depth = omega arith in
    record { prints = two g.O.Out.prints g.met.O.Out.then c.put.ensures.prints c.loop.invariant (rw whole refl) }
