use Rattle.std.proofs.Common.{refl}
use Rattle.dj_print.proofs.Composing.{three}
use Rattle.dj_print.proofs.print.expression.parts.operator.Goals as goal

pub returns : goal.returns
returns g c =
    record { prints = three g.O.Out.prints g.met.O.Out.then c.put.ensures.prints c.put-2.ensures.prints c.put-3.ensures.prints (rw c.spelling.ensures.spelled refl) }
