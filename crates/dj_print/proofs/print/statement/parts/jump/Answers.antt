use Rattle.std.proofs.Common.{refl}
use Rattle.dj_print.proofs.Composing.{three}
use Rattle.dj_print.proofs.print.statement.parts.jump.Goals as goal

pub returns : goal.returns
returns g c =
    record { prints = three g.O.Out.prints g.met.O.Out.then c.put.ensures.prints c.label.ensures.prints c.put-2.ensures.prints (refl) }
