use Rattle.std.proofs.Common.{refl}
use Rattle.dj_print.proofs.Composing.{five}
use Rattle.dj_print.proofs.print.statement.parts.caught.Goals as goal

pub returns : goal.returns
returns g c =
    record { prints = five g.O.Out.prints g.met.O.Out.then c.put.ensures.prints c.class_name.ensures.prints c.put-2.ensures.prints c.variable.ensures.prints c.put-3.ensures.prints (refl) }
