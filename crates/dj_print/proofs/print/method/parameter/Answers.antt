use Rattle.std.proofs.Common.{refl}
use Rattle.dj_print.proofs.Composing.{three}
use Rattle.dj_print.proofs.print.method.parameter.Goals as goal

pub returns : goal.returns
returns g c =
    record { prints = three g.O.Out.prints g.met.O.Out.then c.type_name.ensures.prints c.put.ensures.prints c.number.ensures.prints (refl) }
