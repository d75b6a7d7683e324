use Rattle.std.proofs.Common.{refl}
use Rattle.dj_print.proofs.Composing.{two}
use Rattle.dj_print.proofs.print.expression.parts.member.Goals as goal

pub returns : goal.returns
returns g c =
    record { prints = two g.O.Out.prints g.met.O.Out.then c.put.ensures.prints c.simple_name.ensures.prints (refl) }
