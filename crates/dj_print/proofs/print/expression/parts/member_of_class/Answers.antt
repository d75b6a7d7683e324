use Rattle.std.proofs.Common.{refl}
use Rattle.dj_print.proofs.Composing.{two}
use Rattle.dj_print.proofs.print.expression.parts.member_of_class.Goals as goal

pub returns : goal.returns
returns g c =
    record { prints = two g.O.Out.prints g.met.O.Out.then c.said_name.ensures.prints c.member.ensures.prints (refl) }
