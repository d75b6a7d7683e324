use Rattle.std.proofs.Common.{refl}
use Rattle.dj_print.proofs.Composing.{two}
use Rattle.dj_print.proofs.print.expression.parts.new_class.Goals as goal

pub returns : goal.returns
returns g c =
    record { prints = two g.O.Out.prints g.met.O.Out.then c.put.ensures.prints c.class_name.ensures.prints (refl) }
