use Rattle.std.proofs.Common.{refl}
use Rattle.dj_print.proofs.Composing.{two}
use Rattle.dj_print.proofs.print.text.variable.Goals as goal

pub returns : goal.returns
returns g c =
    record { prints = two g.O.Out.prints g.met.O.Out.then c.put.ensures.prints c.number.ensures.prints (rw c.letter.ensures.letter refl) }
