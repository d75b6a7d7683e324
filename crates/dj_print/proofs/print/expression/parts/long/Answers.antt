use Rattle.std.proofs.Common.{rules}
use Rattle.dj_print.proofs.PrintLemmas.{long_text}
use Rattle.dj_print.proofs.Composing.{two}
use Rattle.dj_print.proofs.print.expression.parts.long.Goals as goal

pub returns : goal.returns
returns g c =
    record { prints = two g.O.Out.prints g.met.O.Out.then c.integer.ensures.prints c.put.ensures.prints (search (rules, long_text)) }
