use Rattle.dj_print.specs.Spelled.{spellings}
use Rattle.dj_print.proofs.PrintLemmas.{rethrow_text}
use Rattle.dj_print.proofs.Composing.{seven}
use Rattle.dj_print.proofs.print.statement.parts.rethrow.Goals as goal

pub returns : goal.returns
returns g c =
    record { prints = seven g.O.Out.prints g.met.O.Out.then c.put.ensures.prints c.own_name.ensures.prints c.put-2.ensures.prints c.helper_name.ensures.prints c.put-3.ensures.prints c.variable.ensures.prints c.put-4.ensures.prints (rethrow_text (spellings c.args.unit.now) c.args.thrown) }
