use Rattle.dj_print.proofs.Composing.{same}
use Rattle.dj_print.proofs.PrintLemmas.{dotted_simple}
use Rattle.dj_print.proofs.print.text.simple_class.Goals as goal

pub returns : goal.returns
returns g c =
    record { prints = same g.O.Out.prints c.simple_name.ensures.prints (dotted_simple c.args.name.now c.requires.identifier) }
