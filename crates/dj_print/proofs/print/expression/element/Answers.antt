use Rattle.dj_syntax.specs.Trees.{view_exp}
use Rattle.dj_print.specs.Spelled.{spellings}
use Rattle.dj_print.proofs.TreeTexts.{element_text}
use Rattle.dj_print.proofs.Composing.{four}
use Rattle.dj_print.proofs.print.expression.element.Goals as goal

pub returns : goal.returns
returns g c =
    record { prints = four g.O.Out.prints g.met.O.Out.then c.operand.ensures.prints c.put.ensures.prints c.expression.ensures.prints c.put-2.ensures.prints (element_text (spellings c.args.unit.now) (view_exp c.args.array.now) (view_exp c.args.index.now)) }
