use Rattle.dj_print.proofs.PrintLemmas.{modifiers_text}
use Rattle.dj_print.proofs.Composing.{ten}
use Rattle.dj_print.proofs.print.member.modifiers.Goals as goal

pub returns : goal.returns
returns g c =
    record { prints = ten g.O.Out.prints g.met.O.Out.then c.modifier.ensures.prints c.modifier-2.ensures.prints c.modifier-3.ensures.prints c.modifier-4.ensures.prints c.modifier-5.ensures.prints c.modifier-6.ensures.prints c.modifier-7.ensures.prints c.modifier-8.ensures.prints c.modifier-9.ensures.prints c.modifier-10.ensures.prints (modifiers_text c.args.bits) }
