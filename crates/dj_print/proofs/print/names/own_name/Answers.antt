use Rattle.dj_print.proofs.PrintLemmas.{dotted_joined}
use Rattle.dj_print.proofs.Composing.{three}
use Rattle.dj_print.proofs.print.names.own_name.Goals as goal

pub returns-in-Some : goal.returns-in-Some
returns-in-Some g c =
    record { prints = three g.O.Out.prints g.met.O.Out.then c.full_name.ensures.prints c.put.ensures.prints c.simple_class-in-Some.ensures.prints (rw (c.in-Some.is, c.as_slice.ensures.units) (dotted_joined c.in-Some.package c.args.unit.now.name)) }
