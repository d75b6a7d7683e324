use Rattle.std.proofs.Common.{rules, append_assoc}
use Rattle.std.proofs.lemmas.Grind.{flat_map-append}
use Rattle.dj_print.proofs.Composing.{four}
use Rattle.dj_print.proofs.print.method.body.Goals as goal

pub returns-in-Some : goal.returns-in-Some
returns-in-Some g c =
    record { prints = four g.O.Out.prints g.met.O.Out.then c.put-in-Some.ensures.prints c.statements.ensures.prints c.line.ensures.prints c.put-in-Some-2.ensures.prints (rw c.in-Some.is (search (rules, append_assoc, flat_map-append))) }
