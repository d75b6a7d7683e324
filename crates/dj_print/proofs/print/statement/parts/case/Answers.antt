use Rattle.std.proofs.Common.{rules, append_assoc}
use Rattle.std.proofs.lemmas.Grind.{flat_map-append}
use Rattle.dj_print.proofs.Composing.{four, two}
use Rattle.dj_print.proofs.print.statement.parts.case.Goals as goal

pub returns-in-None : goal.returns-in-None
returns-in-None g c =
    record { prints = two g.O.Out.prints g.met.O.Out.then c.line.ensures.prints c.put.ensures.prints (rw c.in-None.is (search (rules, append_assoc, flat_map-append))) }

pub returns-in-Some : goal.returns-in-Some
returns-in-Some g c =
    record { prints = four g.O.Out.prints g.met.O.Out.then c.line-in-Some.ensures.prints c.put-in-Some.ensures.prints c.int.ensures.prints c.put-in-Some-2.ensures.prints (rw c.in-Some.is (search (rules, append_assoc, flat_map-append))) }
