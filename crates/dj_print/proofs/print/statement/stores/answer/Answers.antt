use Rattle.std.proofs.Common.{rules, append_assoc}
use Rattle.std.proofs.lemmas.Grind.{flat_map-append}
use Rattle.dj_print.proofs.Composing.{two}
use Rattle.dj_print.proofs.print.statement.stores.answer.Goals as goal

pub returns-in-Some : goal.returns-in-Some
returns-in-Some g c =
    record { prints = two g.O.Out.prints g.met.O.Out.then c.put-in-Some.ensures.prints c.run.ensures.prints (rw c.in-Some.is (search (rules, append_assoc, flat_map-append))) }
