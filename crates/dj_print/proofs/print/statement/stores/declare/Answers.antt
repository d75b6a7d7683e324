use Rattle.std.proofs.Common.{rules, append_assoc}
use Rattle.std.proofs.lemmas.Grind.{flat_map-append}
use Rattle.dj_print.proofs.Composing.{four}
use Rattle.dj_print.proofs.print.statement.stores.declare.Goals as goal

pub returns : goal.returns
returns g c =
    record { prints = four g.O.Out.prints g.met.O.Out.then c.type_name.ensures.prints c.put.ensures.prints c.variable.ensures.prints c.first_value.ensures.prints (search (rules, append_assoc, flat_map-append)) }
