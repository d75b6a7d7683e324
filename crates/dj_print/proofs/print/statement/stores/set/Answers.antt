use Rattle.std.proofs.Common.{rules, append_assoc}
use Rattle.std.proofs.lemmas.Grind.{flat_map-append}
use Rattle.dj_print.proofs.Composing.{two}
use Rattle.dj_print.proofs.print.statement.stores.set.Goals as goal

pub returns : goal.returns
returns g c =
    record { prints = two g.O.Out.prints g.met.O.Out.then c.variable.ensures.prints c.stored.ensures.prints (search (rules, append_assoc, flat_map-append)) }
