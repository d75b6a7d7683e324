use Rattle.std.proofs.Common.{rules, append_assoc}
use Rattle.std.proofs.lemmas.Grind.{flat_map-append}
use Rattle.dj_print.proofs.Composing.{six}
use Rattle.dj_print.proofs.print.whole_unit.Goals as goal

pub returns : goal.returns
returns g c =
    record { prints = six g.O.Out.prints g.met.O.Out.then c.package_line.ensures.prints c.head.ensures.prints c.members.ensures.prints c.line.ensures.prints c.put.ensures.prints c.line-2.ensures.prints (search (rules, append_assoc, flat_map-append)) }
