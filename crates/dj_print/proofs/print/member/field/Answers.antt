use Rattle.std.proofs.Common.{rules, append_assoc}
use Rattle.std.proofs.lemmas.Grind.{flat_map-append}
use Rattle.dj_print.proofs.Composing.{six}
use Rattle.dj_print.proofs.print.member.field.Goals as goal

pub returns : goal.returns
returns g c =
    record { prints = six g.O.Out.prints g.met.O.Out.then c.line.ensures.prints c.modifiers.ensures.prints c.type_name.ensures.prints c.put.ensures.prints c.simple_name.ensures.prints c.first_value.ensures.prints (search (rules, append_assoc, flat_map-append)) }
