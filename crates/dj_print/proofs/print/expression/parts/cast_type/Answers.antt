use Rattle.std.proofs.Common.{rules, append_assoc}
use Rattle.std.proofs.lemmas.Grind.{flat_map-append}
use Rattle.dj_print.proofs.Composing.{three}
use Rattle.dj_print.proofs.print.expression.parts.cast_type.Goals as goal

pub returns : goal.returns
returns g c =
    record { prints = three g.O.Out.prints g.met.O.Out.then c.put.ensures.prints c.type_name.ensures.prints c.put-2.ensures.prints (search (rules, append_assoc, flat_map-append)) }
