use Rattle.std.proofs.Common.{rules, append_assoc}
use Rattle.std.proofs.lemmas.Grind.{flat_map-append}
use Rattle.dj_print.proofs.Composing.{seven}
use Rattle.dj_print.proofs.print.method.head.Goals as goal

pub returns : goal.returns
returns g c =
    record { prints = seven g.O.Out.prints g.met.O.Out.then c.modifiers.ensures.prints c.default_word.ensures.prints c.result_and_name.ensures.prints c.put.ensures.prints c.parameters.ensures.prints c.put-2.ensures.prints c.class_list.ensures.prints (search (rules, append_assoc, flat_map-append)) }
