use Rattle.std.proofs.Common.{rules, append_assoc}
use Rattle.std.proofs.lemmas.Grind.{flat_map-append}
use Rattle.dj_print.proofs.Composing.{seven}
use Rattle.dj_print.proofs.print.head.Goals as goal

pub returns : goal.returns
returns g c =
    record { prints = seven g.O.Out.prints g.met.O.Out.then c.modifiers.ensures.prints c.put.ensures.prints c.put-2.ensures.prints c.simple_name.ensures.prints c.superclass.ensures.prints c.class_list.ensures.prints c.put-3.ensures.prints (rw (c.class_word.ensures.word, c.list_word.ensures.word) (search (rules, append_assoc, flat_map-append))) }
