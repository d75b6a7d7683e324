use Rattle.std.proofs.Common.{rules, append_assoc}
use Rattle.std.proofs.lemmas.Grind.{flat_map-append}
use Rattle.dj_print.proofs.Composing.{three}
use Rattle.dj_print.proofs.print.statement.stores.construct.Goals as goal

pub returns : goal.returns
returns g c =
    record { prints = three g.O.Out.prints g.met.O.Out.then c.put.ensures.prints c.arguments.ensures.prints c.put-2.ensures.prints (rw c.constructor_word.ensures.word (search (rules, append_assoc, flat_map-append))) }
