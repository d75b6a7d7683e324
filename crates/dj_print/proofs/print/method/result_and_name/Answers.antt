use Rattle.std.proofs.Common.{rules, append_assoc}
use Rattle.std.proofs.lemmas.Grind.{flat_map-append}
use Rattle.std.proofs.Common.{sym, ◌∙◌}
use Rattle.dj_print.proofs.Composing.{three}
use Rattle.dj_print.proofs.print.method.result_and_name.Goals as goal

pub returns-else-is_constructor : goal.returns-else-is_constructor
returns-else-is_constructor g c =
    let e = sym c.is_constructor.ensures.constructor ∙ c.if-is_constructor.false in record { prints = three g.O.Out.prints g.met.O.Out.then c.result_type.ensures.prints c.put.ensures.prints c.simple_name-else-is_constructor.ensures.prints (rw e (search (rules, append_assoc, flat_map-append))) }
