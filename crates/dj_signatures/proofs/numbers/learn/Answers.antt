use Rattle.std.proofs.Common.{refl}
use Rattle.dj_signatures.proofs.NumberLemmas.{learned}
use Rattle.dj_signatures.proofs.numbers.learn.Goals as goal

pub returns-in_ok-insert-in-None-clause-extends : goal.returns-in_ok-insert-in-None-clause-extends
returns-in_ok-insert-in-None-clause-extends c =
    let e = c.in_ok-insert-in-None.ensures in
    (learned c.args.numbers.now c.insert.new.self c.args.text c.args.text c.len-at.result c.in_ok-insert-in-None.field-0 refl c.len-at.ensures.len c.in-None.ensures.place e.old e.updates e.len).0

pub returns-in_ok-insert-in-None-clause-index : goal.returns-in_ok-insert-in-None-clause-index
returns-in_ok-insert-in-None-clause-index c =
    let e = c.in_ok-insert-in-None.ensures in
    (learned c.args.numbers.now c.insert.new.self c.args.text c.args.text c.len-at.result c.in_ok-insert-in-None.field-0 refl c.len-at.ensures.len c.in-None.ensures.place e.old e.updates e.len).1
