use Rattle.dj_names.specs.Headers.{Name}
use Rattle.std.proofs.Common.{◌≡◌}
use Rattle.dj_world.proofs.LearningLemmas.{learns_added, some_learned}
use Rattle.dj_world.proofs.named.learn.Goals as goal

pub returns : goal.returns
returns c =
    let learned = learns_added c.args.names.now c.insert.new.self c.in_ok-copy.field-0 c.args.name.now c.in_ok-copy.ensures.equal c.in_ok-insert.ensures.updates in
    record { learns = learned; some = some_learned c.args.names.now c.insert.new.self (λ (other : Name). c.args.name.now ≡ other) learned }
