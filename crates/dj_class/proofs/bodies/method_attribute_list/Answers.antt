use Rattle.std.proofs.Common.{refl}
use Rattle.std.specs.Option.{option_copied}
use Rattle.dj_class.specs.FileFormat.{lawful_in_method}
use Rattle.dj_class.specs.FileParts.{HasFound}
use Rattle.dj_class.proofs.AttributesInTurn.{turn_more}
use Rattle.dj_class.proofs.bodies.method_attribute_list.Goals as goal

pub loop-preserved : goal.loop-preserved
loop-preserved c =
    turn_more (lawful_in_method c.args.pool.now) (HasFound c.args.pool.now) c.args.count c.loop.counter c.args.bytes.now c.loop.rest.now c.in_ok-now.after.now (option_copied c.loop.found.code, c.loop.found.thrown)
    (option_copied c.in_ok-now.now.code, c.in_ok-now.now.thrown) (λ before x. refl) c.loop.invariant c.loop-test.true (c.in_ok-now.ensures.reads c.loop.invariant.items c.loop.invariant.means)
