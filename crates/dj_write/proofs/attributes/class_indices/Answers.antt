use Rattle.std.proofs.Common.{arith}
use Rattle.dj_write.proofs.ListParts.{classes_more}
use Rattle.dj_write.proofs.attributes.class_indices.Goals as goal

pub loop-name-preserved : goal.loop-name-preserved
loop-name-preserved c =
    classes_more c.args.index.now c.args.names.now c.loop-name.name-index c.name-item.result c.loop-name.indices c.push.new.self c.class.result (omega arith) c.name-item.is c.loop-name.invariant c.class.ensures.leads c.in_ok-push.ensures.ok
