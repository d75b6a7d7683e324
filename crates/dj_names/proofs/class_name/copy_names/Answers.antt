use Rattle.std.proofs.Common.{arith}
use Rattle.dj_names.proofs.CopyLemmas.{copied_more}
use Rattle.dj_names.proofs.class_name.copy_names.Goals as goal

pub loop-name-preserved : goal.loop-name-preserved
loop-name-preserved c =
    copied_more c.args.names.now c.loop-name.name-index _ _ _ _ (omega arith) c.name-item.is c.loop-name.invariant c.in_ok-copy.ensures.equal c.in_ok-push.ensures.ok
