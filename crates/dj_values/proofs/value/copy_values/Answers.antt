use Rattle.std.proofs.Common.{arith}
use Rattle.dj_names.proofs.CopyLemmas.{copied_more}
use Rattle.dj_values.proofs.value.copy_values.Goals as goal

pub loop-value-preserved : goal.loop-value-preserved
loop-value-preserved c =
    copied_more c.args.values.now c.loop-value.value-index _ _ _ _ (omega arith) c.value-item.is c.loop-value.invariant c.in_ok-copy.ensures.equal c.in_ok-push.ensures.ok
