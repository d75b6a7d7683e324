use Rattle.std.proofs.Common.{arith}
use Rattle.dj_names.proofs.CopyLemmas.{copied_more}
use Rattle.dj_values.proofs.show.Show.copy.Goals as goal

pub loop-action-preserved : goal.loop-action-preserved
loop-action-preserved c =
    copied_more c.as_slice-action-items.result.now c.loop-action.action-index _ _ _ _ (omega arith) c.action-item.is c.loop-action.invariant c.in_ok-copy.ensures.equal c.in_ok-push.ensures.ok
