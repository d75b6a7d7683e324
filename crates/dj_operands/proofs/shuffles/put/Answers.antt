use Rattle.dj_operands.proofs.Moving.{put_more}
use Rattle.dj_operands.proofs.shuffles.put.Goals as goal

pub loop-value-preserved : goal.loop-value-preserved
loop-value-preserved c = put_more _ _ _ _ _ _ c.in-Some.ensures c.in_ok-push.ensures.pushed c.loop-value.invariant
