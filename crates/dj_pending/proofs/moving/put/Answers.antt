use Rattle.dj_pending.proofs.ShuffleLemmas.{put_more}
use Rattle.dj_pending.proofs.moving.put.Goals as goal

pub loop-entry-preserved : goal.loop-entry-preserved
loop-entry-preserved c = put_more _ _ _ _ _ _ c.in-Some.ensures c.in_ok-push.ensures.pushed c.loop-entry.invariant
