use Rattle.dj_pending.proofs.Lists.{turned-over}
use Rattle.dj_pending.proofs.built.top_first.Goals as goal

pub loop-entry-preserved : goal.loop-entry-preserved
loop-entry-preserved c = turned-over _ _ _ _ _ _ c.in-Some.ensures.popped c.in_ok-push.ensures.ok c.loop-entry.invariant
