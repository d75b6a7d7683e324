use Rattle.std.proofs.Common.{add-one}
use Rattle.dj_pending.specs.Stacks.{stacked}
use Rattle.dj_pending.proofs.ShuffleLemmas.{copied_more}
use Rattle.dj_pending.proofs.moving.copies.Goals as goal

pub loop-place-preserved : goal.loop-place-preserved
loop-place-preserved c =
    rw (add-one, c.in_ok-push.ensures.ok) (copied_more c.args.places.now (stacked c.args.stack.now) c.loop-place.copies c.loop-place.place-index 0 _ c.loop-place-test.true c.loop-place.invariant c.in_ok-copied.ensures.copied)
