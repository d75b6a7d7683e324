use Rattle.std.proofs.Common.{arith}
use Rattle.dj_frames.specs.SlotTree.{tag_in}
use Rattle.dj_frames.proofs.SlotTags.{stand_over, stand_more}
use Rattle.dj_frames.proofs.slots.stand.Goals as goal

pub loop-place-preserved : goal.loop-place-preserved
loop-place-preserved c =
    stand_more c.args.start c.loop-place.place c.args.tags.now (tag_in c.args.depth c.args.tree.now) c.get.result.now c.index-tags-place.result c.loop-place.invariant (omega (arith, c.loop-place-test.true)) c.get.ensures.tag (c.is_surely.ensures.equal c.if-not-is_surely.false) c.index-tags-place.is

pub returns : goal.returns
returns c = record { stand = λ slot yes. stand_over c.args.start slot c.args.tags.now (tag_in c.args.depth c.args.tree.now) (λ s lt. c.loop-place.invariant s (omega (arith, lt, c.loop-place-test.false))) }
