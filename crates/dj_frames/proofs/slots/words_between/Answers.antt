use Rattle.std.proofs.Common.{ℕ, ◌+◌, ap, arith}
use Rattle.dj_frames.specs.SlotTree.{tag_in, first_tags, words_in}
use Rattle.dj_frames.proofs.SlotWords.{words_first, words_few}
use Rattle.dj_frames.proofs.slots.words_between.Goals as goal

pub loop-slot-preserved : goal.loop-slot-preserved
loop-slot-preserved c =
    let at = tag_in c.args.depth c.args.tree.now in
    record {
      sum = words_first c.loop-slot.slot (words_in (first_tags c.args.start at)) c.loop-slot.sum (c.loop-slot.sum + c.words-sum.result) at c.get.result.now c.get.ensures.tag c.loop-slot.invariant.sum (ap (λ (n : ℕ). c.loop-slot.sum + n) c.words-sum.ensures.words);
      few = omega (arith, words_few c.get.result.now, c.words-sum.ensures.words, c.loop-slot.invariant.few);
    }
