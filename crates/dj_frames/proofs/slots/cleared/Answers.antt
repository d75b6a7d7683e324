use Rattle.std.proofs.Common.{refl}
use Rattle.dj_frames.specs.SlotTree.{tag_in}
use Rattle.dj_frames.proofs.SlotTags.{cut_clear}
use Rattle.dj_frames.proofs.slots.cleared.Goals as goal

pub returns-then-is_clear-clause-cut : goal.returns-then-is_clear-clause-cut
returns-then-is_clear-clause-cut c = λ slot within. cut_clear c.args.from slot (tag_in c.args.depth c.args.tree) (λ le. c.if-is_clear.ensures.clear slot le refl)
