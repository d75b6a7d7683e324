use Rattle.dj_frames.specs.Frames.{is_unborn}
use Rattle.dj_frames.specs.SlotTree.{tag_in}
use Rattle.dj_frames.proofs.NextSlots.{next_viewed}
use Rattle.dj_frames.proofs.slots.Slots.next_of.Goals as goal

pub returns : goal.returns
returns c = let i = c.self.inside in record { next = next_viewed (is_unborn c.args.unborn) i.count c.args.start (tag_in i.depth i.tree) c.args.self.now c.next_of.result c.self.view_is c.next_of.ensures.next }
