use Rattle.std.proofs.Common.{length, sym, ap, ◌∙◌}
use Rattle.dj_frames.specs.SlotTree.{tag_in}
use Rattle.dj_frames.proofs.SlotTags.{length_first}
use Rattle.dj_frames.proofs.slots.Slots.len.Goals as goal

pub returns : goal.returns
returns c = let i = c.self.inside in record { len = sym (length_first i.count (tag_in i.depth i.tree)) ∙ ap length c.self.view_is }
