use Rattle.std.proofs.Common.{◌∙◌}
use Rattle.dj_frames.proofs.SlotTags.{listed_cut}
use Rattle.dj_frames.proofs.tree.clear_leaf.Goals as goal

pub returns-clause-cut : goal.returns-clause-cut
returns-clause-cut c = λ depth slot. c.in_ok-made.ensures.tags depth slot ∙ listed_cut c.args.from slot c.args.list.now c.in_ok-tags.tags c.args.rest.now c.in_ok-tags.ensures.put
