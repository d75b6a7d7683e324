use Rattle.std.proofs.Common.{◌∙◌, ap, sym}
use Rattle.dj_frames.specs.Frames.{view_tag, view_tags}
use Rattle.dj_effects.proofs.Lists.{set_map}
use Rattle.dj_applying.proofs.locals.set.Goals as goal

pub returns-in_ok-set : goal.returns-in_ok-set
returns-in_ok-set c = record { set = ap view_tags c.in_ok-set.ensures.ok ∙ sym (set_map view_tag c.args.locals.now c.args.slot c.args.tag) }
