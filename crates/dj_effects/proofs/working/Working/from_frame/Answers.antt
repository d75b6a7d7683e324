use Rattle.std.proofs.Common.{◌≡◌, ◌∙◌, ap, refl}
use Rattle.dj_frames.specs.Frames.{view_tag, view_tags}
use Rattle.dj_tags.specs.Goes.{reversed}
use Rattle.dj_effects.proofs.Stacking.{map_reversed}
use Rattle.dj_effects.proofs.working.Working.from_frame.Goals as goal

pub returns : goal.returns
returns c =
    let stack : view_tags c.in_ok-from_slots.field-0 ≡ reversed (view_tags c.args.frame.now.stack) = ap view_tags c.in_ok-from_slots.ensures.same ∙ map_reversed view_tag c.args.frame.now.stack in
    record { same = rw (stack, c.in_ok-copy.ensures.equal) refl }
