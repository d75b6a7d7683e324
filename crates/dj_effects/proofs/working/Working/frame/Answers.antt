use Rattle.std.proofs.Common.{◌≡◌, ◌∙◌, ap, sym, refl}
use Rattle.dj_frames.specs.Frames.{view_tag, view_tags}
use Rattle.dj_tags.specs.Goes.{reversed}
use Rattle.dj_effects.proofs.Stacking.{map_reversed}
use Rattle.dj_effects.proofs.working.Working.frame.Goals as goal

pub returns : goal.returns
returns c =
    let stack : reversed (view_tags c.in_ok-stack.stack) ≡ view_tags c.args.self.now.stack = sym (map_reversed view_tag c.in_ok-stack.stack) ∙ ap view_tags c.in_ok-stack.ensures.slots in
    record { frame = rw (stack, c.in_ok-copy.ensures.equal) refl; same = rw c.in_ok-stack.ensures.same refl }
