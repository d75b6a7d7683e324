use Rattle.std.proofs.Common.{◌≡◌, ◌++◌, ◌∙◌, ap, map, sym}
use Rattle.dj_frames.specs.Frames.{view_tag, view_tags, is_unborn}
use Rattle.dj_tags.specs.Goes.{reversed}
use Rattle.dj_effects.specs.Stacked.{tags_of}
use Rattle.dj_effects.specs.Effects.{instead}
use Rattle.dj_effects.proofs.Stacking.{turned_back, map_reversed}
use Rattle.dj_effects.proofs.stack.Stack.replace.Goals as goal

pub returns : goal.returns
returns c =
    let f = instead (is_unborn c.args.unborn) (view_tag c.args.now.now) in
    let whole : c.settle.new.below ≡ c.self.inside.below ++ tags_of c.self.inside.top.items = rw (← c.as_slice.ensures) c.in_ok-settle.ensures.ok in
    let turned : reversed c.settle.new.below ≡ c.args.self.now = ap reversed whole ∙ turned_back c.self.inside.below c.self.inside.top.items ∙ c.self.view_is in
    let now : view_tags (reversed c.replace_all.new.slots) ≡ map f (view_tags c.args.self.now) =
    map_reversed view_tag c.replace_all.new.slots ∙ ap reversed c.in_ok-replace_all.ensures.ok ∙ sym (map_reversed f (view_tags c.settle.new.below)) ∙ ap (map f) (sym (map_reversed view_tag c.settle.new.below) ∙ ap view_tags turned) in
    record { ok = rw c.clear.ensures.items now }
