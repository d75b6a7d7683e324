use Rattle.std.proofs.Common.{◌≡◌, ◌++◌, ◌∙◌, ap}
use Rattle.dj_tags.specs.Goes.{reversed}
use Rattle.dj_effects.specs.Stacked.{tags_of}
use Rattle.dj_effects.proofs.Stacking.{turned_back}
use Rattle.dj_effects.proofs.stack.Stack.slots.Goals as goal

pub returns : goal.returns
returns c =
    let whole : c.settle.new.below ≡ c.self.inside.below ++ tags_of c.self.inside.top.items = rw (← c.as_slice.ensures) c.in_ok-settle.ensures.ok in
    let turned : reversed c.settle.new.below ≡ c.args.self.now = ap reversed whole ∙ turned_back c.self.inside.below c.self.inside.top.items ∙ c.self.view_is in
    record { slots = rw c.in_ok-slots.ensures.equal turned; same = rw c.clear.ensures.items turned }
