use Rattle.std.proofs.Common.{◌∙◌, ap, ◌∷◌}
use Rattle.dj_effects.specs.Stacked.{stacked}
use Rattle.dj_effects.proofs.Stacking.{push_one}
use Rattle.dj_effects.proofs.stack.Stack.push.Goals as goal

pub returns : goal.returns
returns c =
    record { ok = ap (stacked c.self.inside.below) c.in_ok-push.ensures.ok ∙ push_one c.self.inside.below c.self.inside.top.items (record { tag = c.args.tag }) ∙ ap (λ s. c.args.tag ∷ s) c.self.view_is }
