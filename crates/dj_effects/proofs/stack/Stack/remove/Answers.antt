use Rattle.std.proofs.Common.{◌≡◌, ◌-◌, ◌∙◌, ap, arith, drop, take, length}
use Rattle.dj_effects.specs.Stacked.{stacked}
use Rattle.dj_effects.proofs.Stacking.{remove_top, remove_below}
use Rattle.dj_effects.proofs.stack.Stack.remove.Goals as goal

pub returns-then-count-top : goal.returns-then-count-top
returns-then-count-top c =
    let n = c.len-top.ensures.value in
    let few = c.if-count-top.true in
    let left : c.truncate.new.self.items ≡ take (length c.self.inside.top.items - c.args.count) c.self.inside.top.items = rw (← n) c.truncate.ensures.items in
    record { rest = ap (stacked c.self.inside.below) left ∙ remove_top c.self.inside.below c.self.inside.top.items c.args.count (omega arith) ∙ ap (drop c.args.count) c.self.view_is }

pub returns-else-count-top : goal.returns-else-count-top
returns-else-count-top c =
    let n = c.len-top.ensures.value in
    let m = c.len.ensures.len in
    let few = c.if-count-top.false in
    let left : c.truncate-else-count-top.new.self ≡ take (length c.self.inside.below - (c.args.count - length c.self.inside.top.items)) c.self.inside.below = rw (← n, ← m, ← c.saturating_sub.ensures) c.truncate-else-count-top.ensures.first in
    record { rest = rw (left, c.clear.ensures.items) (remove_below c.self.inside.below c.self.inside.top.items c.args.count (omega arith) ∙ ap (drop c.args.count) c.self.view_is) }
