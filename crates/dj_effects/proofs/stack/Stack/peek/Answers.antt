use Rattle.std.proofs.Common.{◌≡◌, ◌-◌, ◌∙◌, ap, length, slice_get, arith}
use Rattle.dj_effects.proofs.Stacking.{peek_top, peek_below, peek_past}
use Rattle.dj_effects.proofs.stack.Stack.peek.Goals as goal

pub returns-then-depth-top : goal.returns-then-depth-top
returns-then-depth-top c =
    let top = peek_top c.self.inside.below c.self.inside.top.items c.args.depth c.index-top-top.result (rw (← c.as_slice-top.ensures) c.if-depth-top.true) in
    record { entry = rw c.as_slice-top.ensures top ∙ ap (λ s. slice_get s c.args.depth) c.self.view_is }

pub returns-then-depth-len : goal.returns-then-depth-len
returns-then-depth-len c =
    let many = ap length c.as_slice-top.ensures in
    let there = peek_below c.self.inside.below c.self.inside.top.items c.args.depth (let t = c.if-depth-top.false in omega arith) (let t = c.if-depth-len.true in let n = c.len.ensures.len in omega arith) in
    let place : c.len-then-depth-len.result - 1 - (c.args.depth - length c.as_slice-top.result.now) ≡ length c.self.inside.below - 1 - (c.args.depth - length c.self.inside.top.items) = let n = c.len-then-depth-len.ensures.len in omega arith in
    record { entry = c.get.ensures.tag ∙ ap (slice_get c.self.inside.below) place ∙ there ∙ ap (λ s. slice_get s c.args.depth) c.self.view_is }

pub returns : goal.returns
returns c =
    let many = ap length c.as_slice-top.ensures in
    let past = peek_past c.self.inside.below c.self.inside.top.items c.args.depth (let t = c.if-depth-len.false in let n = c.len.ensures.len in let u = c.if-depth-top.false in omega arith) in
    record { entry = past ∙ ap (λ s. slice_get s c.args.depth) c.self.view_is }
