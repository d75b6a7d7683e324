use Rattle.std.proofs.Common.{arith}
use Rattle.dj_frames.proofs.SlotTags.{root_clear, clear_upper, clear_lower}
use Rattle.dj_frames.proofs.tree.+clear.Goals as goal

pub returns-then-depth-eq0-clause-cut : goal.returns-then-depth-eq0-clause-cut
returns-then-depth-eq0-clause-cut t c = λ slot within. root_clear c.args.depth c.args.from slot c.in_ok-same.same c.args.tree.now c.if-depth-eq0.true c.if-from-eq0.false within (c.in_ok-same.ensures.same c.args.depth slot)

pub returns-then-half-from-clause-cut : goal.returns-then-half-from-clause-cut
returns-then-half-from-clause-cut t c = λ slot within.
    clear_upper c.args.depth c.half-half.result c.args.tree.now c.in_ok-lower.lower.value c.in_ok-lower.upper.value c.if-depth-eq0.false c.half-half.ensures.half (λ k s is. c.in_ok-lower.ensures.halves k s is) c.args.from slot within c.deref.result.now c.in_ok-after.after c.in_ok-new.field-0.value c.fork.result c.if-half-from.true c.deref.ensures c.in_ok-new.ensures.ok (λ s lt. c.in_ok-after.ensures.cut s lt)
    (λ k s. c.fork.ensures.halves k s)

pub returns-clause-cut : goal.returns-clause-cut
returns-clause-cut t c = λ slot within.
    clear_lower c.args.depth c.half-half.result c.args.tree.now c.in_ok-lower.lower.value c.in_ok-lower.upper.value c.if-depth-eq0.false c.half-half.ensures.half (λ k s is. c.in_ok-lower.ensures.halves k s is) c.args.from slot within c.deref-2.result.now c.in_ok-after-2.after c.in_ok-new-2.field-0.value c.in_ok-above.above.value c.fork-2.result (omega (arith, c.if-half-from.false)) c.deref-2.ensures c.in_ok-new-2.ensures.ok c.in_ok-above.ensures.ok (λ s lt. c.in_ok-after-2.ensures.cut s lt)
    (λ k s. c.fork-2.ensures.halves k s)
