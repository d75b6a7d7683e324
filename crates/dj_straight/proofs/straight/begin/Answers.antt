use Rattle.std.proofs.Common.{inl, inr, refl}
use Rattle.std.proofs.lemmas.Bool.{false≢true}
use Rattle.dj_straight.proofs.StraightLaws.{blocked_here, built_here, went_nowhere}
use Rattle.dj_straight.proofs.straight.begin.Goals as goal

pub returns-then-not-has_straight_opcode : goal.returns-then-not-has_straight_opcode
returns-then-not-has_straight_opcode c =
    let so_far = c.loop-at.invariant in
    record { built = blocked_here c.args.parameters c.args.max_stack c.args.code.now c.args.instructions.now c.loop-at.at-index c.at-item.result so_far.0 c.loop-at-test.true c.at-item.is so_far.1 (inl (λ straight. false≢true (c.if-not-has_straight_opcode.ensures.exact.1 straight))) }

pub returns-then-not-branch : goal.returns-then-not-branch
returns-then-not-branch c =
    let so_far = c.loop-at.invariant in
    let went = rw c.if-not-branch.true at c.in_ok-advance.ensures.stack so_far.0 so_far.2 in
    record { built = blocked_here c.args.parameters c.args.max_stack c.args.code.now c.args.instructions.now c.loop-at.at-index c.at-item.result so_far.0 c.loop-at-test.true c.at-item.is so_far.1 (inr (went_nowhere _ _ went)) }

pub loop-at-preserved : goal.loop-at-preserved
loop-at-preserved c =
    let so_far = c.loop-at.invariant in
    let went = rw c.if-not-branch.false at c.in_ok-advance.ensures.stack so_far.0 so_far.2 in
    built_here c.args.parameters c.args.max_stack c.args.code.now c.args.instructions.now c.loop-at.at-index c.at-item.result so_far.0 c.loop-at-test.true c.at-item.is so_far.1 _ (c.if-not-has_straight_opcode.ensures.exact.0 refl) went
