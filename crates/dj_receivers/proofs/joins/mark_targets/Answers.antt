use Rattle.dj_receivers.proofs.Joining.{jumps_step, jumps_end}
use Rattle.dj_receivers.proofs.joins.mark_targets.Goals as goal

pub loop-at-init : goal.loop-at-init
loop-at-init c = λ after more. more

pub loop-at-preserved : goal.loop-at-preserved
loop-at-preserved c = λ after more.
    c.loop-at.invariant after (jumps_step c.args.instructions.now c.loop-at.at-index c.at-item.result c.loop-at-test.true c.at-item.is c.loop-at.joins _ after
    (rw (c.as_slice.ensures, c.in_ok-push_targets.ensures.pushed, c.new-targets.ensures) at c.mark_all.ensures.more) more)

pub returns : goal.returns
returns c = record { more = c.loop-at.invariant c.loop-at.joins (jumps_end c.args.instructions.now c.loop-at.at-index c.loop-at.joins c.loop-at-test.false) }
