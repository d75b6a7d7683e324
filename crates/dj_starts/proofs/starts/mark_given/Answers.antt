use Rattle.dj_starts.proofs.Asking.{given_step, given_end}
use Rattle.dj_starts.proofs.starts.mark_given.Goals as goal

pub loop-frame-init : goal.loop-frame-init
loop-frame-init c = λ after more. more

pub loop-frame-preserved : goal.loop-frame-preserved
loop-frame-preserved c = λ after more.
    c.loop-frame.invariant after (given_step c.args.frames.now c.loop-frame.frame-index c.frame-item.result c.loop-frame-test.true c.frame-item.is c.loop-frame.begins c.mark.new.marks after c.mark.ensures.more more)

pub returns : goal.returns
returns c = record { more = c.loop-frame.invariant c.loop-frame.begins (given_end c.args.frames.now c.loop-frame.frame-index c.loop-frame.begins c.loop-frame-test.false) }
