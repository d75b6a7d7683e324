use Rattle.dj_starts.proofs.Asking.{bound_step, bound_end}
use Rattle.dj_starts.proofs.written.mark_bounds.Goals as goal

pub loop-handler-init : goal.loop-handler-init
loop-handler-init c = λ after more. more

pub loop-handler-preserved : goal.loop-handler-preserved
loop-handler-preserved c = λ after more.
    c.loop-handler.invariant after (bound_step c.args.handlers.now c.loop-handler.handler-index c.handler-item.result c.loop-handler-test.true c.handler-item.is c.loop-handler.marks c.mark.new.marks c.mark-in-loop-handler.new.marks after c.mark.ensures.more c.mark-in-loop-handler.ensures.more more)

pub returns : goal.returns
returns c = record { more = c.loop-handler.invariant c.loop-handler.marks (bound_end c.args.handlers.now c.loop-handler.handler-index c.loop-handler.marks c.loop-handler-test.false) }
