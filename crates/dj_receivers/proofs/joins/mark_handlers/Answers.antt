use Rattle.dj_receivers.proofs.Joining.{handlers_step, handlers_end}
use Rattle.dj_receivers.proofs.joins.mark_handlers.Goals as goal

pub loop-handler-init : goal.loop-handler-init
loop-handler-init c = λ after more. more

pub loop-handler-preserved : goal.loop-handler-preserved
loop-handler-preserved c = λ after more.
    c.loop-handler.invariant after (handlers_step c.args.handlers.now c.loop-handler.handler-index c.handler-item.result c.loop-handler-test.true c.handler-item.is c.loop-handler.joins _ after c.mark.ensures.more more)

pub returns : goal.returns
returns c = record { more = c.loop-handler.invariant c.loop-handler.joins (handlers_end c.args.handlers.now c.loop-handler.handler-index c.loop-handler.joins c.loop-handler-test.false) }
