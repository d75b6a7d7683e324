use Rattle.dj_starts.proofs.Asking.{table_step, table_end}
use Rattle.dj_starts.proofs.starts.mark_table.Goals as goal

pub loop-handler-init : goal.loop-handler-init
loop-handler-init c = λ after more. more

pub loop-handler-preserved : goal.loop-handler-preserved
loop-handler-preserved c = λ after more.
    c.loop-handler.invariant after (table_step c.args.handlers.now c.loop-handler.handler-index c.handler-item.result c.loop-handler-test.true c.handler-item.is c.loop-handler.begins _ _ _ after c.mark.ensures.more c.mark-in-loop-handler.ensures.more c.mark-in-loop-handler-2.ensures.more more)

pub returns : goal.returns
returns c = record { more = c.loop-handler.invariant c.loop-handler.begins (table_end c.args.handlers.now c.loop-handler.handler-index c.loop-handler.begins c.loop-handler-test.false) }
