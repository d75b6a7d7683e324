use Rattle.std.proofs.Common.{◌∙◌, sym, add-one}
use Rattle.dj_values.specs.Views.{view_reference}
use Rattle.dj_machine.proofs.HandlerLemmas.{handler_here, handler_next, handler_none}
use Rattle.dj_machine.proofs.handlers.handler_for.Goals as goal

pub returns-then-takes : goal.returns-then-takes
returns-then-takes c =
    record { target = sym (sym c.loop-handler.invariant ∙ handler_here c.args.headers.now c.args.pc (view_reference c.args.reference.now) c.args.handlers.now c.loop-handler.handler-index _ c.loop-handler-test.true c.handler-item.is (sym c.takes.ensures.takes ∙ c.if-takes.true)) }

pub loop-handler-preserved : goal.loop-handler-preserved
loop-handler-preserved c =
    rw add-one (sym (handler_next c.args.headers.now c.args.pc (view_reference c.args.reference.now) c.args.handlers.now c.loop-handler.handler-index _ c.loop-handler-test.true c.handler-item.is (sym c.takes.ensures.takes ∙ c.if-takes.false)) ∙ c.loop-handler.invariant)

pub returns : goal.returns
returns c = record { target = sym (handler_none c.args.headers.now c.args.pc (view_reference c.args.reference.now) c.args.handlers.now c.loop-handler.handler-index c.loop-handler-test.false) ∙ c.loop-handler.invariant }
