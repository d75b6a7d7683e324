use Rattle.std.proofs.Common.{get_or, arith}
use Rattle.dj_instructions.specs.Instructions.{view_instructions}
use Rattle.dj_code.specs.declared.content.RawHandler.{RawHandler}
use Rattle.dj_code.specs.Targets.{LeadsRight}
use Rattle.dj_code.proofs.LeastWrong.{step, least_of_all}
use Rattle.dj_code.proofs.TargetLists.{item_at}
use Rattle.dj_code.proofs.ranges.wrong_target.Goals as goal

abbrev none : RawHandler
none = record { start = 0; end = 0; target = 0; class = 0 }

pub loop-handler-preserved : goal.loop-handler-preserved
loop-handler-preserved c =
    let i = view_instructions c.args.instructions.now in
    let xs = c.args.handlers.now in
    let k = c.loop-handler.handler-index in
    rw (c.least_wrong-least.ensures.least, c.from.ensures) (step (λ (h : RawHandler). h.start) (LeadsRight i) xs k (get_or xs k none) (λ d. item_at xs k c.loop-handler-test.true none d) c.leads_right-right.result c.loop-handler.least c.leads_right-right.ensures.exact c.loop-handler.invariant)

pub returns : goal.returns
returns c =
    record { least = least_of_all (λ (h : RawHandler). h.start) (LeadsRight (view_instructions c.args.instructions.now)) c.args.handlers.now c.loop-handler.handler-index c.loop-handler.least (omega (arith, c.loop-handler-test.false)) (omega arith) c.loop-handler.invariant }
