use Rattle.std.proofs.Common.{arith}
use Rattle.dj_machine.proofs.SlotLemmas.{filled_more, filled_all}
use Rattle.dj_machine.proofs.locals.fill.Goals as goal

pub loop-slots-preserved : goal.loop-slots-preserved
loop-slots-preserved c = filled_more c.loop-slots.slots c.push.new.self c.args.most _ c.in_ok-push.ensures.ok (omega arith) c.loop-slots.invariant

pub returns : goal.returns
returns c = record { filled = filled_all c.loop-slots.slots c.args.most _ (omega arith) c.loop-slots.invariant }
