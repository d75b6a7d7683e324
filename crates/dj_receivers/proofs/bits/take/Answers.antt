use Rattle.std.proofs.Common.{reverse}
use Rattle.dj_receivers.proofs.Turned.{popped_more}
use Rattle.dj_receivers.proofs.bits.take.Goals as goal

pub loop-preserved : goal.loop-preserved
loop-preserved c = popped_more (reverse c.args.marks.now) c.loop.marks c.pop.new.self c.loop.counter c.pop.result c.pop.ensures c.loop.invariant
