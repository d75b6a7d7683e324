use Rattle.dj_frames.proofs.Spreading.{front_taken}
use Rattle.dj_frames.proofs.locals.Locals.chop.Goals as goal

pub loop-preserved : goal.loop-preserved
loop-preserved c = front_taken c.args.self.now c.chop_last.new.self c.loop.counter (rw c.loop.invariant.first at c.in_ok-chop_last.ensures.fewer) c.loop.invariant.enough
