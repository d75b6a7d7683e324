use Rattle.dj_pool.proofs.Units.{begins_more}
use Rattle.dj_pool.proofs.modified_utf8.are_units.Goals as goal

pub loop-rest-preserved : goal.loop-rest-preserved
loop-rest-preserved c = begins_more c.args.bytes.now c.loop-rest.left.now c.in-Some.rest.now c.loop-rest.invariant c.in-Some.ensures.unit
