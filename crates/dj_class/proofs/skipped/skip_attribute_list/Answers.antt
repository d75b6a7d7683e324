use Rattle.dj_pool.specs.SharedParts.{attribute}
use Rattle.dj_layout.proofs.Loops.{skip_more}
use Rattle.dj_class.proofs.skipped.skip_attribute_list.Goals as goal

pub loop-preserved : goal.loop-preserved
loop-preserved c = skip_more attribute c.loop.counter c.args.bytes.now c.loop.rest.now c.in_ok-rest.rest.now c.loop.invariant c.in_ok-rest.ensures.reads
