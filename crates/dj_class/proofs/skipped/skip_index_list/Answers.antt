use Rattle.dj_pool.specs.SharedParts.{u2}
use Rattle.dj_layout.proofs.Loops.{skip_more}
use Rattle.dj_class.proofs.skipped.skip_index_list.Goals as goal

pub loop-preserved : goal.loop-preserved
loop-preserved c =
    skip_more u2 c.loop.counter c.args.bytes.now c.loop.rest.now c.in_ok-_index.after.now c.loop.invariant (record { value = c.in_ok-_index._index; spells = c.in_ok-_index.ensures.reads })
