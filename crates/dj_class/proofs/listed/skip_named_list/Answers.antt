use Rattle.dj_layout.proofs.Loops.{skip_more}
use Rattle.dj_class.specs.FileFormat.{named}
use Rattle.dj_class.proofs.listed.skip_named_list.Goals as goal

pub loop-preserved : goal.loop-preserved
loop-preserved c =
    skip_more (named c.args.pool.now) c.loop.counter c.args.bytes.now c.loop.rest.now c.in_ok-_name.after.now c.loop.invariant (record { value = record { name = c.in_ok-_name._name; content = c.in_ok-_name._content.now }; spells = c.in_ok-_name.ensures.reads })
