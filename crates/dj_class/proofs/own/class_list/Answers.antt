use Rattle.dj_layout.specs.Passes.{asked}
use Rattle.dj_layout.proofs.Loops.{as_more}
use Rattle.dj_pool.specs.declared.fault.BrokenKind.TheVariants.{Index}
use Rattle.dj_pool.specs.SharedParts.{u2}
use Rattle.dj_pool.specs.PoolFormat.{IsClassIndex}
use Rattle.dj_class.specs.FileFormat.{LeadsTo}
use Rattle.dj_class.proofs.own.class_list.Goals as goal

pub loop-preserved : goal.loop-preserved
loop-preserved c =
    let leads : LeadsTo c.args.pool.now c.in_ok-_index._index c.new.result = rw (c.new.ensures.units, c.in_ok-copy.ensures.equal) c.in_ok-_index.ensures.leads in
    as_more (asked u2 (IsClassIndex c.args.pool.now) Index) (LeadsTo c.args.pool.now) c.loop.counter c.args.bytes.now c.loop.rest.now c.in_ok-_index.after.now c.loop.found c.push.new.self c.new.result c.loop.invariant
    (record { value = c.in_ok-_index._index; spells = c.in_ok-_index.ensures.reads; means = leads }) c.in_ok-push.ensures.ok
