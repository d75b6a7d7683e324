use Rattle.std.proofs.Common.{refl}
use Rattle.std.proofs.lemmas.Result.{err_from_is_err_and}
use Rattle.dj_class.specs.FileFormat.{lawful_in_field}
use Rattle.dj_class.specs.FileParts.{HasConstantIndex}
use Rattle.dj_class.proofs.AttributesInTurn.{turn_more, turn_stop}
use Rattle.dj_class.proofs.constants.field_attribute_list.Goals as goal

pub loop-preserved : goal.loop-preserved
loop-preserved c =
    turn_more (lawful_in_field c.args.pool.now c.args.descriptor) (HasConstantIndex c.args.pool.now) c.args.count c.loop.counter c.args.bytes.now c.loop.rest.now c.in_ok-now.after.now c.loop.found c.in_ok-now.now
    (λ before x. refl) c.loop.invariant c.loop-test.true (c.in_ok-now.ensures.reads c.loop.invariant.items c.loop.invariant.means)

pub returns-in_err-now : goal.returns-in_err-now
returns-in_err-now c =
    let p = err_from_is_err_and c.from_residual.result c.from_residual.ensures.1 in
    rw (p.1, p.2) record {
      reads = turn_stop (lawful_in_field c.args.pool.now c.args.descriptor) (HasConstantIndex c.args.pool.now) c.args.count c.loop.counter c.args.end c.args.bytes.now c.loop.rest.now c.loop.found c.in_err-now.field-0.0 c.loop.invariant c.loop-test.true
          (c.in_err-now.ensures.reads c.loop.invariant.items c.loop.invariant.means);
    }
