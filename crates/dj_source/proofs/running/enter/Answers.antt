use Rattle.std.proofs.lemmas.Result.{err_from_is_err_and}
use Rattle.dj_values.specs.Views.{view_reference, view_value}
use Rattle.dj_outside.specs.Runs.{world_of}
use Rattle.dj_objects.specs.Runs.{values_of, run_state}
use Rattle.dj_source.proofs.PieceLemmas.{enters_no_object, enters_stops, enters_is, held_besides_is}
use Rattle.dj_source.proofs.running.enter.Goals as goal

pub returns-in_err-reference : goal.returns-in_err-reference
returns-in_err-reference c =
    let p = err_from_is_err_and c.from_residual.result c.from_residual.ensures.1 in
    rw (p.1, p.2) record {
      entered = enters_no_object c.args.method.now.classes.headers.now (view_value c.args.monitor) (run_state c.args.run.now) (run_state c.object.new.run) c.in_err-reference.field-0.0 c.in_err-reference.ensures.object;
    }

pub returns-in_err-settle : goal.returns-in_err-settle
returns-in_err-settle c =
    let p = err_from_is_err_and c.from_residual-in_err-settle.result c.from_residual-in_err-settle.ensures.1 in
    rw (p.1, p.2) record {
      entered = enters_stops c.args.method.now.classes.headers.now (view_value c.args.monitor) (run_state c.args.run.now) (run_state c.object.new.run) (view_reference c.in_ok-reference.reference) c.in_ok-reference.ensures.object (run_state c.settle.new.run) c.in_err-settle.field-0.0
          (rw c.in_ok-copy.ensures.equal at c.in_err-settle.ensures.settled);
    }

pub returns : goal.returns
returns c = record {
  entered = enters_is c.args.method.now.classes.headers.now (view_value c.args.monitor) (run_state c.args.run.now) (run_state c.object.new.run) (view_reference c.in_ok-reference.reference) c.in_ok-reference.ensures.object (run_state c.settle.new.run) _ _
      (rw c.in_ok-copy.ensures.equal at c.in_ok-settle.ensures.settled)
      (held_besides_is (values_of c.settle.new.run.values) (world_of c.settle.new.run.outside) c.push.new.self c.settle.new.run.held c.in_ok-reference.reference c.in_ok-push.ensures.ok);
}
