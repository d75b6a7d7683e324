use Rattle.std.proofs.Common.{map}
use Rattle.std.specs.Prelude.{reverse}
use Rattle.std.proofs.lemmas.Result.{err_from_is_err_and}
use Rattle.dj_values.specs.Views.{view_reference}
use Rattle.dj_outside.specs.Runs.{world_of}
use Rattle.dj_objects.specs.Runs.{values_of, store_of, run_state}
use Rattle.dj_source.proofs.PieceLemmas.{held_last, left_is, left_stops, left_nothing}
use Rattle.dj_source.proofs.running.leave.Goals as goal

pub returns-in_err-settle-in-Some : goal.returns-in_err-settle-in-Some
returns-in_err-settle-in-Some c =
    let p = err_from_is_err_and c.from_residual.result c.from_residual.ensures.1 in
    rw (p.1, p.2) record {
      left = λ next. left_stops c.args.method.now.classes.headers.now (run_state c.args.run.now) (store_of c.args.run.now).held (map view_reference (reverse c.pop.new.self)) (view_reference c.in-Some.monitor) c.in_err-settle-in-Some.field-0.0 (run_state c.settle.new.run) next
          (held_last c.args.run.now.held c.pop.new.self c.in-Some.monitor (rw c.in-Some.is at c.pop.ensures)) c.in_err-settle-in-Some.ensures.settled;
    }

pub returns-in_ok-settle-in-Some : goal.returns-in_ok-settle-in-Some
returns-in_ok-settle-in-Some c = record {
  left = λ next. left_is c.args.method.now.classes.headers.now (run_state c.args.run.now) (store_of c.args.run.now).held (map view_reference (reverse c.pop.new.self)) (view_reference c.in-Some.monitor) _ (run_state c.settle.new.run) next
      (held_last c.args.run.now.held c.pop.new.self c.in-Some.monitor (rw c.in-Some.is at c.pop.ensures)) c.in_ok-settle-in-Some.ensures.settled;
}

pub returns-in-None : goal.returns-in-None
returns-in-None c =
    let none = rw c.in-None.is at c.pop.ensures in
    record { left = λ next. left_nothing c.args.method.now.classes.headers.now (values_of c.args.run.now.values) (world_of c.args.run.now.outside) c.args.run.now.held c.pop.new.self next none.0 none.1 }
