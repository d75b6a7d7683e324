use Rattle.std.proofs.Common.{ap}
use Rattle.std.specs.Prelude.{if◌then◌else◌}
use Rattle.std.proofs.lemmas.Result.{err_from_is_err_and}
use Rattle.dj_values.specs.Views.{view_reference, view_value}
use Rattle.dj_values.specs.Outcomes.{Throws, Stuck}
use Rattle.dj_objects.specs.Runs.{context_of, run_state}
use Rattle.dj_source.proofs.ThrowLemmas.{thrown_stops, thrown_is}
use Rattle.dj_source.proofs.throwing.thrown.Goals as goal

pub returns-in_err-reference : goal.returns-in_err-reference
returns-in_err-reference c =
    let p = err_from_is_err_and c.from_residual.result c.from_residual.ensures.1 in
    rw (p.1, p.2) record {
      thrown = thrown_stops (context_of c.args.method.now) (view_value c.args.value) (run_state c.args.run.now) (run_state c.object.new.run) c.in_err-reference.field-0.0 c.in_err-reference.ensures.object;
    }

pub returns-then-is_throwable : goal.returns-then-is_throwable
returns-then-is_throwable c =
    let reference = view_reference c.in_ok-reference.reference in
    record {
      thrown = thrown_is (context_of c.args.method.now) (view_value c.args.value) (run_state c.args.run.now) (run_state c.object.new.run) reference c.is_throwable.result (Throws reference)
          c.in_ok-reference.ensures.object c.is_throwable.ensures.throwable (ap (λ test. if test then Throws reference else Stuck) c.if-is_throwable.true);
    }

pub returns-else-is_throwable : goal.returns-else-is_throwable
returns-else-is_throwable c =
    let reference = view_reference c.in_ok-reference.reference in
    record {
      thrown = thrown_is (context_of c.args.method.now) (view_value c.args.value) (run_state c.args.run.now) (run_state c.object.new.run) reference c.is_throwable.result Stuck
          c.in_ok-reference.ensures.object c.is_throwable.ensures.throwable (ap (λ test. if test then Throws reference else Stuck) c.if-is_throwable.false);
    }
