use Rattle.std.proofs.Common.{Bool}
use Rattle.std.proofs.lemmas.Result.{err_from_is_err_and}
use Rattle.dj_syntax.specs.Trees.{view_exp}
use Rattle.dj_values.specs.Views.{view_value}
use Rattle.dj_static.specs.Scopes.{scope_of}
use Rattle.dj_meaning.specs.Expressions.{value, tested}
use Rattle.dj_objects.specs.Runs.{context_of, run_state}
use Rattle.dj_evaluating.proofs.PartLemmas.{then_ends, then_stops}
use Rattle.dj_evaluating.proofs.evaluating.test.Goals as goal

pub returns-in_err-value : goal.returns-in_err-value
returns-in_err-value c =
    let p = err_from_is_err_and c.from_residual.result c.from_residual.ensures.1 in
    rw (p.1, p.2) record {
      test = then_stops view_value (λ (answer : Bool). answer) (value (context_of c.args.method.now) (scope_of c.args.scope.now) (view_exp c.args.exp.now)) (tested (context_of c.args.method.now)) (run_state c.args.run.now) (run_state c.evaluate.new.run) c.in_err-value.field-0.0 c.in_err-value.ensures.value;
    }

pub returns : goal.returns
returns c = record {
  test = then_ends view_value (λ (answer : Bool). answer) (value (context_of c.args.method.now) (scope_of c.args.scope.now) (view_exp c.args.exp.now)) (tested (context_of c.args.method.now)) (run_state c.args.run.now) (run_state c.evaluate.new.run) c.tested.result (run_state c.evaluate.new.run) (view_value c.in_ok-value.value) c.in_ok-value.ensures.value (c.tested.ensures.tested (context_of c.args.method.now) (run_state c.evaluate.new.run));
}
