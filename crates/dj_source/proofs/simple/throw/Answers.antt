use Rattle.std.proofs.lemmas.Result.{err_from_is_err_and}
use Rattle.dj_syntax.specs.Trees.{view_exp}
use Rattle.dj_values.specs.Views.{view_value}
use Rattle.dj_static.specs.Scopes.{scope_of}
use Rattle.dj_meaning.specs.Expressions.{value}
use Rattle.dj_meaning.specs.Completions.{thrown}
use Rattle.dj_objects.specs.Runs.{context_of, run_state}
use Rattle.dj_evaluating.proofs.PartLemmas.{then_ends, then_stops}
use Rattle.dj_source.specs.Running.{view_completion}
use Rattle.dj_source.proofs.simple.throw.Goals as goal

pub returns-in_err-value : goal.returns-in_err-value
returns-in_err-value c =
    let p = err_from_is_err_and c.from_residual.result c.from_residual.ensures.1 in
    let context = context_of c.args.method.now in
    let scope = scope_of c.args.scope.now in
    let old = run_state c.args.run.now in
    let part = value context scope (view_exp c.args.exception.now) in
    let middle = run_state c.evaluate.new.run in
    rw (p.1, p.2) record {
      done = then_stops view_value view_completion part (thrown context) old middle c.in_err-value.field-0.0 c.in_err-value.ensures.value;
    }

pub returns : goal.returns
returns c =
    let context = context_of c.args.method.now in
    let scope = scope_of c.args.scope.now in
    let old = run_state c.args.run.now in
    let part = value context scope (view_exp c.args.exception.now) in
    let middle = run_state c.evaluate.new.run in
    let new = run_state c.thrown.new.run in
    record {
      done = then_ends view_value view_completion part (thrown context) old middle c.thrown.result new (view_value c.in_ok-value.value) c.in_ok-value.ensures.value c.thrown.ensures.thrown;
    }
