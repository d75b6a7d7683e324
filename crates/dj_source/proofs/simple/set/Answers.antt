use Rattle.std.proofs.lemmas.Result.{err_from_is_err_and}
use Rattle.dj_syntax.specs.Trees.{view_exp}
use Rattle.dj_values.specs.Views.{view_value}
use Rattle.dj_static.specs.Scopes.{scope_of}
use Rattle.dj_meaning.specs.Runs.{assigned}
use Rattle.dj_meaning.specs.Expressions.{value}
use Rattle.dj_objects.specs.Runs.{context_of, run_state}
use Rattle.dj_source.proofs.SimpleLemmas.{normal_stops, normal_is}
use Rattle.dj_source.proofs.simple.set.Goals as goal

pub returns-in_err-assign : goal.returns-in_err-assign
returns-in_err-assign c =
    let p = err_from_is_err_and c.from_residual.result c.from_residual.ensures.1 in
    let context = context_of c.args.method.now in
    let scope = scope_of c.args.scope.now in
    let old = run_state c.args.run.now in
    let new = run_state c.assign.new.run in
    rw (p.1, p.2) record {
      done = normal_stops view_value (assigned context.headers scope c.args.variable (value context scope (view_exp c.args.new.now))) old new c.in_err-assign.field-0.0 c.in_err-assign.ensures.assigned;
    }

pub returns : goal.returns
returns c =
    let context = context_of c.args.method.now in
    let scope = scope_of c.args.scope.now in
    let old = run_state c.args.run.now in
    let new = run_state c.assign.new.run in
    record {
      done = normal_is (assigned context.headers scope c.args.variable (value context scope (view_exp c.args.new.now))) _ old new c.in_ok-assign.ensures.assigned;
    }
