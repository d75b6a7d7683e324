use Rattle.std.specs.Prelude.{option_map}
use Rattle.std.proofs.lemmas.Result.{err_from_is_err_and}
use Rattle.dj_syntax.specs.Trees.{view_exp}
use Rattle.dj_values.specs.Views.{view_value}
use Rattle.dj_static.specs.Scopes.{scope_of}
use Rattle.dj_meaning.specs.Expressions.{effect}
use Rattle.dj_objects.specs.Runs.{context_of, run_state}
use Rattle.dj_source.proofs.SimpleLemmas.{normal_stops, normal_is}
use Rattle.dj_source.proofs.simple.run_call.Goals as goal

pub returns-in_err-perform : goal.returns-in_err-perform
returns-in_err-perform c =
    let p = err_from_is_err_and c.from_residual.result c.from_residual.ensures.1 in
    let context = context_of c.args.method.now in
    let scope = scope_of c.args.scope.now in
    let old = run_state c.args.run.now in
    let new = run_state c.perform.new.run in
    rw (p.1, p.2) record {
      done = normal_stops (option_map view_value) (effect context scope (view_exp c.args.call.now)) old new c.in_err-perform.field-0.0 c.in_err-perform.ensures.done;
    }

pub returns : goal.returns
returns c =
    let context = context_of c.args.method.now in
    let scope = scope_of c.args.scope.now in
    let old = run_state c.args.run.now in
    let new = run_state c.perform.new.run in
    record {
      done = normal_is (effect context scope (view_exp c.args.call.now)) _ old new c.in_ok-perform.ensures.done;
    }
