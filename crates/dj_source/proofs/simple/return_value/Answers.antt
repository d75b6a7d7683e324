use Rattle.std.proofs.Common.{ap}
use Rattle.std.specs.Prelude.{option_map}
use Rattle.std.specs.Option.{option_copied}
use Rattle.std.proofs.lemmas.Result.{err_from_is_err_and}
use Rattle.dj_names.specs.Types.{view_type}
use Rattle.dj_syntax.specs.Trees.{view_exp}
use Rattle.dj_values.specs.Views.{view_value}
use Rattle.dj_static.specs.Scopes.{scope_of}
use Rattle.dj_meaning.specs.Expressions.{value}
use Rattle.dj_objects.specs.Runs.{context_of, run_state}
use Rattle.dj_source.proofs.SimpleLemmas.{return_stops, return_misfit, return_no_value, return_is}
use Rattle.dj_source.proofs.simple.return_value.Goals as goal

pub returns-in_err-evaluate-in-None : goal.returns-in_err-evaluate-in-None
returns-in_err-evaluate-in-None c =
    let p = err_from_is_err_and c.from_residual.result c.from_residual.ensures.1 in
    let context = context_of c.args.method.now in
    let scope = scope_of c.args.scope.now in
    let old = run_state c.args.run.now in
    let part = value context scope (view_exp c.args.exp.now) in
    let misfit = run_state c.evaluate.new.run in
    rw (p.1, p.2) record {
      done = return_stops context part old misfit context.result c.in_err-evaluate-in-None.field-0.0 c.in_err-evaluate-in-None.ensures.value;
    }

pub returns-in_ok-evaluate-in-None : goal.returns-in_ok-evaluate-in-None
returns-in_ok-evaluate-in-None c =
    let context = context_of c.args.method.now in
    let scope = scope_of c.args.scope.now in
    let old = run_state c.args.run.now in
    let part = value context scope (view_exp c.args.exp.now) in
    let misfit = run_state c.evaluate.new.run in
    let none = ap (λ found. option_map view_type (option_copied found)) c.in-None.is in
    record {
      done = return_misfit context part old misfit context.result _ none c.in_ok-evaluate-in-None.ensures.value;
    }

pub returns-in_err-value-in-Some : goal.returns-in_err-value-in-Some
returns-in_err-value-in-Some c =
    let p = err_from_is_err_and c.from_residual-in_err-value-in-Some.result c.from_residual-in_err-value-in-Some.ensures.1 in
    let context = context_of c.args.method.now in
    let scope = scope_of c.args.scope.now in
    let old = run_state c.args.run.now in
    let part = value context scope (view_exp c.args.exp.now) in
    let new = run_state c.evaluate_to.new.run in
    let type = view_type c.in-Some.kind.now in
    let some = ap (λ found. option_map view_type (option_copied found)) c.in-Some.is in
    rw (p.1, p.2) record {
      done = return_no_value context part old new context.result type some c.in_err-value-in-Some.field-0.0 c.in_err-value-in-Some.ensures.value;
    }

pub returns-in_ok-value-in-Some : goal.returns-in_ok-value-in-Some
returns-in_ok-value-in-Some c =
    let context = context_of c.args.method.now in
    let scope = scope_of c.args.scope.now in
    let old = run_state c.args.run.now in
    let part = value context scope (view_exp c.args.exp.now) in
    let new = run_state c.evaluate_to.new.run in
    let type = view_type c.in-Some.kind.now in
    let some = ap (λ found. option_map view_type (option_copied found)) c.in-Some.is in
    record {
      done = return_is context part old new context.result type some (view_value c.in_ok-value-in-Some.value) c.in_ok-value-in-Some.ensures.value;
    }
