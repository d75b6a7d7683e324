use Rattle.std.proofs.Common.{ap}
use Rattle.std.proofs.lemmas.Result.{err_from_is_err_and}
use Rattle.dj_syntax.specs.Trees.{view_exp}
use Rattle.dj_values.specs.Views.{view_value}
use Rattle.dj_values.specs.Outcomes.{bind}
use Rattle.dj_static.specs.Scopes.{scope_of}
use Rattle.dj_meaning.specs.Runs.{assigned, pure}
use Rattle.dj_meaning.specs.Expressions.{value}
use Rattle.dj_objects.specs.Runs.{context_of, run_state}
use Rattle.dj_evaluating.proofs.PartLemmas.{then_stops}
use Rattle.dj_source.proofs.running.step_on.Goals as goal

pub returns-in_err-assign-in-Some : goal.returns-in_err-assign-in-Some
returns-in_err-assign-in-Some c =
    let p = err_from_is_err_and c.from_residual.result c.from_residual.ensures.1 in
    let context = context_of c.args.method.now in
    let scope = scope_of c.args.scope.now in
    rw (p.1, p.2, c.in-Some.is) record {
      stepped = then_stops view_value (λ (done : Unit {0}). done) (assigned context.headers scope c.in-Some.variable (value context scope (view_exp c.in-Some.new.now))) (λ kept. pure tt) (run_state c.args.run.now) (run_state c.assign.new.run) c.in_err-assign-in-Some.field-0.0 c.in_err-assign-in-Some.ensures.assigned;
    }

pub returns-in_ok-assign-in-Some : goal.returns-in_ok-assign-in-Some
returns-in_ok-assign-in-Some c = rw c.in-Some.is record { stepped = ap (λ run. bind run (λ kept. pure tt)) c.in_ok-assign-in-Some.ensures.assigned }
