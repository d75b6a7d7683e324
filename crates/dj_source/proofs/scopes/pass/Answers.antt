use Rattle.std.proofs.Common.{refl, ◌∙◌}
use Rattle.std.specs.Prelude.{Err}
use Rattle.std.proofs.lemmas.Result.{err_from_is_err_and}
use Rattle.dj_static.specs.Scopes.{scope_of}
use Rattle.dj_objects.specs.Runs.{run_state}
use Rattle.dj_source.proofs.WhereLemmas.{where_stops}
use Rattle.dj_scopes.proofs.KeepingLemmas.{behind_more, behind_all}
use Rattle.dj_source.proofs.ListLemmas.{passing_at, pass_all, pass_more, pass_stops, passes_from}
use Rattle.dj_source.proofs.scopes.pass.Goals as goal

pub loop-statement-init : goal.loop-statement-init
loop-statement-init c = record { passed = λ next. refl; scope = refl; back = refl }

pub loop-statement-preserved : goal.loop-statement-preserved
loop-statement-preserved c =
    let list = c.args.list.now in
    let k = c.loop-statement.statement-index in
    let scope = scope_of c.loop-statement.scope in
    let after = scope_of c.pass_one.new.scope in
    record {
      passed = λ next. c.loop-statement.invariant.passed next
          ∙ pass_more list k c.loop-statement.kept.values scope (run_state c.loop-statement.run) c.statement-item.result c.pass_one.new.kept.values after (run_state c.pass_one.new.run) c.loop-statement-test.true c.statement-item.is
          c.in_ok-pass_one.ensures.scope c.in_ok-pass_one.ensures.passed next;
      scope = behind_more list k c.statement-item.result scope after _ c.loop-statement-test.true c.statement-item.is c.in_ok-pass_one.ensures.scope c.loop-statement.invariant.scope;
      back = c.in_ok-pass_one.ensures.back ∙ c.loop-statement.invariant.back;
    }

pub returns-in_err-pass_one : goal.returns-in_err-pass_one
returns-in_err-pass_one c =
    let p = err_from_is_err_and c.from_residual.result c.from_residual.ensures.1 in
    let list = c.args.list.now in
    let k = c.loop-statement.statement-index in
    let scope = scope_of c.loop-statement.scope in
    let after = scope_of c.pass_one.new.scope in
    let stop = c.in_err-pass_one.field-0.0 in
    rw (p.1, p.2) record {
      passed = λ next. passes_from (Err stop) c.pass_one.new.kept.values (run_state c.pass_one.new.run) next _ (passing_at list k c.loop-statement.kept.values scope (run_state c.loop-statement.run) next) (c.loop-statement.invariant.passed next)
          (pass_stops list k c.loop-statement.kept.values scope (run_state c.loop-statement.run) c.statement-item.result c.pass_one.new.kept.values after (run_state c.pass_one.new.run) c.loop-statement-test.true c.statement-item.is stop
          c.in_err-pass_one.ensures.passed next);
      scope = tt;
      back = where_stops stop _ _ (λ is. is ∙ c.loop-statement.invariant.back) c.in_err-pass_one.ensures.back;
    }

pub returns : goal.returns
returns c =
    let list = c.args.list.now in
    let k = c.loop-statement.statement-index in
    record {
      passed = λ next. c.loop-statement.invariant.passed next ∙ pass_all list k c.loop-statement.kept.values (scope_of c.loop-statement.scope) (run_state c.loop-statement.run) c.loop-statement-test.false next;
      scope = behind_all list k (scope_of c.loop-statement.scope) _ c.loop-statement-test.false c.loop-statement.invariant.scope;
      back = c.loop-statement.invariant.back;
    }
