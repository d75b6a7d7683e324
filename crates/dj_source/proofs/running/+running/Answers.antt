use Rattle.std.proofs.Common.{◌≡◌, rules, arith, ◌+◌, drop, true, false, Some, None, refl, sym, ap, ◌∙◌, subst}
use Rattle.std.specs.Prelude.{Ok, Err, option_map}
use Rattle.std.proofs.lemmas.Result.{err_from_is_err_and}
use Rattle.dj_names.specs.Types.{Class}
use Rattle.dj_syntax.proofs.TreeViews.{view_if, view_try, view_for, view_finally}
use Rattle.dj_syntax.specs.Trees.{Stm, view_exp, view_stm, view_stms, view_groups, view_catches}
use Rattle.dj_values.specs.Views.{view_value, view_reference}
use Rattle.dj_values.specs.Outcomes.{Outcome, Stops, More, Stuck}
use Rattle.std.specs.Int.{w32}
use Rattle.std.proofs.lemmas.Int.{to_z-of_z}
use mir.Val.{SFits}
use Rattle.dj_outside.specs.declared.stop.Stop.TheVariants as stops
use Rattle.dj_outside.specs.Runs.{Ends}
use Rattle.dj_static.specs.Scopes.{scope_of}
use Rattle.dj_meaning.specs.StaticTypes.{with_type}
use Rattle.dj_meaning.specs.Runs.{Store, pure, with_store, with_value}
use Rattle.dj_meaning.specs.Expressions.{either}
use Rattle.dj_meaning.specs.Completions.{Completion, Normal, sequence, handled, finished}
use Rattle.dj_meaning.specs.Declarations.{declared, within, passed}
use Rattle.dj_meaning.specs.Meaning.{run, run_then, run_all, run_from, run_clauses}
use Rattle.dj_objects.specs.Runs.{context_of, run_state, store_of}
use Rattle.dj_scopes.specs.Keeping.{scope_back}
use Rattle.dj_scopes.proofs.KeepingLemmas.{scope_kept, behind_more, behind_all}
use Rattle.dj_source.specs.Keeping.{store_back, back}
use Rattle.dj_source.specs.declared.completion.Completion.TheVariants as completions
use Rattle.dj_source.specs.declared.completion.Completion as code_completion
use Rattle.dj_source.specs.Running.{Opens, WhereItEnds, begun, caught_body, view_completion, view_place}
use Rattle.dj_source.proofs.WhereLemmas.{stops_same, where_same, where_then, where_stops, back_there}
use Rattle.dj_source.proofs.ListLemmas.{opened_at, not_normal, open_all, open_ran, open_left, open_stops, opens_from, closes, closes_one}
use Rattle.dj_source.proofs.LoopLemmas.{turn_no_body, turn_leaves, turn_no_step, turn_steps, while_stops, while_done, while_cut, while_turn, while_left, while_turn_stops, do_left, do_turn_stops, do_more, do_done, do_test_stops, do_cut_off}
use Rattle.dj_source.proofs.SwitchLemmas.{rest_of, left_all, group_ran, group_stops, group_left, clause_here, clause_next, clause_none}
use Rattle.dj_source.proofs.PieceLemmas.{if_stops, if_ends, labelled_stops, labelled_ends, finally_stops, finally_ends, thrown_stops, thrown_ends, switch_stops, switch_no_number, switch_nowhere, switch_ends, holding_stops, holding_no_entry, holding_is, holding_done, holding_thrown, holding_done_stops, holding_thrown_stops, caught_stops, caught_ends}
use Rattle.dj_headers.proofs.TypeViews.{view-class}
use Rattle.dj_source.proofs.running.+running.Goals as goal

pub run_kept-returns-clause-scope : goal.run_kept-returns-clause-scope
run_kept-returns-clause-scope t c =
    let scope = scope_of c.args.scope.now in
    let after = scope_of c.run_statement.new.scope in
    let kept = c.keep_declared.new.kept in
    let one = declared (view_stm c.args.inner.now) in
    where_then c.run_statement.result (after ≡ within one scope) (scope_back kept after ≡ scope_back c.args.kept.now scope) (scope_kept c.args.kept.now kept one scope after c.in_ok-keep_declared.ensures.kept) c.run_statement.ensures.scope

pub run_inner-returns-clause-scope : goal.run_inner-returns-clause-scope
run_inner-returns-clause-scope t c =
    where_then c.run_kept-outcome.result _ _ (λ is. c.in_ok-put_back.ensures.put ∙ is ∙ ap (λ list. scope_back list (scope_of c.args.scope.now)) c.new-kept.ensures) c.run_kept-outcome.ensures.scope

pub run_labelled-returns-in_err-completion : goal.run_labelled-returns-in_err-completion
run_labelled-returns-in_err-completion t c =
    let p = err_from_is_err_and c.from_residual.result c.from_residual.ensures.1 in
    let context = context_of c.args.method.now in
    let bound = c.args.method.now.bound in
    let scope = scope_of c.args.scope.now in
    let old = run_state c.args.run.now in
    let inner = view_stm c.args.inner.now in
    let middle = run_state c.run_inner.new.run in
    rw (p.1, p.2) record {
      done = labelled_stops context scope bound old middle c.args.label inner c.in_err-completion.field-0.0 c.in_err-completion.ensures.done;
      scope = c.in_err-completion.ensures.scope;
    }

pub run_labelled-returns : goal.run_labelled-returns
run_labelled-returns t c =
    let context = context_of c.args.method.now in
    let bound = c.args.method.now.bound in
    let scope = scope_of c.args.scope.now in
    let old = run_state c.args.run.now in
    let inner = view_stm c.args.inner.now in
    let middle = run_state c.run_inner.new.run in
    record {
      done = labelled_ends context scope bound old middle c.args.label inner c.taken.result (view_completion c.in_ok-completion.completion) c.in_ok-completion.ensures.done (c.taken.ensures.taken middle);
      scope = where_same c.taken.result _ c.in_ok-completion.ensures.scope;
    }

pub run_handlers-returns-in-Ok : goal.run_handlers-returns-in-Ok
run_handlers-returns-in-Ok t c =
    let context = context_of c.args.method.now in
    let bound = c.args.method.now.bound in
    let scope = scope_of c.args.scope.now in
    let old = run_state c.args.run.now in
    let clauses = view_catches c.args.clauses.now in
    record {
      done = λ there first same ends. ap (handled (run_clauses context there bound clauses)) (subst (λ one. Ends view_completion one old first) c.in-Ok.is ends);
      scope = λ there same. (back_there c.args.outcome (Ok c.in-Ok.completion) (scope ≡ there) c.in-Ok.is same);
    }

pub run_handlers-returns-in-Err-Throws : goal.run_handlers-returns-in-Err-Throws
run_handlers-returns-in-Err-Throws t c =
    let context = context_of c.args.method.now in
    let bound = c.args.method.now.bound in
    let scope = scope_of c.args.scope.now in
    let old = run_state c.args.run.now in
    let clauses = view_catches c.args.clauses.now in
    let new = run_state c.run_clauses.new.run in
    let reference = view_reference c.in-Err-Throws.reference in
    record {
      done = λ there first same ends.
          subst (λ (run : Outcome Store Completion). Ends view_completion c.run_clauses.result new run)
          (ap (λ types. run_clauses context types bound clauses reference old) (back_there c.args.outcome (Err (stops.Throws c.in-Err-Throws.reference)) (scope ≡ there) (c.in-Err-Throws.is ∙ ap Err c.in-Err-Throws.field-0-is) same) ∙ sym (ap (handled (run_clauses context there bound clauses)) (subst (λ one. Ends view_completion one old first) (c.in-Err-Throws.is ∙ ap Err c.in-Err-Throws.field-0-is) ends))) c.run_clauses.ensures.done;
      scope = λ there same. where_then c.run_clauses.result _ _ (λ is. is ∙ (back_there c.args.outcome (Err (stops.Throws c.in-Err-Throws.reference)) (scope ≡ there) (c.in-Err-Throws.is ∙ ap Err c.in-Err-Throws.field-0-is) same)) c.run_clauses.ensures.scope;
    }

pub run_handlers-returns-in-Err-More : goal.run_handlers-returns-in-Err-More
run_handlers-returns-in-Err-More t c =
    let context = context_of c.args.method.now in
    let bound = c.args.method.now.bound in
    let scope = scope_of c.args.scope.now in
    let old = run_state c.args.run.now in
    let clauses = view_catches c.args.clauses.now in
    record {
      done = λ there first same ends. ap (handled (run_clauses context there bound clauses)) (subst (λ one. Ends view_completion one old first) (c.in-Err-More.is ∙ ap Err c.in-Err-More.field-0-is) ends);
      scope = λ there same. tt;
    }

pub run_handlers-returns-in-Err-Stuck : goal.run_handlers-returns-in-Err-Stuck
run_handlers-returns-in-Err-Stuck t c =
    let context = context_of c.args.method.now in
    let bound = c.args.method.now.bound in
    let scope = scope_of c.args.scope.now in
    let old = run_state c.args.run.now in
    let clauses = view_catches c.args.clauses.now in
    record {
      done = λ there first same ends. ap (handled (run_clauses context there bound clauses)) (subst (λ one. Ends view_completion one old first) (c.in-Err-Stuck.is ∙ ap Err c.in-Err-Stuck.field-0-is) ends);
      scope = λ there same. tt;
    }

pub run_last-returns-in_err-end-in-Ok : goal.run_last-returns-in_err-end-in-Ok
run_last-returns-in_err-end-in-Ok t c =
    let p = err_from_is_err_and c.from_residual.result c.from_residual.ensures.1 in
    let context = context_of c.args.method.now in
    let bound = c.args.method.now.bound in
    let scope = scope_of c.args.scope.now in
    let old = run_state c.args.run.now in
    let last = view_stms c.args.last.now in
    let middle = run_state c.run_list.new.run in
    let stop = c.in_err-end-in-Ok.field-0.0 in
    rw (p.1, p.2) record {
      done = λ there first same ends.
          finally_stops context there bound old middle last first (view_completion c.in-Ok.completion) (subst (λ one. Ends view_completion one old first) c.in-Ok.is ends) stop
          (subst (λ types. Ends view_completion (Err stop) middle (run_all context types bound last old)) (back_there c.args.before (Ok c.in-Ok.completion) (scope ≡ there) c.in-Ok.is same) c.in_err-end-in-Ok.ensures.done);
      scope = λ there same. where_stops stop _ _ (λ is. is ∙ (back_there c.args.before (Ok c.in-Ok.completion) (scope ≡ there) c.in-Ok.is same)) c.in_err-end-in-Ok.ensures.scope;
    }

pub run_last-returns-in_ok-end-in-Ok : goal.run_last-returns-in_ok-end-in-Ok
run_last-returns-in_ok-end-in-Ok t c =
    let context = context_of c.args.method.now in
    let bound = c.args.method.now.bound in
    let scope = scope_of c.args.scope.now in
    let old = run_state c.args.run.now in
    let last = view_stms c.args.last.now in
    let middle = run_state c.run_list.new.run in
    let end = view_completion c.in_ok-end-in-Ok.end in
    record {
      done = λ there first same ends.
          finally_ends context there bound old middle last first (view_completion c.in-Ok.completion) (subst (λ one. Ends view_completion one old first) c.in-Ok.is ends) end (view_completion c.after_last.result)
          (ap (λ types. run_all context types bound last old) (sym (back_there c.args.before (Ok c.in-Ok.completion) (scope ≡ there) c.in-Ok.is same)) ∙ c.in_ok-end-in-Ok.ensures.done) (c.after_last.ensures.same middle);
      scope = λ there same. c.in_ok-end-in-Ok.ensures.scope ∙ (back_there c.args.before (Ok c.in-Ok.completion) (scope ≡ there) c.in-Ok.is same);
    }

pub run_last-returns-in_err-end-in-Err-Throws : goal.run_last-returns-in_err-end-in-Err-Throws
run_last-returns-in_err-end-in-Err-Throws t c =
    let p = err_from_is_err_and c.from_residual-in_err-end-in-Err-Throws.result c.from_residual-in_err-end-in-Err-Throws.ensures.1 in
    let context = context_of c.args.method.now in
    let bound = c.args.method.now.bound in
    let scope = scope_of c.args.scope.now in
    let old = run_state c.args.run.now in
    let last = view_stms c.args.last.now in
    let later = run_state c.run_list-in-Err-Throws.new.run in
    let stop = c.in_err-end-in-Err-Throws.field-0.0 in
    rw (p.1, p.2) record {
      done = λ there first same ends.
          thrown_stops context there bound old later last first (view_reference c.in-Err-Throws.reference) (subst (λ one. Ends view_completion one old first) (c.in-Err-Throws.is ∙ ap Err c.in-Err-Throws.field-0-is) ends) stop
          (subst (λ types. Ends view_completion (Err stop) later (run_all context types bound last old)) (back_there c.args.before (Err (stops.Throws c.in-Err-Throws.reference)) (scope ≡ there) (c.in-Err-Throws.is ∙ ap Err c.in-Err-Throws.field-0-is) same) c.in_err-end-in-Err-Throws.ensures.done);
      scope = λ there same. where_stops stop _ _ (λ is. is ∙ (back_there c.args.before (Err (stops.Throws c.in-Err-Throws.reference)) (scope ≡ there) (c.in-Err-Throws.is ∙ ap Err c.in-Err-Throws.field-0-is) same)) c.in_err-end-in-Err-Throws.ensures.scope;
    }

pub run_last-returns-in_ok-end-in-Err-Throws : goal.run_last-returns-in_ok-end-in-Err-Throws
run_last-returns-in_ok-end-in-Err-Throws t c =
    let context = context_of c.args.method.now in
    let bound = c.args.method.now.bound in
    let scope = scope_of c.args.scope.now in
    let old = run_state c.args.run.now in
    let last = view_stms c.args.last.now in
    let later = run_state c.run_list-in-Err-Throws.new.run in
    let end = view_completion c.in_ok-end-in-Err-Throws.end in
    record {
      done = λ there first same ends.
          thrown_ends context there bound old later last first (view_reference c.in-Err-Throws.reference) (subst (λ one. Ends view_completion one old first) (c.in-Err-Throws.is ∙ ap Err c.in-Err-Throws.field-0-is) ends) c.thrown_after.result end
          (ap (λ types. run_all context types bound last old) (sym (back_there c.args.before (Err (stops.Throws c.in-Err-Throws.reference)) (scope ≡ there) (c.in-Err-Throws.is ∙ ap Err c.in-Err-Throws.field-0-is) same)) ∙ c.in_ok-end-in-Err-Throws.ensures.done) (c.thrown_after.ensures.same later);
      scope = λ there same. where_same c.thrown_after.result _ (c.in_ok-end-in-Err-Throws.ensures.scope ∙ (back_there c.args.before (Err (stops.Throws c.in-Err-Throws.reference)) (scope ≡ there) (c.in-Err-Throws.is ∙ ap Err c.in-Err-Throws.field-0-is) same));
    }

pub run_last-returns-in-Err-More : goal.run_last-returns-in-Err-More
run_last-returns-in-Err-More t c =
    let context = context_of c.args.method.now in
    let bound = c.args.method.now.bound in
    let scope = scope_of c.args.scope.now in
    let old = run_state c.args.run.now in
    let last = view_stms c.args.last.now in
    record {
      done = λ there first same ends. ap (finished (run_all context there bound last)) (subst (λ one. Ends view_completion one old first) (c.in-Err-More.is ∙ ap Err c.in-Err-More.field-0-is) ends);
      scope = λ there same. tt;
    }

pub run_last-returns-in-Err-Stuck : goal.run_last-returns-in-Err-Stuck
run_last-returns-in-Err-Stuck t c =
    let context = context_of c.args.method.now in
    let bound = c.args.method.now.bound in
    let scope = scope_of c.args.scope.now in
    let old = run_state c.args.run.now in
    let last = view_stms c.args.last.now in
    record {
      done = λ there first same ends. ap (finished (run_all context there bound last)) (subst (λ one. Ends view_completion one old first) (c.in-Err-Stuck.is ∙ ap Err c.in-Err-Stuck.field-0-is) ends);
      scope = λ there same. tt;
    }

pub run_statement-returns-in_err-holds-in-If : goal.run_statement-returns-in_err-holds-in-If
run_statement-returns-in_err-holds-in-If t c =
    let p = err_from_is_err_and c.from_residual.result c.from_residual.ensures.1 in
    let context = context_of c.args.method.now in
    let bound = c.args.method.now.bound in
    let scope = scope_of c.args.scope.now in
    let place = view_place c.args.place in
    let old = run_state c.args.run.now in
    let condition = view_exp c.in-If.condition in
    let first = view_stms c.in-If.first in
    let second = view_stms c.in-If.second in
    let tree = ap view_stm c.in-If.is ∙ view_if c.in-If.condition c.in-If.first c.in-If.second in
    let middle = run_state c.test.new.run in
    let stop = c.in_err-holds-in-If.field-0.0 in
    rw (p.1, p.2) record {
      done = subst (λ (one : Stm). Ends view_completion (Err stop) middle (run context scope bound place one old)) (sym tree) (if_stops context scope bound old middle condition first second stop c.in_err-holds-in-If.ensures.test);
      scope = subst (λ (one : Stm). WhereItEnds {A = code_completion.Completion} (Err stop) (scope ≡ within (declared one) scope)) (sym tree) (stops_same stop (scope ≡ scope) refl);
    }

pub run_statement-returns-then-holds : goal.run_statement-returns-then-holds
run_statement-returns-then-holds t c =
    let context = context_of c.args.method.now in
    let bound = c.args.method.now.bound in
    let scope = scope_of c.args.scope.now in
    let place = view_place c.args.place in
    let old = run_state c.args.run.now in
    let condition = view_exp c.in-If.condition in
    let first = view_stms c.in-If.first in
    let second = view_stms c.in-If.second in
    let tree = ap view_stm c.in-If.is ∙ view_if c.in-If.condition c.in-If.first c.in-If.second in
    let middle = run_state c.test.new.run in
    let new = run_state c.run_list-then-holds.new.run in
    let after = scope_of c.run_list-then-holds.new.scope in
    record {
      done = subst (λ (one : Stm). Ends view_completion c.run_list-then-holds.result new (run context scope bound place one old)) (sym tree)
          (if_ends context scope bound old middle condition first second c.run_list-then-holds.result c.in_ok-holds-in-If.holds true new c.in_ok-holds-in-If.ensures.test c.if-holds.true (rw c.as_slice-then-holds.ensures at c.run_list-then-holds.ensures.done));
      scope = subst (λ (one : Stm). WhereItEnds c.run_list-then-holds.result (after ≡ within (declared one) scope)) (sym tree) c.run_list-then-holds.ensures.scope;
    }

pub run_statement-returns-else-holds : goal.run_statement-returns-else-holds
run_statement-returns-else-holds t c =
    let context = context_of c.args.method.now in
    let bound = c.args.method.now.bound in
    let scope = scope_of c.args.scope.now in
    let place = view_place c.args.place in
    let old = run_state c.args.run.now in
    let condition = view_exp c.in-If.condition in
    let first = view_stms c.in-If.first in
    let second = view_stms c.in-If.second in
    let tree = ap view_stm c.in-If.is ∙ view_if c.in-If.condition c.in-If.first c.in-If.second in
    let middle = run_state c.test.new.run in
    let new = run_state c.run_list-else-holds.new.run in
    let after = scope_of c.run_list-else-holds.new.scope in
    record {
      done = subst (λ (one : Stm). Ends view_completion c.run_list-else-holds.result new (run context scope bound place one old)) (sym tree)
          (if_ends context scope bound old middle condition first second c.run_list-else-holds.result c.in_ok-holds-in-If.holds false new c.in_ok-holds-in-If.ensures.test c.if-holds.false (rw c.as_slice-else-holds.ensures at c.run_list-else-holds.ensures.done));
      scope = subst (λ (one : Stm). WhereItEnds c.run_list-else-holds.result (after ≡ within (declared one) scope)) (sym tree) c.run_list-else-holds.ensures.scope;
    }

pub run_statement-returns-in-Try : goal.run_statement-returns-in-Try
run_statement-returns-in-Try t c =
    let context = context_of c.args.method.now in
    let bound = c.args.method.now.bound in
    let scope = scope_of c.args.scope.now in
    let place = view_place c.args.place in
    let old = run_state c.args.run.now in
    let body = view_stms c.in-Try.body in
    let clauses = view_catches c.in-Try.clauses in
    let tree = ap view_stm c.in-Try.is ∙ view_try c.in-Try.body c.in-Try.clauses in
    let new = run_state c.run_handlers.new.run in
    let after = scope_of c.run_handlers.new.scope in
    record {
      done = subst (λ (one : Stm). Ends view_completion c.run_handlers.result new (run context scope bound place one old)) (sym tree)
          ((rw c.as_slice-in-Try-2.ensures at c.run_handlers.ensures.done) scope (run_all context scope bound body old) c.run_list-outcome.ensures.scope (rw c.as_slice-in-Try.ensures at c.run_list-outcome.ensures.done));
      scope = subst (λ (one : Stm). WhereItEnds c.run_handlers.result (after ≡ within (declared one) scope)) (sym tree) (c.run_handlers.ensures.scope scope c.run_list-outcome.ensures.scope);
    }

pub run_statement-returns-in-Finally : goal.run_statement-returns-in-Finally
run_statement-returns-in-Finally t c =
    let context = context_of c.args.method.now in
    let bound = c.args.method.now.bound in
    let scope = scope_of c.args.scope.now in
    let place = view_place c.args.place in
    let old = run_state c.args.run.now in
    let body = view_stms c.in-Finally.body in
    let last = view_stms c.in-Finally.last in
    let tree = ap view_stm c.in-Finally.is ∙ view_finally c.in-Finally.body c.in-Finally.last in
    let new = run_state c.run_last.new.run in
    let after = scope_of c.run_last.new.scope in
    record {
      done = subst (λ (one : Stm). Ends view_completion c.run_last.result new (run context scope bound place one old)) (sym tree)
          ((rw c.as_slice-in-Finally-2.ensures at c.run_last.ensures.done) scope (run_all context scope bound body old) c.run_list-outcome-in-Finally.ensures.scope (rw c.as_slice-in-Finally.ensures at c.run_list-outcome-in-Finally.ensures.done));
      scope = subst (λ (one : Stm). WhereItEnds c.run_last.result (after ≡ within (declared one) scope)) (sym tree) (c.run_last.ensures.scope scope c.run_list-outcome-in-Finally.ensures.scope);
    }

pub run_statement-returns-in-For-clause-done : goal.run_statement-returns-in-For-clause-done
run_statement-returns-in-For-clause-done t c =
    let context = context_of c.args.method.now in
    let bound = c.args.method.now.bound in
    let scope = scope_of c.args.scope.now in
    let place = view_place c.args.place in
    let old = run_state c.args.run.now in
    let tree = ap view_stm c.in-For.is ∙ view_for c.in-For.condition c.in-For.variable c.in-For.step c.in-For.body in
    let new = run_state c.run_loop-in-For.new.run in
    subst (λ (one : Stm). Ends view_completion c.run_loop-in-For.result new (run context scope bound place one old)) (sym tree) (rw c.as_slice-in-For.ensures at c.run_loop-in-For.ensures.done)

pub run_open-loop-statement-init : goal.run_open-loop-statement-init
run_open-loop-statement-init t c =
    record {
      opens = λ next. refl;
      scope = refl;
      behind = refl;
    }

pub run_open-loop-statement-preserved : goal.run_open-loop-statement-preserved
run_open-loop-statement-preserved t c =
    let context = context_of c.args.method.now in
    let bound = c.args.method.now.bound in
    let list = c.args.list.now in
    let k = c.loop-statement.statement-index in
    let kept = c.loop-statement.kept.values in
    let more = c.keep_declared.new.kept.values in
    let here = scope_of c.loop-statement.scope in
    let after = scope_of c.run_statement.new.scope in
    let place = view_place c.loop-statement.place in
    let state = run_state c.loop-statement.run in
    let new = run_state c.run_statement.new.run in
    let stm = c.statement-item.result in
    let one = declared (view_stm c.statement-item.result) in
    record {
      opens = λ next. c.loop-statement.invariant.opens next ∙ open_ran context bound list k kept here place state stm more c.loop-statement-test.true c.statement-item.is c.in_ok-keep_declared.ensures.store new c.in_ok-completion.completion c.in_ok-completion.ensures.done next
          ∙ ap (λ completion. back more (sequence (run_then context (within one here) bound (view_stms (drop (k + 1) list)) next) (view_completion completion) new)) c.in-Normal.is
          ∙ ap (λ types. back more (run_then context types bound (view_stms (drop (k + 1) list)) next new)) (sym c.in_ok-completion.ensures.scope);
      scope = scope_kept c.loop-statement.kept.kinds c.keep_declared.new.kept.kinds one here after c.in_ok-keep_declared.ensures.scope c.in_ok-completion.ensures.scope ∙ c.loop-statement.invariant.scope;
      behind = behind_more list k stm here after _ c.loop-statement-test.true c.statement-item.is c.in_ok-completion.ensures.scope c.loop-statement.invariant.behind;
    }

pub run_open-returns-in_err-completion : goal.run_open-returns-in_err-completion
run_open-returns-in_err-completion t c =
    let p = err_from_is_err_and c.from_residual-in_err-completion.result c.from_residual-in_err-completion.ensures.1 in
    let context = context_of c.args.method.now in
    let bound = c.args.method.now.bound in
    let list = c.args.list.now in
    let k = c.loop-statement.statement-index in
    let kept = c.loop-statement.kept.values in
    let more = c.keep_declared.new.kept.values in
    let here = scope_of c.loop-statement.scope in
    let after = scope_of c.run_statement.new.scope in
    let place = view_place c.loop-statement.place in
    let state = run_state c.loop-statement.run in
    let new = run_state c.run_statement.new.run in
    let stm = c.statement-item.result in
    let one = declared (view_stm c.statement-item.result) in
    rw (p.1, p.2) record {
      opens = λ next. opens_from (Err c.in_err-completion.field-0.0) more new next _ (opened_at context bound list k kept here place state next) (c.loop-statement.invariant.opens next) (open_stops context bound list k kept here place state stm more c.loop-statement-test.true c.statement-item.is c.in_ok-keep_declared.ensures.store new c.in_err-completion.field-0.0 c.in_err-completion.ensures.done next);
      scope = where_stops c.in_err-completion.field-0.0 _ _ (λ is. scope_kept c.loop-statement.kept.kinds c.keep_declared.new.kept.kinds one here after c.in_ok-keep_declared.ensures.scope is ∙ c.loop-statement.invariant.scope) c.in_err-completion.ensures.scope;
      behind = tt;
    }

pub run_open-returns-in_default : goal.run_open-returns-in_default
run_open-returns-in_default t c =
    let context = context_of c.args.method.now in
    let bound = c.args.method.now.bound in
    let list = c.args.list.now in
    let k = c.loop-statement.statement-index in
    let kept = c.loop-statement.kept.values in
    let more = c.keep_declared.new.kept.values in
    let here = scope_of c.loop-statement.scope in
    let after = scope_of c.run_statement.new.scope in
    let place = view_place c.loop-statement.place in
    let state = run_state c.loop-statement.run in
    let new = run_state c.run_statement.new.run in
    let stm = c.statement-item.result in
    let one = declared (view_stm c.statement-item.result) in
    record {
      opens = λ next. c.loop-statement.invariant.opens next ∙ open_left context bound list k kept here place state stm more c.loop-statement-test.true c.statement-item.is c.in_ok-keep_declared.ensures.store new c.in_ok-completion.completion c.in_default.not-Normal c.in_ok-completion.ensures.done next;
      scope = scope_kept c.loop-statement.kept.kinds c.keep_declared.new.kept.kinds one here after c.in_ok-keep_declared.ensures.scope c.in_ok-completion.ensures.scope ∙ c.loop-statement.invariant.scope;
      behind = λ is. absurd (not_normal c.in_ok-completion.completion c.in_default.not-Normal is);
    }

pub run_open-returns : goal.run_open-returns
run_open-returns t c =
    let context = context_of c.args.method.now in
    let bound = c.args.method.now.bound in
    let list = c.args.list.now in
    let k = c.loop-statement.statement-index in
    let kept = c.loop-statement.kept.values in
    let here = scope_of c.loop-statement.scope in
    let place = view_place c.loop-statement.place in
    let state = run_state c.loop-statement.run in
    record {
      opens = λ next. c.loop-statement.invariant.opens next ∙ open_all context bound list k kept here place state c.loop-statement-test.false next;
      scope = c.loop-statement.invariant.scope;
      behind = λ is. behind_all list k here _ c.loop-statement-test.false c.loop-statement.invariant.behind;
    }

pub run_list-returns : goal.run_list-returns
run_list-returns t c =
    let context = context_of c.args.method.now in
    let bound = c.args.method.now.bound in
    let scope = scope_of c.args.scope.now in
    let old = run_state c.args.run.now in
    let middle = run_state c.run_open-outcome.new.run in
    let new = run_state c.put_back.new.run in
    let whole = begun context scope bound (view_place c.args.first) (view_stms c.args.list.now) (pure Normal) old in
    record {
      done = closes c.run_open-outcome.result c.nothing_kept-kept.result.values c.run_open-outcome.new.kept.values middle new whole c.nothing_kept-kept.ensures.values (c.run_open-outcome.ensures.opens (pure Normal)) c.in_ok-put_back.ensures.store;
      scope = where_then c.run_open-outcome.result _ _ (λ is. c.in_ok-put_back.ensures.scope ∙ is ∙ ap (λ list. scope_back list scope) c.nothing_kept-kept.ensures.kinds) c.run_open-outcome.ensures.scope;
    }

pub run_turn-returns-in_err-completion : goal.run_turn-returns-in_err-completion
run_turn-returns-in_err-completion t c =
    let p = err_from_is_err_and c.from_residual.result c.from_residual.ensures.1 in
    let context = context_of c.args.method.now in
    let bound = c.args.method.now.bound in
    let scope = scope_of c.args.scope.now in
    let old = run_state c.args.run.now in
    let body = view_stms c.args.body.now in
    let place = view_place c.args.place in
    let step = option_map (λ one. (one.0, view_exp one.1.now)) c.args.step in
    let middle = run_state c.run_list.new.run in
    rw (p.1, p.2) record {
      turns = turn_no_body context scope bound place body step old middle c.in_err-completion.field-0.0 c.in_err-completion.ensures.done;
      scope = c.in_err-completion.ensures.scope;
    }

pub run_turn-returns-then-not-goes_on : goal.run_turn-returns-then-not-goes_on
run_turn-returns-then-not-goes_on t c =
    let context = context_of c.args.method.now in
    let bound = c.args.method.now.bound in
    let scope = scope_of c.args.scope.now in
    let old = run_state c.args.run.now in
    let body = view_stms c.args.body.now in
    let place = view_place c.args.place in
    let step = option_map (λ one. (one.0, view_exp one.1.now)) c.args.step in
    let middle = run_state c.run_list.new.run in
    record {
      turns = turn_leaves context scope bound place body step old middle (view_completion c.in_ok-completion.completion) c.in_ok-completion.ensures.done c.goes_on.result false c.goes_on.ensures.goes c.if-not-goes_on.true refl;
      scope = c.in_ok-completion.ensures.scope;
    }

pub run_turn-returns-in_err-step_on : goal.run_turn-returns-in_err-step_on
run_turn-returns-in_err-step_on t c =
    let p = err_from_is_err_and c.from_residual-in_err-step_on.result c.from_residual-in_err-step_on.ensures.1 in
    let context = context_of c.args.method.now in
    let bound = c.args.method.now.bound in
    let scope = scope_of c.args.scope.now in
    let old = run_state c.args.run.now in
    let body = view_stms c.args.body.now in
    let place = view_place c.args.place in
    let step = option_map (λ one. (one.0, view_exp one.1.now)) c.args.step in
    let middle = run_state c.run_list.new.run in
    let new = run_state c.step_on.new.run in
    let here = scope_of c.run_list.new.scope in
    rw (p.1, p.2) record {
      turns = turn_no_step context scope bound place body step old middle (view_completion c.in_ok-completion.completion) c.in_ok-completion.ensures.done c.goes_on.result true c.goes_on.ensures.goes c.if-not-goes_on.false refl here c.in_ok-completion.ensures.scope new c.in_err-step_on.field-0.0 c.in_err-step_on.ensures.stepped;
      scope = stops_same c.in_err-step_on.field-0.0 _ c.in_ok-completion.ensures.scope;
    }

pub run_turn-returns : goal.run_turn-returns
run_turn-returns t c =
    let context = context_of c.args.method.now in
    let bound = c.args.method.now.bound in
    let scope = scope_of c.args.scope.now in
    let old = run_state c.args.run.now in
    let body = view_stms c.args.body.now in
    let place = view_place c.args.place in
    let step = option_map (λ one. (one.0, view_exp one.1.now)) c.args.step in
    let middle = run_state c.run_list.new.run in
    let new = run_state c.step_on.new.run in
    let here = scope_of c.run_list.new.scope in
    record {
      turns = turn_steps context scope bound place body step old middle (view_completion c.in_ok-completion.completion) c.in_ok-completion.ensures.done c.goes_on.result true c.goes_on.ensures.goes c.if-not-goes_on.false refl here c.in_ok-completion.ensures.scope new c.in_ok-step_on.ensures.stepped;
      scope = c.in_ok-completion.ensures.scope;
    }

pub run_loop-loop-left-init : goal.run_loop-loop-left-init
run_loop-loop-left-init t c =
    record {
      turns = refl;
      scope = refl;
    }

pub run_loop-loop-left-preserved : goal.run_loop-loop-left-preserved
run_loop-loop-left-preserved t c =
    let context = context_of c.args.method.now in
    let bound = c.args.method.now.bound in
    let scope = scope_of c.args.scope.now in
    let place = view_place c.args.place in
    let condition = view_exp c.args.condition.now in
    let step = option_map (λ one. (one.0, view_exp one.1.now)) c.args.step in
    let body = view_stms c.args.body.now in
    let left = c.loop-left.left in
    let here = scope_of c.loop-left.scope in
    let same = c.loop-left.invariant.scope in
    let so_far = c.loop-left.invariant.turns in
    let state = run_state c.loop-left.run in
    let after = run_state c.test.new.run in
    let new = run_state c.run_turn.new.run in
    record {
      turns = while_turn context scope bound place condition step body _ left here same state so_far after c.in_ok-holds.holds c.loop-left-test.true c.in_ok-holds.ensures.test c.if-not-holds.false new (rw c.in_default.is at c.in_ok-turn.ensures.turns);
      scope = c.in_ok-turn.ensures.scope ∙ same;
    }

pub run_loop-returns-in_err-holds : goal.run_loop-returns-in_err-holds
run_loop-returns-in_err-holds t c =
    let p = err_from_is_err_and c.from_residual.result c.from_residual.ensures.1 in
    let context = context_of c.args.method.now in
    let bound = c.args.method.now.bound in
    let scope = scope_of c.args.scope.now in
    let place = view_place c.args.place in
    let condition = view_exp c.args.condition.now in
    let step = option_map (λ one. (one.0, view_exp one.1.now)) c.args.step in
    let body = view_stms c.args.body.now in
    let left = c.loop-left.left in
    let here = scope_of c.loop-left.scope in
    let same = c.loop-left.invariant.scope in
    let so_far = c.loop-left.invariant.turns in
    let state = run_state c.loop-left.run in
    let after = run_state c.test.new.run in
    rw (p.1, p.2) record {
      done = while_stops context scope bound place condition step body _ left here same state so_far after c.in_err-holds.field-0.0 c.in_err-holds.ensures.test;
      scope = stops_same c.in_err-holds.field-0.0 _ same;
    }

pub run_loop-returns-then-not-holds : goal.run_loop-returns-then-not-holds
run_loop-returns-then-not-holds t c =
    let context = context_of c.args.method.now in
    let bound = c.args.method.now.bound in
    let scope = scope_of c.args.scope.now in
    let place = view_place c.args.place in
    let condition = view_exp c.args.condition.now in
    let step = option_map (λ one. (one.0, view_exp one.1.now)) c.args.step in
    let body = view_stms c.args.body.now in
    let left = c.loop-left.left in
    let here = scope_of c.loop-left.scope in
    let same = c.loop-left.invariant.scope in
    let so_far = c.loop-left.invariant.turns in
    let state = run_state c.loop-left.run in
    let after = run_state c.test.new.run in
    record {
      done = while_done context scope bound place condition step body _ left here same state so_far after c.in_ok-holds.holds c.in_ok-holds.ensures.test c.if-not-holds.true;
      scope = same;
    }

pub run_loop-returns-in_err-turn : goal.run_loop-returns-in_err-turn
run_loop-returns-in_err-turn t c =
    let p = err_from_is_err_and c.from_residual-in_err-turn.result c.from_residual-in_err-turn.ensures.1 in
    let context = context_of c.args.method.now in
    let bound = c.args.method.now.bound in
    let scope = scope_of c.args.scope.now in
    let place = view_place c.args.place in
    let condition = view_exp c.args.condition.now in
    let step = option_map (λ one. (one.0, view_exp one.1.now)) c.args.step in
    let body = view_stms c.args.body.now in
    let left = c.loop-left.left in
    let here = scope_of c.loop-left.scope in
    let same = c.loop-left.invariant.scope in
    let so_far = c.loop-left.invariant.turns in
    let state = run_state c.loop-left.run in
    let after = run_state c.test.new.run in
    let new = run_state c.run_turn.new.run in
    rw (p.1, p.2) record {
      done = while_turn_stops context scope bound place condition step body _ left here same state so_far after c.in_ok-holds.holds c.loop-left-test.true c.in_ok-holds.ensures.test c.if-not-holds.false new c.in_err-turn.field-0.0 c.in_err-turn.ensures.turns;
      scope = where_stops c.in_err-turn.field-0.0 _ _ (λ is. is ∙ same) c.in_err-turn.ensures.scope;
    }

pub run_loop-returns-in-Some : goal.run_loop-returns-in-Some
run_loop-returns-in-Some t c =
    let context = context_of c.args.method.now in
    let bound = c.args.method.now.bound in
    let scope = scope_of c.args.scope.now in
    let place = view_place c.args.place in
    let condition = view_exp c.args.condition.now in
    let step = option_map (λ one. (one.0, view_exp one.1.now)) c.args.step in
    let body = view_stms c.args.body.now in
    let left = c.loop-left.left in
    let here = scope_of c.loop-left.scope in
    let same = c.loop-left.invariant.scope in
    let so_far = c.loop-left.invariant.turns in
    let state = run_state c.loop-left.run in
    let after = run_state c.test.new.run in
    let new = run_state c.run_turn.new.run in
    record {
      done = while_left context scope bound place condition step body _ left here same state so_far after c.in_ok-holds.holds c.loop-left-test.true c.in_ok-holds.ensures.test c.if-not-holds.false new c.in-Some.completion (rw c.in-Some.is at c.in_ok-turn.ensures.turns);
      scope = c.in_ok-turn.ensures.scope ∙ same;
    }

pub run_loop-returns-in_err-more : goal.run_loop-returns-in_err-more
run_loop-returns-in_err-more t c =
    let p = err_from_is_err_and c.from_residual-in_err-more.result c.from_residual-in_err-more.ensures.1 in
    let context = context_of c.args.method.now in
    let bound = c.args.method.now.bound in
    let scope = scope_of c.args.scope.now in
    let place = view_place c.args.place in
    let condition = view_exp c.args.condition.now in
    let step = option_map (λ one. (one.0, view_exp one.1.now)) c.args.step in
    let body = view_stms c.args.body.now in
    let left = c.loop-left.left in
    let here = scope_of c.loop-left.scope in
    let same = c.loop-left.invariant.scope in
    let so_far = c.loop-left.invariant.turns in
    let state = run_state c.loop-left.run in
    let after = run_state c.test-2.new.run in
    rw (p.1, p.2) record {
      done = while_stops context scope bound place condition step body _ left here same state so_far after c.in_err-more.field-0.0 c.in_err-more.ensures.test;
      scope = stops_same c.in_err-more.field-0.0 _ same;
    }

pub run_loop-returns-then-more : goal.run_loop-returns-then-more
run_loop-returns-then-more t c =
    let context = context_of c.args.method.now in
    let bound = c.args.method.now.bound in
    let scope = scope_of c.args.scope.now in
    let place = view_place c.args.place in
    let condition = view_exp c.args.condition.now in
    let step = option_map (λ one. (one.0, view_exp one.1.now)) c.args.step in
    let body = view_stms c.args.body.now in
    let left = c.loop-left.left in
    let here = scope_of c.loop-left.scope in
    let same = c.loop-left.invariant.scope in
    let so_far = c.loop-left.invariant.turns in
    let state = run_state c.loop-left.run in
    let after = run_state c.test-2.new.run in
    record {
      done = while_cut context scope bound place condition step body _ left here same state so_far after c.in_ok-more.more (omega (arith, c.loop-left-test.false)) c.in_ok-more.ensures.test c.if-more.true;
      scope = tt;
    }

pub run_loop-returns-else-more : goal.run_loop-returns-else-more
run_loop-returns-else-more t c =
    let context = context_of c.args.method.now in
    let bound = c.args.method.now.bound in
    let scope = scope_of c.args.scope.now in
    let place = view_place c.args.place in
    let condition = view_exp c.args.condition.now in
    let step = option_map (λ one. (one.0, view_exp one.1.now)) c.args.step in
    let body = view_stms c.args.body.now in
    let left = c.loop-left.left in
    let here = scope_of c.loop-left.scope in
    let same = c.loop-left.invariant.scope in
    let so_far = c.loop-left.invariant.turns in
    let state = run_state c.loop-left.run in
    let after = run_state c.test-2.new.run in
    record {
      done = while_done context scope bound place condition step body _ left here same state so_far after c.in_ok-more.more c.in_ok-more.ensures.test c.if-more.false;
      scope = same;
    }

pub run_do-loop-left-init : goal.run_do-loop-left-init
run_do-loop-left-init t c =
    record {
      turns = refl;
      scope = refl;
    }

pub run_do-loop-left-preserved : goal.run_do-loop-left-preserved
run_do-loop-left-preserved t c =
    let context = context_of c.args.method.now in
    let bound = c.args.method.now.bound in
    let scope = scope_of c.args.scope.now in
    let place = view_place c.args.place in
    let condition = view_exp c.args.condition.now in
    let body = view_stms c.args.body.now in
    let left = c.loop-left.left in
    let here = scope_of c.loop-left.scope in
    let same = c.loop-left.invariant.scope in
    let so_far = c.loop-left.invariant.turns in
    let state = run_state c.loop-left.run in
    let new = run_state c.run_turn.new.run in
    let later = scope_of c.run_turn.new.scope in
    let after = run_state c.test.new.run in
    record {
      turns = do_more context scope bound place condition None body _ left here same state so_far c.loop-left-test.true new (rw c.in_default.is at c.in_ok-turn.ensures.turns) later (c.in_ok-turn.ensures.scope ∙ same) after c.in_ok-holds.holds c.in_ok-holds.ensures.test c.if-not-holds.false;
      scope = c.in_ok-turn.ensures.scope ∙ same;
    }

pub run_do-returns-in_err-turn : goal.run_do-returns-in_err-turn
run_do-returns-in_err-turn t c =
    let p = err_from_is_err_and c.from_residual.result c.from_residual.ensures.1 in
    let context = context_of c.args.method.now in
    let bound = c.args.method.now.bound in
    let scope = scope_of c.args.scope.now in
    let place = view_place c.args.place in
    let condition = view_exp c.args.condition.now in
    let body = view_stms c.args.body.now in
    let left = c.loop-left.left in
    let here = scope_of c.loop-left.scope in
    let same = c.loop-left.invariant.scope in
    let so_far = c.loop-left.invariant.turns in
    let state = run_state c.loop-left.run in
    let new = run_state c.run_turn.new.run in
    rw (p.1, p.2) record {
      done = do_turn_stops context scope bound place condition None body _ left here same state so_far c.loop-left-test.true new c.in_err-turn.field-0.0 c.in_err-turn.ensures.turns;
      scope = where_stops c.in_err-turn.field-0.0 _ _ (λ is. is ∙ same) c.in_err-turn.ensures.scope;
    }

pub run_do-returns-in-Some : goal.run_do-returns-in-Some
run_do-returns-in-Some t c =
    let context = context_of c.args.method.now in
    let bound = c.args.method.now.bound in
    let scope = scope_of c.args.scope.now in
    let place = view_place c.args.place in
    let condition = view_exp c.args.condition.now in
    let body = view_stms c.args.body.now in
    let left = c.loop-left.left in
    let here = scope_of c.loop-left.scope in
    let same = c.loop-left.invariant.scope in
    let so_far = c.loop-left.invariant.turns in
    let state = run_state c.loop-left.run in
    let new = run_state c.run_turn.new.run in
    record {
      done = do_left context scope bound place condition None body _ left here same state so_far c.loop-left-test.true new c.in-Some.completion (rw c.in-Some.is at c.in_ok-turn.ensures.turns);
      scope = c.in_ok-turn.ensures.scope ∙ same;
    }

pub run_do-returns-in_err-holds : goal.run_do-returns-in_err-holds
run_do-returns-in_err-holds t c =
    let p = err_from_is_err_and c.from_residual-in_err-holds.result c.from_residual-in_err-holds.ensures.1 in
    let context = context_of c.args.method.now in
    let bound = c.args.method.now.bound in
    let scope = scope_of c.args.scope.now in
    let place = view_place c.args.place in
    let condition = view_exp c.args.condition.now in
    let body = view_stms c.args.body.now in
    let left = c.loop-left.left in
    let here = scope_of c.loop-left.scope in
    let same = c.loop-left.invariant.scope in
    let so_far = c.loop-left.invariant.turns in
    let state = run_state c.loop-left.run in
    let new = run_state c.run_turn.new.run in
    let later = scope_of c.run_turn.new.scope in
    let after = run_state c.test.new.run in
    rw (p.1, p.2) record {
      done = do_test_stops context scope bound place condition None body _ left here same state so_far c.loop-left-test.true new (rw c.in_default.is at c.in_ok-turn.ensures.turns) later (c.in_ok-turn.ensures.scope ∙ same) after c.in_err-holds.field-0.0 c.in_err-holds.ensures.test;
      scope = stops_same c.in_err-holds.field-0.0 _ (c.in_ok-turn.ensures.scope ∙ same);
    }

pub run_do-returns-then-not-holds : goal.run_do-returns-then-not-holds
run_do-returns-then-not-holds t c =
    let context = context_of c.args.method.now in
    let bound = c.args.method.now.bound in
    let scope = scope_of c.args.scope.now in
    let place = view_place c.args.place in
    let condition = view_exp c.args.condition.now in
    let body = view_stms c.args.body.now in
    let left = c.loop-left.left in
    let here = scope_of c.loop-left.scope in
    let same = c.loop-left.invariant.scope in
    let so_far = c.loop-left.invariant.turns in
    let state = run_state c.loop-left.run in
    let new = run_state c.run_turn.new.run in
    let later = scope_of c.run_turn.new.scope in
    let after = run_state c.test.new.run in
    record {
      done = do_done context scope bound place condition None body _ left here same state so_far c.loop-left-test.true new (rw c.in_default.is at c.in_ok-turn.ensures.turns) later (c.in_ok-turn.ensures.scope ∙ same) after c.in_ok-holds.holds c.in_ok-holds.ensures.test c.if-not-holds.true;
      scope = c.in_ok-turn.ensures.scope ∙ same;
    }

pub run_do-returns : goal.run_do-returns
run_do-returns t c =
    let context = context_of c.args.method.now in
    let bound = c.args.method.now.bound in
    let scope = scope_of c.args.scope.now in
    let place = view_place c.args.place in
    let condition = view_exp c.args.condition.now in
    let body = view_stms c.args.body.now in
    let left = c.loop-left.left in
    let here = scope_of c.loop-left.scope in
    let same = c.loop-left.invariant.scope in
    let so_far = c.loop-left.invariant.turns in
    let state = run_state c.loop-left.run in
    record {
      done = do_cut_off context scope bound place condition None body _ left here same state so_far c.loop-left-test.false;
      scope = tt;
    }

pub run_group-returns-then-reached : goal.run_group-returns-then-reached
run_group-returns-then-reached t c =
    let context = context_of c.args.method.now in
    let bound = c.args.method.now.bound in
    let scope = scope_of c.args.scope.now in
    let old = run_state c.args.run.now in
    let kept = c.args.kept.now.values in
    let body = view_stms c.args.body.now in
    let new = run_state c.run_open.new.run in
    let more = c.run_open.new.kept.values in
    record {
      opens = λ next. subst (λ test. Opens c.run_open.result more new next (back kept (either test (run_then context scope bound body next) (passed scope body next) old))) (sym c.if-reached.true) (c.run_open.ensures.opens next);
      scope = c.run_open.ensures.scope;
      behind = c.run_open.ensures.behind;
    }

pub run_group-returns-in_err-pass : goal.run_group-returns-in_err-pass
run_group-returns-in_err-pass t c =
    let p = err_from_is_err_and c.from_residual.result c.from_residual.ensures.1 in
    let context = context_of c.args.method.now in
    let bound = c.args.method.now.bound in
    let scope = scope_of c.args.scope.now in
    let old = run_state c.args.run.now in
    let kept = c.args.kept.now.values in
    let body = view_stms c.args.body.now in
    let passing = run_state c.pass.new.run in
    let passed_by = c.pass.new.kept.values in
    rw (p.1, p.2) record {
      opens = λ next. subst (λ test. Opens (Err c.in_err-pass.field-0.0) passed_by passing next (back kept (either test (run_then context scope bound body next) (passed scope body next) old))) (sym c.if-reached.false) (c.in_err-pass.ensures.passed next);
      scope = where_stops c.in_err-pass.field-0.0 _ _ (λ is. is) c.in_err-pass.ensures.back;
      behind = tt;
    }

pub run_group-returns-in_ok-pass : goal.run_group-returns-in_ok-pass
run_group-returns-in_ok-pass t c =
    let context = context_of c.args.method.now in
    let bound = c.args.method.now.bound in
    let scope = scope_of c.args.scope.now in
    let old = run_state c.args.run.now in
    let kept = c.args.kept.now.values in
    let body = view_stms c.args.body.now in
    let passing = run_state c.pass.new.run in
    let passed_by = c.pass.new.kept.values in
    record {
      opens = λ next. subst (λ test. Opens (Ok completions.Normal) passed_by passing next (back kept (either test (run_then context scope bound body next) (passed scope body next) old))) (sym c.if-reached.false) (c.in_ok-pass.ensures.passed next);
      scope = c.in_ok-pass.ensures.back;
      behind = λ is. c.in_ok-pass.ensures.scope;
    }

pub run_groups-loop-group-init : goal.run_groups-loop-group-init
run_groups-loop-group-init t c =
    record {
      opens = refl;
      scope = refl;
    }

pub run_groups-loop-group-preserved : goal.run_groups-loop-group-preserved
run_groups-loop-group-preserved t c =
    let context = context_of c.args.method.now in
    let bound = c.args.method.now.bound in
    let groups = c.args.groups.now in
    let wanted = c.args.wanted in
    let k = c.loop-group.group-index in
    let found = c.loop-group.found in
    let kept = c.loop-group.kept.values in
    let here = scope_of c.loop-group.scope in
    let state = run_state c.loop-group.run in
    let group = c.group-item.result in
    let now = c.is_reached-found.result in
    let more = c.run_group.new.kept.values in
    let after = scope_of c.run_group.new.scope in
    let new = run_state c.run_group.new.run in
    record {
      opens = c.loop-group.invariant.opens ∙ group_ran context bound wanted groups k found kept here state group c.loop-group-test.true c.group-item.is now (rw c.as_slice.ensures at c.is_reached-found.ensures.reached) more after new c.in_ok-completion.completion c.in-Normal.is (rw c.as_slice-in-loop-group.ensures at c.in_ok-completion.ensures.opens) ((rw c.as_slice-in-loop-group.ensures at c.in_ok-completion.ensures.behind) (ap view_completion c.in-Normal.is));
      scope = c.in_ok-completion.ensures.scope ∙ c.loop-group.invariant.scope;
    }

pub run_groups-returns-in_err-completion : goal.run_groups-returns-in_err-completion
run_groups-returns-in_err-completion t c =
    let p = err_from_is_err_and c.from_residual.result c.from_residual.ensures.1 in
    let context = context_of c.args.method.now in
    let bound = c.args.method.now.bound in
    let groups = c.args.groups.now in
    let wanted = c.args.wanted in
    let k = c.loop-group.group-index in
    let found = c.loop-group.found in
    let kept = c.loop-group.kept.values in
    let here = scope_of c.loop-group.scope in
    let state = run_state c.loop-group.run in
    let group = c.group-item.result in
    let now = c.is_reached-found.result in
    let more = c.run_group.new.kept.values in
    let new = run_state c.run_group.new.run in
    rw (p.1, p.2) record {
      opens = opens_from (Err c.in_err-completion.field-0.0) more new (pure Normal) _ (rest_of context bound wanted groups k found kept here state) c.loop-group.invariant.opens (group_stops context bound wanted groups k found kept here state group c.loop-group-test.true c.group-item.is now (rw c.as_slice.ensures at c.is_reached-found.ensures.reached) more new c.in_err-completion.field-0.0 (rw c.as_slice-in-loop-group.ensures at c.in_err-completion.ensures.opens));
      scope = where_stops c.in_err-completion.field-0.0 _ _ (λ is. is ∙ c.loop-group.invariant.scope) c.in_err-completion.ensures.scope;
    }

pub run_groups-returns-in_default : goal.run_groups-returns-in_default
run_groups-returns-in_default t c =
    let context = context_of c.args.method.now in
    let bound = c.args.method.now.bound in
    let groups = c.args.groups.now in
    let wanted = c.args.wanted in
    let k = c.loop-group.group-index in
    let found = c.loop-group.found in
    let kept = c.loop-group.kept.values in
    let here = scope_of c.loop-group.scope in
    let state = run_state c.loop-group.run in
    let group = c.group-item.result in
    let now = c.is_reached-found.result in
    let more = c.run_group.new.kept.values in
    let new = run_state c.run_group.new.run in
    record {
      opens = c.loop-group.invariant.opens ∙ group_left context bound wanted groups k found kept here state group c.loop-group-test.true c.group-item.is now (rw c.as_slice.ensures at c.is_reached-found.ensures.reached) more new c.in_ok-completion.completion c.in_default.not-Normal (rw c.as_slice-in-loop-group.ensures at c.in_ok-completion.ensures.opens);
      scope = c.in_ok-completion.ensures.scope ∙ c.loop-group.invariant.scope;
    }

pub run_groups-returns : goal.run_groups-returns
run_groups-returns t c =
    let context = context_of c.args.method.now in
    let bound = c.args.method.now.bound in
    let groups = c.args.groups.now in
    let wanted = c.args.wanted in
    let k = c.loop-group.group-index in
    let found = c.loop-group.found in
    let kept = c.loop-group.kept.values in
    let here = scope_of c.loop-group.scope in
    let state = run_state c.loop-group.run in
    record {
      opens = c.loop-group.invariant.opens ∙ left_all context bound wanted groups k found kept here state c.loop-group-test.false;
      scope = c.loop-group.invariant.scope;
    }

pub run_switch-returns-in_err-value : goal.run_switch-returns-in_err-value
run_switch-returns-in_err-value t c =
    let p = err_from_is_err_and c.from_residual.result c.from_residual.ensures.1 in
    let context = context_of c.args.method.now in
    let bound = c.args.method.now.bound in
    let scope = scope_of c.args.scope.now in
    let old = run_state c.args.run.now in
    let on = view_exp c.args.on.now in
    let groups = view_groups c.args.groups.now in
    let middle = run_state c.evaluate.new.run in
    rw (p.1, p.2) record {
      done = switch_stops context scope bound old middle on groups c.in_err-value.field-0.0 c.in_err-value.ensures.value;
      scope = stops_same c.in_err-value.field-0.0 _ refl;
    }

pub run_switch-returns-in_err-number : goal.run_switch-returns-in_err-number
run_switch-returns-in_err-number t c =
    let p = err_from_is_err_and c.from_residual-in_err-number.result c.from_residual-in_err-number.ensures.1 in
    let context = context_of c.args.method.now in
    let headers = c.args.method.now.classes.headers.now in
    let bound = c.args.method.now.bound in
    let scope = scope_of c.args.scope.now in
    let old = run_state c.args.run.now in
    let on = view_exp c.args.on.now in
    let groups = view_groups c.args.groups.now in
    let middle = run_state c.evaluate.new.run in
    let found = view_value c.in_ok-value.value in
    let is = c.in_ok-value.ensures.value in
    rw (p.1, p.2) record {
      done = switch_no_number context scope bound old middle on groups found is c.in_err-number.field-0.0 (c.in_err-number.ensures.number headers middle);
      scope = stops_same c.in_err-number.field-0.0 _ refl;
    }

pub run_switch-returns-in_default : goal.run_switch-returns-in_default
run_switch-returns-in_default t c =
    let context = context_of c.args.method.now in
    let headers = c.args.method.now.classes.headers.now in
    let bound = c.args.method.now.bound in
    let scope = scope_of c.args.scope.now in
    let old = run_state c.args.run.now in
    let on = view_exp c.args.on.now in
    let groups = view_groups c.args.groups.now in
    let middle = run_state c.evaluate.new.run in
    let found = view_value c.in_ok-value.value in
    let is = c.in_ok-value.ensures.value in
    let number = c.in_ok-number.number in
    record {
      done = switch_nowhere context scope bound old middle on groups found is number (c.in_ok-number.ensures.number headers middle) c.label_for-target.result (let fits : SFits w32 c.in_ok-number.number = search rules in simp to_z-of_z at c.label_for-target.ensures.label) c.in_default.is;
      scope = refl;
    }

pub run_switch-returns : goal.run_switch-returns
run_switch-returns t c =
    let context = context_of c.args.method.now in
    let headers = c.args.method.now.classes.headers.now in
    let bound = c.args.method.now.bound in
    let scope = scope_of c.args.scope.now in
    let old = run_state c.args.run.now in
    let on = view_exp c.args.on.now in
    let groups = view_groups c.args.groups.now in
    let middle = run_state c.evaluate.new.run in
    let found = view_value c.in_ok-value.value in
    let is = c.in_ok-value.ensures.value in
    let number = c.in_ok-number.number in
    let last = run_state c.run_groups-outcome.new.run in
    let new = run_state c.put_back.new.run in
    record {
      done = switch_ends context scope bound old middle on groups found is number (c.in_ok-number.ensures.number headers middle) c.label_for-target.result c.in-Some.wanted c.run_groups-outcome.result new (let fits : SFits w32 c.in_ok-number.number = search rules in simp to_z-of_z at c.label_for-target.ensures.label) c.in-Some.is
          (closes c.run_groups-outcome.result c.nothing_kept-kept.result.values c.run_groups-outcome.new.kept.values last new (run_from context scope bound groups c.in-Some.wanted middle) c.nothing_kept-kept.ensures.values c.run_groups-outcome.ensures.opens c.in_ok-put_back.ensures.store);
      scope = where_then c.run_groups-outcome.result _ _ (λ is. c.in_ok-put_back.ensures.scope ∙ is ∙ ap (λ list. scope_back list scope) c.nothing_kept-kept.ensures.kinds) c.run_groups-outcome.ensures.scope;
    }

pub run_caught-returns-in_err-open : goal.run_caught-returns-in_err-open
run_caught-returns-in_err-open t c =
    let p = err_from_is_err_and c.from_residual-in_err-open.result c.from_residual-in_err-open.ensures.1 in
    let context = context_of c.args.method.now in
    let bound = c.args.method.now.bound in
    let scope = scope_of c.args.scope.now in
    let old = run_state c.args.run.now in
    let class = c.args.clause.now.class in
    let variable = c.args.clause.now.variable in
    let body = view_stms c.args.clause.now.body in
    let reference = view_reference c.args.reference in
    let middle = run_state c.open.new.run in
    let typed = ap (λ kind. with_type variable kind scope) (view-class c.in_ok-copy.copy ∙ ap Class c.in_ok-copy.ensures.equal) in
    rw (p.1, p.2) record {
      done = caught_stops context scope bound class variable body reference old middle c.in_err-open.field-0.0 c.in_err-open.ensures.opened;
      scope = where_stops c.in_err-open.field-0.0 _ _ (λ is. is ∙ typed) c.in_err-open.ensures.scope;
    }

pub run_caught-returns : goal.run_caught-returns
run_caught-returns t c =
    let context = context_of c.args.method.now in
    let bound = c.args.method.now.bound in
    let scope = scope_of c.args.scope.now in
    let old = run_state c.args.run.now in
    let class = c.args.clause.now.class in
    let variable = c.args.clause.now.variable in
    let body = view_stms c.args.clause.now.body in
    let reference = view_reference c.args.reference in
    let middle = run_state c.open.new.run in
    let after = scope_of c.open.new.scope in
    let filled = run_state c.put.new.self in
    let new = run_state c.run_list.new.run in
    let typed = ap (λ kind. with_type variable kind scope) (view-class c.in_ok-copy.copy ∙ ap Class c.in_ok-copy.ensures.equal) in
    record {
      done = caught_ends context scope bound class variable body reference old middle c.run_list.result after filled new c.in_ok-open.ensures.opened (c.in_ok-open.ensures.scope ∙ typed) c.in_ok-put.ensures.put (rw c.as_slice.ensures at c.run_list.ensures.done);
      scope = where_then c.run_list.result _ _ (λ is. is ∙ c.in_ok-open.ensures.scope ∙ typed) c.run_list.ensures.scope;
    }

pub run_clause-returns : goal.run_clause-returns
run_clause-returns t c =
    let context = context_of c.args.method.now in
    let bound = c.args.method.now.bound in
    let scope = scope_of c.args.scope.now in
    let old = run_state c.args.run.now in
    let class = c.args.clause.now.class in
    let variable = c.args.clause.now.variable in
    let body = view_stms c.args.clause.now.body in
    let reference = view_reference c.args.reference in
    let middle = run_state c.run_caught-outcome.new.run in
    let new = run_state c.put_back.new.run in
    let kept = c.keep.new.kept.kinds in
    let held = (store_of c.args.run.now).variables c.args.clause.now.variable in
    let after = scope_of c.run_caught-outcome.new.scope in
    record {
      done = closes_one c.run_caught-outcome.result (with_value variable held) middle new (caught_body context scope bound class variable body reference old) c.run_caught-outcome.ensures.done
          (c.in_ok-put_back.ensures.store ∙ ap (λ change. with_store change middle) (λ i other. (c.in_ok-keep.ensures.store other ∙ ap (λ list. store_back list (with_value variable held other)) c.nothing_kept-kept.ensures.values) i));
      scope = where_then c.run_caught-outcome.result _ _ (λ is. c.in_ok-put_back.ensures.scope ∙ scope_kept c.nothing_kept-kept.result.kinds kept (Some (variable, Class class)) scope after c.in_ok-keep.ensures.scope is ∙ ap (λ list. scope_back list scope) c.nothing_kept-kept.ensures.kinds) c.run_caught-outcome.ensures.scope;
    }

pub run_clauses-loop-clause-init : goal.run_clauses-loop-clause-init
run_clauses-loop-clause-init t c =
    record {
      clauses = refl;
      scope = refl;
    }

pub run_clauses-loop-clause-preserved : goal.run_clauses-loop-clause-preserved
run_clauses-loop-clause-preserved t c =
    let context = context_of c.args.method.now in
    let bound = c.args.method.now.bound in
    let clauses = c.args.clauses.now in
    let reference = view_reference c.args.reference in
    let k = c.loop-clause.clause-index in
    let clause = c.clause-item.result in
    let here = scope_of c.loop-clause.scope in
    let state = run_state c.loop-clause.run in
    let same = c.loop-clause.invariant.scope in
    let so_far = c.loop-clause.invariant.clauses in
    record {
      clauses = so_far ∙ ap (λ part. part state) (clause_next context here bound reference clauses k clause c.loop-clause-test.true c.clause-item.is (sym c.is_instance.ensures.instance ∙ c.if-is_instance.false));
      scope = same;
    }

pub run_clauses-returns-then-is_instance : goal.run_clauses-returns-then-is_instance
run_clauses-returns-then-is_instance t c =
    let context = context_of c.args.method.now in
    let bound = c.args.method.now.bound in
    let clauses = c.args.clauses.now in
    let reference = view_reference c.args.reference in
    let k = c.loop-clause.clause-index in
    let clause = c.clause-item.result in
    let here = scope_of c.loop-clause.scope in
    let state = run_state c.loop-clause.run in
    let same = c.loop-clause.invariant.scope in
    let so_far = c.loop-clause.invariant.clauses in
    record {
      done = subst (λ run. Ends view_completion c.run_clause.result (run_state c.run_clause.new.run) run) (sym (so_far ∙ ap (λ part. part state) (clause_here context here bound reference clauses k clause c.loop-clause-test.true c.clause-item.is (sym c.is_instance.ensures.instance ∙ c.if-is_instance.true)))) c.run_clause.ensures.done;
      scope = where_then c.run_clause.result _ _ (λ is. is ∙ same) c.run_clause.ensures.scope;
    }

pub run_clauses-returns : goal.run_clauses-returns
run_clauses-returns t c =
    let context = context_of c.args.method.now in
    let bound = c.args.method.now.bound in
    let clauses = c.args.clauses.now in
    let reference = view_reference c.args.reference in
    let k = c.loop-clause.clause-index in
    let here = scope_of c.loop-clause.scope in
    let state = run_state c.loop-clause.run in
    let same = c.loop-clause.invariant.scope in
    let so_far = c.loop-clause.invariant.clauses in
    record {
      done = so_far ∙ ap (λ part. part state) (clause_none context here bound reference clauses k c.loop-clause-test.false);
      scope = same;
    }

pub run_holding-returns-in_err-value : goal.run_holding-returns-in_err-value
run_holding-returns-in_err-value t c =
    let p = err_from_is_err_and c.from_residual.result c.from_residual.ensures.1 in
    let context = context_of c.args.method.now in
    let bound = c.args.method.now.bound in
    let scope = scope_of c.args.scope.now in
    let old = run_state c.args.run.now in
    let monitor = view_exp c.args.monitor.now in
    let body = view_stms c.args.body.now in
    let middle = run_state c.evaluate.new.run in
    rw (p.1, p.2) record {
      done = holding_stops context scope bound old middle monitor body c.in_err-value.field-0.0 c.in_err-value.ensures.value;
      scope = stops_same c.in_err-value.field-0.0 _ refl;
    }

pub run_holding-returns-in_err-enter : goal.run_holding-returns-in_err-enter
run_holding-returns-in_err-enter t c =
    let p = err_from_is_err_and c.from_residual-in_err-enter.result c.from_residual-in_err-enter.ensures.1 in
    let context = context_of c.args.method.now in
    let bound = c.args.method.now.bound in
    let scope = scope_of c.args.scope.now in
    let old = run_state c.args.run.now in
    let monitor = view_exp c.args.monitor.now in
    let body = view_stms c.args.body.now in
    let middle = run_state c.evaluate.new.run in
    let found = view_value c.in_ok-value.value in
    let is = c.in_ok-value.ensures.value in
    let entry = run_state c.enter.new.run in
    rw (p.1, p.2) record {
      done = holding_no_entry context scope bound old middle monitor body found is c.in_err-enter.field-0.0 entry c.in_err-enter.ensures.entered;
      scope = stops_same c.in_err-enter.field-0.0 _ refl;
    }

pub run_holding-returns-in_err-leave-in-Ok : goal.run_holding-returns-in_err-leave-in-Ok
run_holding-returns-in_err-leave-in-Ok t c =
    let p = err_from_is_err_and c.from_residual-in_err-leave-in-Ok.result c.from_residual-in_err-leave-in-Ok.ensures.1 in
    let context = context_of c.args.method.now in
    let bound = c.args.method.now.bound in
    let scope = scope_of c.args.scope.now in
    let old = run_state c.args.run.now in
    let monitor = view_exp c.args.monitor.now in
    let body = view_stms c.args.body.now in
    let middle = run_state c.evaluate.new.run in
    let found = view_value c.in_ok-value.value in
    let is = c.in_ok-value.ensures.value in
    let entry = run_state c.enter.new.run in
    let enters = c.in_ok-enter.ensures.entered in
    let after = run_state c.run_list.new.run in
    let new = run_state c.leave.new.run in
    rw (p.1, p.2) record {
      done = holding_done_stops context scope bound old middle monitor body found is entry enters after new (view_completion c.in-Ok.completion) c.in_err-leave-in-Ok.field-0.0 c.in-Ok.ensures.done c.in_err-leave-in-Ok.ensures.left;
      scope = stops_same c.in_err-leave-in-Ok.field-0.0 _ c.in-Ok.ensures.scope;
    }

pub run_holding-returns-in_ok-leave-in-Ok : goal.run_holding-returns-in_ok-leave-in-Ok
run_holding-returns-in_ok-leave-in-Ok t c =
    let context = context_of c.args.method.now in
    let bound = c.args.method.now.bound in
    let scope = scope_of c.args.scope.now in
    let old = run_state c.args.run.now in
    let monitor = view_exp c.args.monitor.now in
    let body = view_stms c.args.body.now in
    let middle = run_state c.evaluate.new.run in
    let found = view_value c.in_ok-value.value in
    let is = c.in_ok-value.ensures.value in
    let entry = run_state c.enter.new.run in
    let enters = c.in_ok-enter.ensures.entered in
    let after = run_state c.run_list.new.run in
    let new = run_state c.leave.new.run in
    record {
      done = holding_done context scope bound old middle monitor body found is entry enters after new (view_completion c.in-Ok.completion) c.in-Ok.ensures.done c.in_ok-leave-in-Ok.ensures.left;
      scope = c.in-Ok.ensures.scope;
    }

pub run_holding-returns-in_err-leave-in-Err-Throws : goal.run_holding-returns-in_err-leave-in-Err-Throws
run_holding-returns-in_err-leave-in-Err-Throws t c =
    let p = err_from_is_err_and c.from_residual-in_err-leave-in-Err-Throws.result c.from_residual-in_err-leave-in-Err-Throws.ensures.1 in
    let context = context_of c.args.method.now in
    let bound = c.args.method.now.bound in
    let scope = scope_of c.args.scope.now in
    let old = run_state c.args.run.now in
    let monitor = view_exp c.args.monitor.now in
    let body = view_stms c.args.body.now in
    let middle = run_state c.evaluate.new.run in
    let found = view_value c.in_ok-value.value in
    let is = c.in_ok-value.ensures.value in
    let entry = run_state c.enter.new.run in
    let enters = c.in_ok-enter.ensures.entered in
    let after = run_state c.run_list.new.run in
    let later = run_state c.leave-in-Err-Throws.new.run in
    rw (p.1, p.2) record {
      done = holding_thrown_stops context scope bound old middle monitor body found is entry enters after later (view_reference c.in-Err-Throws.reference) c.in_err-leave-in-Err-Throws.field-0.0 (rw c.in-Err-Throws.field-0-is at c.in-Err-Throws.ensures.done) c.in_err-leave-in-Err-Throws.ensures.left;
      scope = stops_same c.in_err-leave-in-Err-Throws.field-0.0 _ (rw c.in-Err-Throws.field-0-is at c.in-Err-Throws.ensures.scope);
    }

pub run_holding-returns-in_ok-leave-in-Err-Throws : goal.run_holding-returns-in_ok-leave-in-Err-Throws
run_holding-returns-in_ok-leave-in-Err-Throws t c =
    let context = context_of c.args.method.now in
    let bound = c.args.method.now.bound in
    let scope = scope_of c.args.scope.now in
    let old = run_state c.args.run.now in
    let monitor = view_exp c.args.monitor.now in
    let body = view_stms c.args.body.now in
    let middle = run_state c.evaluate.new.run in
    let found = view_value c.in_ok-value.value in
    let is = c.in_ok-value.ensures.value in
    let entry = run_state c.enter.new.run in
    let enters = c.in_ok-enter.ensures.entered in
    let after = run_state c.run_list.new.run in
    let later = run_state c.leave-in-Err-Throws.new.run in
    record {
      done = holding_thrown context scope bound old middle monitor body found is entry enters after later (view_reference c.in-Err-Throws.reference) (rw c.in-Err-Throws.field-0-is at c.in-Err-Throws.ensures.done) c.in_ok-leave-in-Err-Throws.ensures.left;
      scope = (rw c.in-Err-Throws.field-0-is at c.in-Err-Throws.ensures.scope);
    }

pub run_holding-returns-in-Err-More : goal.run_holding-returns-in-Err-More
run_holding-returns-in-Err-More t c =
    let context = context_of c.args.method.now in
    let bound = c.args.method.now.bound in
    let scope = scope_of c.args.scope.now in
    let old = run_state c.args.run.now in
    let monitor = view_exp c.args.monitor.now in
    let body = view_stms c.args.body.now in
    let middle = run_state c.evaluate.new.run in
    let found = view_value c.in_ok-value.value in
    let is = c.in_ok-value.ensures.value in
    let entry = run_state c.enter.new.run in
    let enters = c.in_ok-enter.ensures.entered in
    let after = run_state c.run_list.new.run in
    record {
      done = holding_is context scope bound old middle monitor body found is entry enters (Stops More after) (rw c.in-Err-More.field-0-is at c.in-Err-More.ensures.done);
      scope = tt;
    }

pub run_holding-returns-in-Err-Stuck : goal.run_holding-returns-in-Err-Stuck
run_holding-returns-in-Err-Stuck t c =
    let context = context_of c.args.method.now in
    let bound = c.args.method.now.bound in
    let scope = scope_of c.args.scope.now in
    let old = run_state c.args.run.now in
    let monitor = view_exp c.args.monitor.now in
    let body = view_stms c.args.body.now in
    let middle = run_state c.evaluate.new.run in
    let found = view_value c.in_ok-value.value in
    let is = c.in_ok-value.ensures.value in
    let entry = run_state c.enter.new.run in
    let enters = c.in_ok-enter.ensures.entered in
    let after = run_state c.run_list.new.run in
    record {
      done = holding_is context scope bound old middle monitor body found is entry enters (Stops Stuck after) (rw c.in-Err-Stuck.field-0-is at c.in-Err-Stuck.ensures.done);
      scope = tt;
    }
