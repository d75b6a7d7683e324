use Rattle.std.proofs.Common.{rules, true, false, ◌≡◌, ◌+◌, sym, ap, ◌∙◌, Some, refl, replicate, subst}
use Rattle.std.specs.Prelude.{option_map, option_and_then, Ok, Err}
use Rattle.std.proofs.lemmas.Result.{err_from_is_err_and}
use Rattle.dj_names.specs.Types.{view_type, view_types, Class, parameters_of}
use Rattle.dj_names.specs.Types as types
use Rattle.dj_syntax.specs.Trees as trees
use Rattle.dj_syntax.specs.Trees.{view_exp, view_exps}
use Rattle.dj_values.specs.Views.{view_value, view_values}
use Rattle.dj_values.specs.Outcomes.{outside}
use Rattle.dj_static.specs.Scopes.{scope_of}
use Rattle.dj_static.specs.Targets.{view_target}
use Rattle.dj_static.specs.Views.{view_selection}
use Rattle.dj_meaning.specs.StaticTypes.{count, array_of, class_target, super_target, new_target, type_of, types_of, plain}
use Rattle.dj_meaning.specs.Fields.{selected}
use Rattle.dj_meaning.specs.Objects.{called}
use Rattle.dj_meaning.specs.Runs.{fitted, present, with_store, with_value, ◌>>=◌}
use Rattle.dj_meaning.specs.Expressions.{value, values, this_value, effect, selected_read}
use Rattle.dj_objects.specs.Runs.{context_of, run_state}
use Rattle.std.specs.Option.{option_copied}
use Rattle.dj_evaluating.proofs.ValuesLemmas.{first_type, values_begin, values_more, values_stop}
use Rattle.dj_evaluating.proofs.PartLemmas.{then_ends, then_stops, with_ends, assigned_is, assigned_stops, call_ends, call_stops_object, call_stops_arguments, static_ends, static_stops, made_stops_object, made_stops_arguments, made_stops_call, made_is, given_is, given_none}
use Rattle.dj_outside.specs.Runs.{Ends}
use Rattle.dj_operators.specs.Computed.{view_computed}
use Rattle.dj_static.proofs.ExpLemmas.{count_is}
use Rattle.dj_objects.specs.Replies.{view_value_reply}
use Rattle.dj_meaning.specs.Operators.{operator_of}
use Rattle.dj_evaluating.proofs.OperandLemmas.{left_stops, view-static, view-binary, view-choice}
use Rattle.dj_evaluating.proofs.WholeLemmas.{binary_stops_left, binary_behind, binary_stops_right, binary_ends, choice_no_truth, choice_ends, array_stops, array_ends}
use Rattle.dj_evaluating.proofs.evaluating.+evaluating.Goals as goal

pub evaluate_to-returns : goal.evaluate_to-returns
evaluate_to-returns t c = record {
  value = then_ends view_value view_value (value (context_of c.args.method.now) (scope_of c.args.scope.now) (view_exp c.args.exp.now)) (fitted c.args.method.now.classes.headers.now (view_type c.args.kind.now)) (run_state c.args.run.now) (run_state c.evaluate.new.run)
      c.fitted.result (run_state c.fitted.new.run) (view_value c.in_ok-value.value) c.in_ok-value.ensures.value c.fitted.ensures.fitted;
}

pub evaluate_to-returns-in_err-value : goal.evaluate_to-returns-in_err-value
evaluate_to-returns-in_err-value t c =
    let p = err_from_is_err_and c.from_residual.result c.from_residual.ensures.1 in
    rw (p.1, p.2) record {
      value = then_stops view_value view_value (value (context_of c.args.method.now) (scope_of c.args.scope.now) (view_exp c.args.exp.now)) (fitted c.args.method.now.classes.headers.now (view_type c.args.kind.now)) (run_state c.args.run.now) (run_state c.evaluate.new.run)
          c.in_err-value.field-0.0 c.in_err-value.ensures.value;
    }

pub assign-returns-in_err-value : goal.assign-returns-in_err-value
assign-returns-in_err-value t c =
    let p = err_from_is_err_and c.from_residual.result c.from_residual.ensures.1 in
    rw (p.1, p.2) record {
      assigned = assigned_stops c.args.method.now.classes.headers.now (scope_of c.args.scope.now) c.args.variable (value (context_of c.args.method.now) (scope_of c.args.scope.now) (view_exp c.args.new.now)) (view_type c.in-Some.kind.now) c.in-Some.ensures.kind (run_state c.args.run.now) (run_state c.evaluate_to.new.run) c.in_err-value.field-0.0 c.in_err-value.ensures.value;
    }

pub assign-returns : goal.assign-returns
assign-returns t c = record {
  assigned = assigned_is c.args.method.now.classes.headers.now (scope_of c.args.scope.now) c.args.variable (value (context_of c.args.method.now) (scope_of c.args.scope.now) (view_exp c.args.new.now)) (view_type c.in-Some.kind.now) c.in-Some.ensures.kind (run_state c.args.run.now) (run_state c.evaluate_to.new.run) (view_value c.in_ok-value.value) (run_state c.put.new.self) c.in_ok-value.ensures.value
      (c.in_ok-put.ensures.put ∙ ap (λ one. with_store (with_value c.args.variable (Some (view_value one))) (run_state c.evaluate_to.new.run)) c.in_ok-kept.ensures.equal);
}

pub select-returns-in_err-value : goal.select-returns-in_err-value
select-returns-in_err-value t c =
    let p = err_from_is_err_and c.from_residual-in_err-value.result c.from_residual-in_err-value.ensures.1 in
    rw (p.1, p.2) record {
      value = with_ends view_value (Err c.in_err-value.field-0.0) (option_and_then (selected c.args.method.now.classes.headers.now (context_of c.args.method.now).members (context_of c.args.method.now).class c.args.name.now) (plain (type_of (context_of c.args.method.now) (scope_of c.args.scope.now) (view_exp c.args.object.now)))) (view_selection (view_type c.in-Some.kind) c.in-Some.chosen) (λ one. (value (context_of c.args.method.now) (scope_of c.args.scope.now) (view_exp c.args.object.now)) >>= λ found. outside c.args.method.now.classes.headers.now (selected_read c.args.name.now one found)) (run_state c.args.run.now) (run_state c.evaluate.new.run) (rw c.in-Some.is at c.in_ok-selected.ensures.selection)
          (then_stops view_value view_value (value (context_of c.args.method.now) (scope_of c.args.scope.now) (view_exp c.args.object.now)) (λ found. outside c.args.method.now.classes.headers.now (selected_read c.args.name.now (view_selection (view_type c.in-Some.kind) c.in-Some.chosen) found)) (run_state c.args.run.now) (run_state c.evaluate.new.run) c.in_err-value.field-0.0 c.in_err-value.ensures.value);
    }

pub select-returns : goal.select-returns
select-returns t c = record {
  value = with_ends view_value c.settle_value.result (option_and_then (selected c.args.method.now.classes.headers.now (context_of c.args.method.now).members (context_of c.args.method.now).class c.args.name.now) (plain (type_of (context_of c.args.method.now) (scope_of c.args.scope.now) (view_exp c.args.object.now)))) (view_selection (view_type c.in-Some.kind) c.in-Some.chosen) (λ one. (value (context_of c.args.method.now) (scope_of c.args.scope.now) (view_exp c.args.object.now)) >>= λ found. outside c.args.method.now.classes.headers.now (selected_read c.args.name.now one found)) (run_state c.args.run.now) (run_state c.settle_value.new.run) (rw c.in-Some.is at c.in_ok-selected.ensures.selection)
      (then_ends view_value view_value (value (context_of c.args.method.now) (scope_of c.args.scope.now) (view_exp c.args.object.now)) (λ found. outside c.args.method.now.classes.headers.now (selected_read c.args.name.now (view_selection (view_type c.in-Some.kind) c.in-Some.chosen) found)) (run_state c.args.run.now) (run_state c.evaluate.new.run) c.settle_value.result (run_state c.settle_value.new.run) (view_value c.in_ok-value.value) c.in_ok-value.ensures.value
      (rw (← c.in_ok-reply.ensures.read) c.settle_value.ensures.settled));
}

pub call_class-returns : goal.call_class-returns
call_class-returns t c = record {
  called = static_ends (context_of c.args.method.now) (class_target (context_of c.args.method.now) c.args.class.now c.args.name.now (types_of (context_of c.args.method.now) (scope_of c.args.scope.now) (view_exps c.args.arguments.now))) (values (context_of c.args.method.now) (scope_of c.args.scope.now) (view_exps c.args.arguments.now)) (view_target c.in-Some.target) (view_types c.parameters.result.now) (rw c.in-Some.is at c.in_ok-asked.ensures.target) c.parameters.ensures.parameters c.settle.result (view_values c.in_ok-values.values) (run_state c.args.run.now) (run_state c.evaluate_all.new.run) (run_state c.settle.new.run) c.in_ok-values.ensures.values (rw (← c.in_ok-reply.ensures.called) c.settle.ensures.settled);
}

pub call_class-returns-in_err-values : goal.call_class-returns-in_err-values
call_class-returns-in_err-values t c =
    let p = err_from_is_err_and c.from_residual-in_err-values.result c.from_residual-in_err-values.ensures.1 in
    rw (p.1, p.2) record {
      called = static_stops (context_of c.args.method.now) (class_target (context_of c.args.method.now) c.args.class.now c.args.name.now (types_of (context_of c.args.method.now) (scope_of c.args.scope.now) (view_exps c.args.arguments.now))) (values (context_of c.args.method.now) (scope_of c.args.scope.now) (view_exps c.args.arguments.now)) (view_target c.in-Some.target) (view_types c.parameters.result.now) (rw c.in-Some.is at c.in_ok-asked.ensures.target) c.parameters.ensures.parameters view_values c.in_err-values.field-0.0 (run_state c.args.run.now) (run_state c.evaluate_all.new.run) c.in_err-values.ensures.values;
    }

pub call_super-returns : goal.call_super-returns
call_super-returns t c = record {
  called = call_ends (context_of c.args.method.now) (super_target (context_of c.args.method.now) (option_copied c.args.above) c.args.name.now (types_of (context_of c.args.method.now) (scope_of c.args.scope.now) (view_exps c.args.arguments.now))) (values (context_of c.args.method.now) (scope_of c.args.scope.now) (view_exps c.args.arguments.now)) (view_target c.in-Some.target) (view_types c.parameters.result.now) (rw c.in-Some.is at c.in_ok-asked.ensures.target) c.parameters.ensures.parameters (this_value (context_of c.args.method.now)) c.settle.result (view_value c.in_ok-receiver.receiver) (view_values c.in_ok-values.values) (run_state c.args.run.now) (run_state c.args.run.now) (run_state c.evaluate_all.new.run) (run_state c.settle.new.run) (c.in_ok-receiver.ensures.this (run_state c.args.run.now)) c.in_ok-values.ensures.values (rw (← c.in_ok-reply.ensures.called) c.settle.ensures.settled);
}

pub call_super-returns-in_err-receiver : goal.call_super-returns-in_err-receiver
call_super-returns-in_err-receiver t c =
    let p = err_from_is_err_and c.from_residual-in_err-receiver.result c.from_residual-in_err-receiver.ensures.1 in
    rw (p.1, p.2) record {
      called = call_stops_object (context_of c.args.method.now) (super_target (context_of c.args.method.now) (option_copied c.args.above) c.args.name.now (types_of (context_of c.args.method.now) (scope_of c.args.scope.now) (view_exps c.args.arguments.now))) (values (context_of c.args.method.now) (scope_of c.args.scope.now) (view_exps c.args.arguments.now)) (view_target c.in-Some.target) (parameters_of (view_target c.in-Some.target).descriptor) (rw c.in-Some.is at c.in_ok-asked.ensures.target) refl (this_value (context_of c.args.method.now)) c.in_err-receiver.field-0.0 (run_state c.args.run.now) (run_state c.args.run.now) (c.in_err-receiver.ensures.this (run_state c.args.run.now));
    }

pub call_super-returns-in_err-values : goal.call_super-returns-in_err-values
call_super-returns-in_err-values t c =
    let p = err_from_is_err_and c.from_residual-in_err-values.result c.from_residual-in_err-values.ensures.1 in
    rw (p.1, p.2) record {
      called = call_stops_arguments (context_of c.args.method.now) (super_target (context_of c.args.method.now) (option_copied c.args.above) c.args.name.now (types_of (context_of c.args.method.now) (scope_of c.args.scope.now) (view_exps c.args.arguments.now))) (values (context_of c.args.method.now) (scope_of c.args.scope.now) (view_exps c.args.arguments.now)) (view_target c.in-Some.target) (view_types c.parameters.result.now) (rw c.in-Some.is at c.in_ok-asked.ensures.target) c.parameters.ensures.parameters (this_value (context_of c.args.method.now)) view_values c.in_err-values.field-0.0 (view_value c.in_ok-receiver.receiver) (run_state c.args.run.now) (run_state c.args.run.now) (run_state c.evaluate_all.new.run) (c.in_ok-receiver.ensures.this (run_state c.args.run.now)) c.in_err-values.ensures.values;
    }

pub make-returns-in_err-object : goal.make-returns-in_err-object
make-returns-in_err-object t c =
    let p = err_from_is_err_and c.from_residual-in_err-object.result c.from_residual-in_err-object.ensures.1 in
    rw (p.1, p.2) record {
      value = made_stops_object (context_of c.args.method.now) (new_target (context_of c.args.method.now) c.args.class.now (types_of (context_of c.args.method.now) (scope_of c.args.scope.now) (view_exps c.args.arguments.now))) (values (context_of c.args.method.now) (scope_of c.args.scope.now) (view_exps c.args.arguments.now)) (view_target c.in-Some.target) (parameters_of (view_target c.in-Some.target).descriptor) (rw c.in-Some.is at c.in_ok-asked.ensures.target) refl c.args.class.now c.in_err-object.field-0.0 (run_state c.args.run.now) (run_state c.ask_value.new.run) (rw c.in_ok-named.ensures.equal at c.in_err-object.ensures.asked);
    }

pub make-returns-in_err-given : goal.make-returns-in_err-given
make-returns-in_err-given t c =
    let p = err_from_is_err_and c.from_residual-in_err-given.result c.from_residual-in_err-given.ensures.1 in
    rw (p.1, p.2) record {
      value = made_stops_arguments (context_of c.args.method.now) (new_target (context_of c.args.method.now) c.args.class.now (types_of (context_of c.args.method.now) (scope_of c.args.scope.now) (view_exps c.args.arguments.now))) (values (context_of c.args.method.now) (scope_of c.args.scope.now) (view_exps c.args.arguments.now)) (view_target c.in-Some.target) (view_types c.parameters.result.now) (rw c.in-Some.is at c.in_ok-asked.ensures.target) c.parameters.ensures.parameters c.args.class.now (view_value c.in_ok-object.object) (run_state c.args.run.now) (run_state c.ask_value.new.run) (rw c.in_ok-named.ensures.equal at c.in_ok-object.ensures.asked) view_values c.in_err-given.field-0.0 (run_state c.evaluate_all.new.run) c.in_err-given.ensures.values;
    }

pub make-returns-in_err-settle : goal.make-returns-in_err-settle
make-returns-in_err-settle t c =
    let p = err_from_is_err_and c.from_residual-in_err-settle.result c.from_residual-in_err-settle.ensures.1 in
    rw (p.1, p.2) record {
      value = made_stops_call (context_of c.args.method.now) (new_target (context_of c.args.method.now) c.args.class.now (types_of (context_of c.args.method.now) (scope_of c.args.scope.now) (view_exps c.args.arguments.now))) (values (context_of c.args.method.now) (scope_of c.args.scope.now) (view_exps c.args.arguments.now)) (view_target c.in-Some.target) (view_types c.parameters.result.now) (rw c.in-Some.is at c.in_ok-asked.ensures.target) c.parameters.ensures.parameters c.args.class.now (view_value c.in_ok-object.object) (run_state c.args.run.now) (run_state c.ask_value.new.run) (rw c.in_ok-named.ensures.equal at c.in_ok-object.ensures.asked) (view_values c.in_ok-given.given) (run_state c.evaluate_all.new.run) c.in_ok-given.ensures.values c.in_err-settle.field-0.0 (run_state c.settle.new.run) (rw (c.in_ok-reply.ensures.called ∙ ap (λ one. called (view_target c.in-Some.target) (view_value one) (view_values c.in_ok-given.given)) c.in_ok-receiver.ensures.equal) at c.in_err-settle.ensures.settled);
    }

pub make-returns : goal.make-returns
make-returns t c = record {
  value = made_is (context_of c.args.method.now) (new_target (context_of c.args.method.now) c.args.class.now (types_of (context_of c.args.method.now) (scope_of c.args.scope.now) (view_exps c.args.arguments.now))) (values (context_of c.args.method.now) (scope_of c.args.scope.now) (view_exps c.args.arguments.now)) (view_target c.in-Some.target) (view_types c.parameters.result.now) (rw c.in-Some.is at c.in_ok-asked.ensures.target) c.parameters.ensures.parameters c.args.class.now (view_value c.in_ok-object.object) (run_state c.args.run.now) (run_state c.ask_value.new.run) (rw c.in_ok-named.ensures.equal at c.in_ok-object.ensures.asked) (view_values c.in_ok-given.given) (run_state c.evaluate_all.new.run) c.in_ok-given.ensures.values _ (run_state c.settle.new.run) (rw (c.in_ok-reply.ensures.called ∙ ap (λ one. called (view_target c.in-Some.target) (view_value one) (view_values c.in_ok-given.given)) c.in_ok-receiver.ensures.equal) at c.in_ok-settle.ensures.settled);
}

pub call_value-returns-in_err-told : goal.call_value-returns-in_err-told
call_value-returns-in_err-told t c =
    let p = err_from_is_err_and c.from_residual.result c.from_residual.ensures.1 in
    rw (p.1, p.2) record {
      given = then_stops (option_map view_value) view_value (effect (context_of c.args.method.now) (scope_of c.args.scope.now) (view_exp c.args.exp.now)) present (run_state c.args.run.now) (run_state c.perform.new.run) c.in_err-told.field-0.0 c.in_err-told.ensures.done;
    }

pub call_value-returns-in-Some : goal.call_value-returns-in-Some
call_value-returns-in-Some t c = record {
  given = given_is (effect (context_of c.args.method.now) (scope_of c.args.scope.now) (view_exp c.args.exp.now)) (view_value c.in-Some.value) (run_state c.args.run.now) (run_state c.perform.new.run) (rw c.in-Some.is at c.in_ok-told.ensures.done);
}

pub call_value-returns-in-None : goal.call_value-returns-in-None
call_value-returns-in-None t c = record {
  given = given_none (effect (context_of c.args.method.now) (scope_of c.args.scope.now) (view_exp c.args.exp.now)) (run_state c.args.run.now) (run_state c.perform.new.run) (rw c.in-None.is at c.in_ok-told.ensures.done);
}

pub evaluate_all-loop-exp-init : goal.evaluate_all-loop-exp-init
evaluate_all-loop-exp-init t c = rw c.new-values.ensures (values_begin (context_of c.args.method.now) (scope_of c.args.scope.now) c.args.exps.now _)

pub evaluate_all-loop-exp-preserved : goal.evaluate_all-loop-exp-preserved
evaluate_all-loop-exp-preserved t c =
    rw c.in_ok-push.ensures.ok
    (values_more (context_of c.args.method.now) (scope_of c.args.scope.now) c.args.exps.now _ c.loop-exp.exp-index c.exp-item.result c.loop-exp.values c.in_ok-value.value (view_types c.loop-exp.left.now) (view_type c.kind-item.result) _ (run_state c.loop-exp.run) (run_state c.evaluate_to.new.run) c.loop-exp-test.true c.exp-item.is (first_type c.loop-exp.left.now c.kind-item.result c.in-len1-up.len_at_least c.kind-item.is) c.in_ok-value.ensures.value c.loop-exp.invariant)

pub evaluate_all-returns-in_err-value : goal.evaluate_all-returns-in_err-value
evaluate_all-returns-in_err-value t c =
    let p = err_from_is_err_and c.from_residual.result c.from_residual.ensures.1 in
    rw (p.1, p.2) record {
      values = values_stop (context_of c.args.method.now) (scope_of c.args.scope.now) c.args.exps.now _ c.loop-exp.exp-index c.exp-item.result c.loop-exp.values c.in_err-value.field-0.0 (view_types c.loop-exp.left.now) (view_type c.kind-item.result) _ (run_state c.loop-exp.run) (run_state c.evaluate_to.new.run) c.loop-exp-test.true c.exp-item.is (first_type c.loop-exp.left.now c.kind-item.result c.in-len1-up.len_at_least c.kind-item.is) c.in_err-value.ensures.value c.loop-exp.invariant;
    }

pub evaluate-returns-in-Static : goal.evaluate-returns-in-Static
evaluate-returns-in-Static t c =
    let context = context_of c.args.method.now in
    let scope = scope_of c.args.scope.now in
    let old = run_state c.args.run.now in
    let new = run_state c.static_value.new.run in
    let tree = ap view_exp c.in-Static.is ∙ view-static c.in-Static.class c.in-Static.name in
    record {
      value = subst (λ (one : trees.Exp). Ends view_value c.static_value.result new (value context scope one old)) (sym tree) (c.static_value.ensures.value scope);
    }

pub evaluate-returns-in_err-first-in-Binary : goal.evaluate-returns-in_err-first-in-Binary
evaluate-returns-in_err-first-in-Binary t c =
    let p = err_from_is_err_and c.from_residual-in_err-first-in-Binary.result c.from_residual-in_err-first-in-Binary.ensures.1 in
    let context = context_of c.args.method.now in
    let scope = scope_of c.args.scope.now in
    let old = run_state c.args.run.now in
    let operator = c.in-Binary.operator in
    let left = view_exp c.in-Binary.left in
    let right = view_exp c.in-Binary.right in
    let tree = ap view_exp c.in-Binary.is ∙ view-binary operator c.in-Binary.left c.in-Binary.right in
    let floats = c.in_ok-floating-in-Binary.floating in
    let becomes = rw (c.get-in-Binary.ensures, c.get-in-Binary-2.ensures) at c.in_ok-floating-in-Binary.ensures.floating in
    let first = run_state c.evaluate-in-Binary.new.run in
    rw (p.1, p.2) record {
      value = subst (λ (one : trees.Exp). Ends view_value (Err c.in_err-first-in-Binary.field-0.0) first (value context scope one old)) (sym tree)
          (binary_stops_left context scope operator left right floats becomes old first c.in_err-first-in-Binary.field-0.0 (rw c.get-in-Binary-3.ensures at c.in_err-first-in-Binary.ensures.value));
    }

pub evaluate-returns-in_err-left-in-Binary : goal.evaluate-returns-in_err-left-in-Binary
evaluate-returns-in_err-left-in-Binary t c =
    let p = err_from_is_err_and c.from_residual-in_err-left-in-Binary.result c.from_residual-in_err-left-in-Binary.ensures.1 in
    let context = context_of c.args.method.now in
    let scope = scope_of c.args.scope.now in
    let old = run_state c.args.run.now in
    let operator = c.in-Binary.operator in
    let left = view_exp c.in-Binary.left in
    let right = view_exp c.in-Binary.right in
    let tree = ap view_exp c.in-Binary.is ∙ view-binary operator c.in-Binary.left c.in-Binary.right in
    let floats = c.in_ok-floating-in-Binary.floating in
    let becomes = rw (c.get-in-Binary.ensures, c.get-in-Binary-2.ensures) at c.in_ok-floating-in-Binary.ensures.floating in
    let first = run_state c.evaluate-in-Binary.new.run in
    let found = view_value c.in_ok-first-in-Binary.first in
    let is = rw c.get-in-Binary-3.ensures at c.in_ok-first-in-Binary.ensures.value in
    rw (p.1, p.2) record {
      value = subst (λ (one : trees.Exp). Ends view_value (Err c.in_err-left-in-Binary.field-0.0) first (value context scope one old)) (sym tree)
          (binary_behind context scope operator left right floats becomes old first found is view_value (Err c.in_err-left-in-Binary.field-0.0) first
          (left_stops (operator_of operator) floats found c.in_err-left-in-Binary.field-0.0 c.in_err-left-in-Binary.ensures.left context.headers (value context scope right) first));
    }

pub evaluate-returns-in-Gives : goal.evaluate-returns-in-Gives
evaluate-returns-in-Gives t c =
    let context = context_of c.args.method.now in
    let scope = scope_of c.args.scope.now in
    let old = run_state c.args.run.now in
    let operator = c.in-Binary.operator in
    let left = view_exp c.in-Binary.left in
    let right = view_exp c.in-Binary.right in
    let tree = ap view_exp c.in-Binary.is ∙ view-binary operator c.in-Binary.left c.in-Binary.right in
    let floats = c.in_ok-floating-in-Binary.floating in
    let becomes = rw (c.get-in-Binary.ensures, c.get-in-Binary-2.ensures) at c.in_ok-floating-in-Binary.ensures.floating in
    let first = run_state c.evaluate-in-Binary.new.run in
    let found = view_value c.in_ok-first-in-Binary.first in
    let is = rw c.get-in-Binary-3.ensures at c.in_ok-first-in-Binary.ensures.value in
    record {
      value = subst (λ (one : trees.Exp). Ends view_value (Ok c.in-Gives.value) first (value context scope one old)) (sym tree)
          (binary_behind context scope operator left right floats becomes old first found is view_value (Ok c.in-Gives.value) first
          (ap (λ part. part first) ((rw c.in-Gives.is at c.in_ok-left-in-Binary.ensures.left) context.headers (value context scope right))));
    }

pub evaluate-returns-in_err-second-in-Wants : goal.evaluate-returns-in_err-second-in-Wants
evaluate-returns-in_err-second-in-Wants t c =
    let p = err_from_is_err_and c.from_residual-in_err-second-in-Wants.result c.from_residual-in_err-second-in-Wants.ensures.1 in
    let context = context_of c.args.method.now in
    let scope = scope_of c.args.scope.now in
    let old = run_state c.args.run.now in
    let operator = c.in-Binary.operator in
    let left = view_exp c.in-Binary.left in
    let right = view_exp c.in-Binary.right in
    let tree = ap view_exp c.in-Binary.is ∙ view-binary operator c.in-Binary.left c.in-Binary.right in
    let floats = c.in_ok-floating-in-Binary.floating in
    let becomes = rw (c.get-in-Binary.ensures, c.get-in-Binary-2.ensures) at c.in_ok-floating-in-Binary.ensures.floating in
    let first = run_state c.evaluate-in-Binary.new.run in
    let found = view_value c.in_ok-first-in-Binary.first in
    let is = rw c.get-in-Binary-3.ensures at c.in_ok-first-in-Binary.ensures.value in
    let wanted = view_value c.in-Wants.first in
    let wants = (rw c.in-Wants.is at c.in_ok-left-in-Binary.ensures.left) context.headers (value context scope right) in
    let second = run_state c.evaluate-in-Wants.new.run in
    rw (p.1, p.2) record {
      value = subst (λ (one : trees.Exp). Ends view_value (Err c.in_err-second-in-Wants.field-0.0) second (value context scope one old)) (sym tree)
          (binary_stops_right context scope operator left right floats becomes old first found is wanted wants second c.in_err-second-in-Wants.field-0.0 (rw c.get-in-Wants.ensures at c.in_err-second-in-Wants.ensures.value));
    }

pub evaluate-returns-in-Binary : goal.evaluate-returns-in-Binary
evaluate-returns-in-Binary t c =
    let context = context_of c.args.method.now in
    let scope = scope_of c.args.scope.now in
    let old = run_state c.args.run.now in
    let operator = c.in-Binary.operator in
    let left = view_exp c.in-Binary.left in
    let right = view_exp c.in-Binary.right in
    let tree = ap view_exp c.in-Binary.is ∙ view-binary operator c.in-Binary.left c.in-Binary.right in
    let floats = c.in_ok-floating-in-Binary.floating in
    let becomes = rw (c.get-in-Binary.ensures, c.get-in-Binary-2.ensures) at c.in_ok-floating-in-Binary.ensures.floating in
    let first = run_state c.evaluate-in-Binary.new.run in
    let found = view_value c.in_ok-first-in-Binary.first in
    let is = rw c.get-in-Binary-3.ensures at c.in_ok-first-in-Binary.ensures.value in
    let wanted = view_value c.in-Wants.first in
    let wants = (rw c.in-Wants.is at c.in_ok-left-in-Binary.ensures.left) context.headers (value context scope right) in
    let second = run_state c.evaluate-in-Wants.new.run in
    let new = run_state c.compute-in-Wants.new.run in
    record {
      value = subst (λ (one : trees.Exp). Ends view_value c.compute-in-Wants.result new (value context scope one old)) (sym tree)
          (binary_ends context scope operator left right floats becomes old first found is wanted wants second c.compute-in-Wants.result (view_value c.in_ok-second-in-Wants.second) (view_computed c.joined.result) new (rw c.get-in-Wants.ensures at c.in_ok-second-in-Wants.ensures.value)
          c.joined.ensures.joined c.compute-in-Wants.ensures.computed);
    }

pub evaluate-returns-in_err-holds-in-Choice : goal.evaluate-returns-in_err-holds-in-Choice
evaluate-returns-in_err-holds-in-Choice t c =
    let p = err_from_is_err_and c.from_residual-in_err-holds-in-Choice.result c.from_residual-in_err-holds-in-Choice.ensures.1 in
    let context = context_of c.args.method.now in
    let scope = scope_of c.args.scope.now in
    let old = run_state c.args.run.now in
    let condition = view_exp c.in-Choice.condition in
    let first = view_exp c.in-Choice.first in
    let second = view_exp c.in-Choice.second in
    let tree = ap view_exp c.in-Choice.is ∙ view-choice c.in-Choice.condition c.in-Choice.first c.in-Choice.second in
    let middle = run_state c.evaluate-in-Choice.new.run in
    let found = view_value c.in_ok-decided-in-Choice.decided in
    let is = rw c.get-in-Choice.ensures at c.in_ok-decided-in-Choice.ensures.value in
    rw (p.1, p.2) record {
      value = subst (λ (one : trees.Exp). Ends view_value (Err c.in_err-holds-in-Choice.field-0.0) middle (value context scope one old)) (sym tree)
          (choice_no_truth context scope condition first second old middle found is c.in_err-holds-in-Choice.field-0.0 (c.in_err-holds-in-Choice.ensures.tested context middle));
    }

pub evaluate-returns-then-holds : goal.evaluate-returns-then-holds
evaluate-returns-then-holds t c =
    let context = context_of c.args.method.now in
    let scope = scope_of c.args.scope.now in
    let old = run_state c.args.run.now in
    let condition = view_exp c.in-Choice.condition in
    let first = view_exp c.in-Choice.first in
    let second = view_exp c.in-Choice.second in
    let tree = ap view_exp c.in-Choice.is ∙ view-choice c.in-Choice.condition c.in-Choice.first c.in-Choice.second in
    let middle = run_state c.evaluate-in-Choice.new.run in
    let found = view_value c.in_ok-decided-in-Choice.decided in
    let is = rw c.get-in-Choice.ensures at c.in_ok-decided-in-Choice.ensures.value in
    let new = run_state c.evaluate-then-holds.new.run in
    record {
      value = subst (λ (one : trees.Exp). Ends view_value c.evaluate-then-holds.result new (value context scope one old)) (sym tree)
          (choice_ends context scope condition first second old middle found is c.evaluate-then-holds.result true new (rw c.if-holds.true at (c.in_ok-holds-in-Choice.ensures.tested context middle)) (rw c.get-then-holds.ensures at c.evaluate-then-holds.ensures.value));
    }

pub evaluate-returns-in-Choice : goal.evaluate-returns-in-Choice
evaluate-returns-in-Choice t c =
    let context = context_of c.args.method.now in
    let scope = scope_of c.args.scope.now in
    let old = run_state c.args.run.now in
    let condition = view_exp c.in-Choice.condition in
    let first = view_exp c.in-Choice.first in
    let second = view_exp c.in-Choice.second in
    let tree = ap view_exp c.in-Choice.is ∙ view-choice c.in-Choice.condition c.in-Choice.first c.in-Choice.second in
    let middle = run_state c.evaluate-in-Choice.new.run in
    let found = view_value c.in_ok-decided-in-Choice.decided in
    let is = rw c.get-in-Choice.ensures at c.in_ok-decided-in-Choice.ensures.value in
    let new = run_state c.evaluate-else-holds.new.run in
    record {
      value = subst (λ (one : trees.Exp). Ends view_value c.evaluate-else-holds.result new (value context scope one old)) (sym tree)
          (choice_ends context scope condition first second old middle found is c.evaluate-else-holds.result false new (rw c.if-holds.false at (c.in_ok-holds-in-Choice.ensures.tested context middle)) (rw c.get-else-holds.ensures at c.evaluate-else-holds.ensures.value));
    }

pub make_array-returns-in_err-numbers : goal.make_array-returns-in_err-numbers
make_array-returns-in_err-numbers t c =
    let p = err_from_is_err_and c.from_residual-in_err-numbers.result c.from_residual-in_err-numbers.ensures.1 in
    let context = context_of c.args.method.now in
    let scope = scope_of c.args.scope.now in
    let old = run_state c.args.run.now in
    let sizes = view_exps c.args.sizes.now in
    let kind = view_type c.args.kind.now in
    let kinds = view_types c.in_ok-kinds.kinds in
    let as_many = c.in_ok-kinds.ensures.ints ∙ ap (λ number. replicate number types.Int) (sym (count_is c.args.sizes.now)) in
    let middle = run_state c.evaluate_all.new.run in
    rw (p.1, p.2) record {
      value = array_stops context scope sizes kind c.args.more kinds as_many old middle view_values c.in_err-numbers.field-0.0 (rw c.as_slice.ensures at c.in_err-numbers.ensures.values);
    }

pub make_array-returns : goal.make_array-returns
make_array-returns t c =
    let context = context_of c.args.method.now in
    let scope = scope_of c.args.scope.now in
    let old = run_state c.args.run.now in
    let sizes = view_exps c.args.sizes.now in
    let kind = view_type c.args.kind.now in
    let kinds = view_types c.in_ok-kinds.kinds in
    let as_many = c.in_ok-kinds.ensures.ints ∙ ap (λ number. replicate number types.Int) (sym (count_is c.args.sizes.now)) in
    let middle = run_state c.evaluate_all.new.run in
    let typed : view_type c.in_ok-array.array ≡ array_of (count sizes + c.args.more) kind = rw (count_is c.args.sizes.now) (search rules) in
    record {
      value = array_ends context scope sizes kind c.args.more kinds as_many old middle c.settle_value.result (view_values c.in_ok-numbers.numbers) (view_type c.in_ok-array.array) (view_value_reply c.in_ok-reply.reply) (run_state c.settle_value.new.run)
          (rw c.as_slice.ensures at c.in_ok-numbers.ensures.values) typed (rw c.as_slice-2.ensures at c.in_ok-reply.ensures.made) c.settle_value.ensures.settled;
    }
