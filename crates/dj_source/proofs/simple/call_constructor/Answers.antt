use Rattle.std.proofs.Common.{refl}
use Rattle.std.specs.Prelude.{Ok, Err, option_map}
use Rattle.std.proofs.lemmas.Result.{err_from_is_err_and}
use Rattle.dj_names.specs.Types.{view_types, parameters_of}
use Rattle.dj_syntax.specs.Trees.{view_exps}
use Rattle.dj_values.specs.Views.{view_value, view_values}
use Rattle.dj_static.specs.Scopes.{scope_of}
use Rattle.dj_static.specs.Targets.{view_target}
use Rattle.dj_meaning.specs.StaticTypes.{types_of, construct_target}
use Rattle.dj_meaning.specs.Expressions.{values, this_value, call_on}
use Rattle.dj_objects.specs.Runs.{context_of, run_state}
use Rattle.dj_evaluating.proofs.PartLemmas.{call_ends, call_stops_object, call_stops_arguments}
use Rattle.dj_source.proofs.SimpleLemmas.{normal_stops, normal_is}
use Rattle.dj_source.proofs.simple.call_constructor.Goals as goal

pub returns-in_err-receiver : goal.returns-in_err-receiver
returns-in_err-receiver c =
    let p = err_from_is_err_and c.from_residual-in_err-receiver.result c.from_residual-in_err-receiver.ensures.1 in
    let context = context_of c.args.method.now in
    let scope = scope_of c.args.scope.now in
    let old = run_state c.args.run.now in
    let asked = construct_target context c.args.own (types_of context scope (view_exps c.args.arguments.now)) in
    let arguments = values context scope (view_exps c.args.arguments.now) in
    let target = view_target c.in-Some.target in
    let types = parameters_of (view_target c.in-Some.target).descriptor in
    let found = rw c.in-Some.is at c.in_ok-asked.ensures.target in
    rw (p.1, p.2) record {
      done = normal_stops (option_map view_value) (call_on context asked (this_value context) arguments) old old c.in_err-receiver.field-0.0
          (call_stops_object context asked arguments target types found refl (this_value context) c.in_err-receiver.field-0.0 old old (c.in_err-receiver.ensures.this old));
    }

pub returns-in_err-values : goal.returns-in_err-values
returns-in_err-values c =
    let p = err_from_is_err_and c.from_residual-in_err-values.result c.from_residual-in_err-values.ensures.1 in
    let context = context_of c.args.method.now in
    let scope = scope_of c.args.scope.now in
    let old = run_state c.args.run.now in
    let asked = construct_target context c.args.own (types_of context scope (view_exps c.args.arguments.now)) in
    let arguments = values context scope (view_exps c.args.arguments.now) in
    let target = view_target c.in-Some.target in
    let types = view_types c.parameters.result.now in
    let found = rw c.in-Some.is at c.in_ok-asked.ensures.target in
    let typed = c.parameters.ensures.parameters in
    let receiver = view_value c.in_ok-receiver.receiver in
    let middle = run_state c.evaluate_all.new.run in
    rw (p.1, p.2) record {
      done = normal_stops (option_map view_value) (call_on context asked (this_value context) arguments) old middle c.in_err-values.field-0.0
          (call_stops_arguments context asked arguments target types found typed (this_value context) view_values c.in_err-values.field-0.0 receiver old old middle (c.in_ok-receiver.ensures.this old) c.in_err-values.ensures.values);
    }

pub returns-in_err-settle : goal.returns-in_err-settle
returns-in_err-settle c =
    let p = err_from_is_err_and c.from_residual-in_err-settle.result c.from_residual-in_err-settle.ensures.1 in
    let context = context_of c.args.method.now in
    let scope = scope_of c.args.scope.now in
    let old = run_state c.args.run.now in
    let asked = construct_target context c.args.own (types_of context scope (view_exps c.args.arguments.now)) in
    let arguments = values context scope (view_exps c.args.arguments.now) in
    let target = view_target c.in-Some.target in
    let types = view_types c.parameters.result.now in
    let found = rw c.in-Some.is at c.in_ok-asked.ensures.target in
    let typed = c.parameters.ensures.parameters in
    let receiver = view_value c.in_ok-receiver.receiver in
    let middle = run_state c.evaluate_all.new.run in
    let last = run_state c.settle.new.run in
    rw (p.1, p.2) record {
      done = normal_stops (option_map view_value) (call_on context asked (this_value context) arguments) old last c.in_err-settle.field-0.0
          (call_ends context asked arguments target types found typed (this_value context) (Err c.in_err-settle.field-0.0) receiver (view_values c.in_ok-values.values) old old middle last (c.in_ok-receiver.ensures.this old) c.in_ok-values.ensures.values (rw c.in_ok-reply.ensures.called at c.in_err-settle.ensures.settled));
    }

pub returns : goal.returns
returns c =
    let context = context_of c.args.method.now in
    let scope = scope_of c.args.scope.now in
    let old = run_state c.args.run.now in
    let asked = construct_target context c.args.own (types_of context scope (view_exps c.args.arguments.now)) in
    let arguments = values context scope (view_exps c.args.arguments.now) in
    let target = view_target c.in-Some.target in
    let types = view_types c.parameters.result.now in
    let found = rw c.in-Some.is at c.in_ok-asked.ensures.target in
    let typed = c.parameters.ensures.parameters in
    let receiver = view_value c.in_ok-receiver.receiver in
    let middle = run_state c.evaluate_all.new.run in
    let last = run_state c.settle.new.run in
    record {
      done = normal_is (call_on context asked (this_value context) arguments) _ old last
          (call_ends context asked arguments target types found typed (this_value context) (Ok _) receiver (view_values c.in_ok-values.values) old old middle last (c.in_ok-receiver.ensures.this old) c.in_ok-values.ensures.values (rw c.in_ok-reply.ensures.called at c.in_ok-settle.ensures.settled));
    }
