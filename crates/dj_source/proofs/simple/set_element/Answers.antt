use Rattle.std.specs.Prelude.{Ok, Err, option_and_then}
use Rattle.std.proofs.lemmas.Result.{err_from_is_err_and}
use Rattle.dj_names.specs.Types.{view_type}
use Rattle.dj_syntax.specs.Trees.{view_exp}
use Rattle.dj_values.specs.Values.{Value}
use Rattle.dj_values.specs.Views.{view_value}
use Rattle.dj_values.specs.Fits.{element_of}
use Rattle.dj_static.specs.Scopes.{scope_of}
use Rattle.dj_meaning.specs.StaticTypes.{plain, type_of}
use Rattle.dj_meaning.specs.Objects.{element_written}
use Rattle.dj_meaning.specs.Runs.{fitted, ◌>>=◌}
use Rattle.dj_meaning.specs.Expressions.{value}
use Rattle.dj_meaning.specs.Statements.{element_set}
use Rattle.dj_objects.specs.Runs.{context_of, run_state}
use Rattle.dj_objects.specs.Replies.{view_reply}
use Rattle.dj_evaluating.proofs.PartLemmas.{then_ends, then_stops, with_ends}
use Rattle.dj_source.specs.declared.completion.Completion.TheVariants as completions
use Rattle.dj_source.specs.Running.{view_completion}
use Rattle.dj_source.proofs.SimpleLemmas.{stores, stores_no_value, stores_stops, stores_done}
use Rattle.dj_source.proofs.simple.set_element.Goals as goal

pub returns-in_err-found : goal.returns-in_err-found
returns-in_err-found c =
    let p = err_from_is_err_and c.from_residual-in_err-found.result c.from_residual-in_err-found.ensures.1 in
    let context = context_of c.args.method.now in
    let scope = scope_of c.args.scope.now in
    let old = run_state c.args.run.now in
    let array = value context scope (view_exp c.args.array.now) in
    let index = value context scope (view_exp c.args.index.now) in
    let new = value context scope (view_exp c.args.new.now) in
    let element = view_type c.in-Some.element in
    let known = rw c.in-Some.is at c.in_ok-known.ensures.element in
    let first = run_state c.evaluate.new.run in
    let part = new >>= fitted context.headers element in
    let at = λ (one there : Value). stores context part (element_written context.headers one there) in
    let behind = λ (one : Value). index >>= at one in
    rw (p.1, p.2) record {
      done = with_ends view_completion (Err c.in_err-found.field-0.0) (option_and_then element_of (plain (type_of context scope (view_exp c.args.array.now)))) element (element_set context array index new) old first known
          (then_stops view_value view_completion array behind old first c.in_err-found.field-0.0 c.in_err-found.ensures.value);
    }

pub returns-in_err-place : goal.returns-in_err-place
returns-in_err-place c =
    let p = err_from_is_err_and c.from_residual-in_err-place.result c.from_residual-in_err-place.ensures.1 in
    let context = context_of c.args.method.now in
    let scope = scope_of c.args.scope.now in
    let old = run_state c.args.run.now in
    let array = value context scope (view_exp c.args.array.now) in
    let index = value context scope (view_exp c.args.index.now) in
    let new = value context scope (view_exp c.args.new.now) in
    let element = view_type c.in-Some.element in
    let known = rw c.in-Some.is at c.in_ok-known.ensures.element in
    let first = run_state c.evaluate.new.run in
    let second = run_state c.evaluate-2.new.run in
    let found = view_value c.in_ok-found.found in
    let part = new >>= fitted context.headers element in
    let at = λ (one there : Value). stores context part (element_written context.headers one there) in
    let behind = λ (one : Value). index >>= at one in
    rw (p.1, p.2) record {
      done = with_ends view_completion (Err c.in_err-place.field-0.0) (option_and_then element_of (plain (type_of context scope (view_exp c.args.array.now)))) element (element_set context array index new) old second known
          (then_ends view_value view_completion array behind old first (Err c.in_err-place.field-0.0) second found c.in_ok-found.ensures.value
          (then_stops view_value view_completion index (at found) first second c.in_err-place.field-0.0 c.in_err-place.ensures.value));
    }

pub returns-in_err-kept : goal.returns-in_err-kept
returns-in_err-kept c =
    let p = err_from_is_err_and c.from_residual-in_err-kept.result c.from_residual-in_err-kept.ensures.1 in
    let context = context_of c.args.method.now in
    let scope = scope_of c.args.scope.now in
    let old = run_state c.args.run.now in
    let array = value context scope (view_exp c.args.array.now) in
    let index = value context scope (view_exp c.args.index.now) in
    let new = value context scope (view_exp c.args.new.now) in
    let element = view_type c.in-Some.element in
    let known = rw c.in-Some.is at c.in_ok-known.ensures.element in
    let first = run_state c.evaluate.new.run in
    let second = run_state c.evaluate-2.new.run in
    let third = run_state c.evaluate_to.new.run in
    let found = view_value c.in_ok-found.found in
    let place = view_value c.in_ok-place.place in
    let part = new >>= fitted context.headers element in
    let at = λ (one there : Value). stores context part (element_written context.headers one there) in
    let behind = λ (one : Value). index >>= at one in
    rw (p.1, p.2) record {
      done = with_ends view_completion (Err c.in_err-kept.field-0.0) (option_and_then element_of (plain (type_of context scope (view_exp c.args.array.now)))) element (element_set context array index new) old third known
          (then_ends view_value view_completion array behind old first (Err c.in_err-kept.field-0.0) third found c.in_ok-found.ensures.value
          (then_ends view_value view_completion index (at found) first second (Err c.in_err-kept.field-0.0) third place c.in_ok-place.ensures.value
          (stores_no_value context part (element_written context.headers found place) second third c.in_err-kept.field-0.0 c.in_err-kept.ensures.value)));
    }

pub returns-in_err-settle : goal.returns-in_err-settle
returns-in_err-settle c =
    let p = err_from_is_err_and c.from_residual-in_err-settle.result c.from_residual-in_err-settle.ensures.1 in
    let context = context_of c.args.method.now in
    let scope = scope_of c.args.scope.now in
    let old = run_state c.args.run.now in
    let array = value context scope (view_exp c.args.array.now) in
    let index = value context scope (view_exp c.args.index.now) in
    let new = value context scope (view_exp c.args.new.now) in
    let element = view_type c.in-Some.element in
    let known = rw c.in-Some.is at c.in_ok-known.ensures.element in
    let first = run_state c.evaluate.new.run in
    let second = run_state c.evaluate-2.new.run in
    let third = run_state c.evaluate_to.new.run in
    let last = run_state c.settle.new.run in
    let found = view_value c.in_ok-found.found in
    let place = view_value c.in_ok-place.place in
    let kept = view_value c.in_ok-kept.kept in
    let part = new >>= fitted context.headers element in
    let at = λ (one there : Value). stores context part (element_written context.headers one there) in
    let behind = λ (one : Value). index >>= at one in
    rw (p.1, p.2) record {
      done = with_ends view_completion (Err c.in_err-settle.field-0.0) (option_and_then element_of (plain (type_of context scope (view_exp c.args.array.now)))) element (element_set context array index new) old last known
          (then_ends view_value view_completion array behind old first (Err c.in_err-settle.field-0.0) last found c.in_ok-found.ensures.value
          (then_ends view_value view_completion index (at found) first second (Err c.in_err-settle.field-0.0) last place c.in_ok-place.ensures.value
          (stores_stops context part (element_written context.headers found place) second third kept c.in_ok-kept.ensures.value (view_reply c.write-reply.result) c.write-reply.ensures.written last c.in_err-settle.field-0.0 c.in_err-settle.ensures.settled)));
    }

pub returns : goal.returns
returns c =
    let context = context_of c.args.method.now in
    let scope = scope_of c.args.scope.now in
    let old = run_state c.args.run.now in
    let array = value context scope (view_exp c.args.array.now) in
    let index = value context scope (view_exp c.args.index.now) in
    let new = value context scope (view_exp c.args.new.now) in
    let element = view_type c.in-Some.element in
    let known = rw c.in-Some.is at c.in_ok-known.ensures.element in
    let first = run_state c.evaluate.new.run in
    let second = run_state c.evaluate-2.new.run in
    let third = run_state c.evaluate_to.new.run in
    let last = run_state c.settle.new.run in
    let found = view_value c.in_ok-found.found in
    let place = view_value c.in_ok-place.place in
    let kept = view_value c.in_ok-kept.kept in
    let part = new >>= fitted context.headers element in
    let at = λ (one there : Value). stores context part (element_written context.headers one there) in
    let behind = λ (one : Value). index >>= at one in
    record {
      done = with_ends view_completion (Ok completions.Normal) (option_and_then element_of (plain (type_of context scope (view_exp c.args.array.now)))) element (element_set context array index new) old last known
          (then_ends view_value view_completion array behind old first (Ok completions.Normal) last found c.in_ok-found.ensures.value
          (then_ends view_value view_completion index (at found) first second (Ok completions.Normal) last place c.in_ok-place.ensures.value
          (stores_done context part (element_written context.headers found place) second third kept c.in_ok-kept.ensures.value (view_reply c.write-reply.result) c.write-reply.ensures.written last _ c.in_ok-settle.ensures.settled)));
    }
