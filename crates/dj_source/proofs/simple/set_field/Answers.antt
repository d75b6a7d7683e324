use Rattle.std.specs.Prelude.{Ok, Err, option_and_then}
use Rattle.std.proofs.lemmas.Result.{err_from_is_err_and}
use Rattle.dj_names.specs.Types.{view_type}
use Rattle.dj_syntax.specs.Trees.{view_exp}
use Rattle.dj_values.specs.Values.{Value}
use Rattle.dj_values.specs.Views.{view_value}
use Rattle.dj_static.specs.Scopes.{scope_of}
use Rattle.dj_static.specs.Views.{known_of}
use Rattle.dj_meaning.specs.Fields.{Member, selected}
use Rattle.dj_meaning.specs.StaticTypes.{plain, type_of}
use Rattle.dj_meaning.specs.Objects.{field_written}
use Rattle.dj_meaning.specs.Runs.{fitted, ◌>>=◌}
use Rattle.dj_meaning.specs.Expressions.{value}
use Rattle.dj_meaning.specs.Statements.{field_set}
use Rattle.dj_objects.specs.Runs.{context_of, run_state}
use Rattle.dj_objects.specs.Replies.{view_reply}
use Rattle.dj_evaluating.proofs.PartLemmas.{then_ends, then_stops, with_ends}
use Rattle.dj_source.specs.declared.completion.Completion.TheVariants as completions
use Rattle.dj_source.specs.Running.{view_completion}
use Rattle.dj_source.proofs.SimpleLemmas.{stores, stores_no_value, stores_stops, stores_done}
use Rattle.dj_source.proofs.simple.set_field.Goals as goal

pub returns-in_err-found : goal.returns-in_err-found
returns-in_err-found c =
    let p = err_from_is_err_and c.from_residual-in_err-found.result c.from_residual-in_err-found.ensures.1 in
    let context = context_of c.args.method.now in
    let scope = scope_of c.args.scope.now in
    let old = run_state c.args.run.now in
    let object = value context scope (view_exp c.args.object.now) in
    let new = value context scope (view_exp c.args.new.now) in
    let member = Member (view_type c.in-Some.class) (known_of c.in-Field.field.now) in
    let selects = rw (c.in-Some.is, c.in-Field.is) at c.in_ok-chosen.ensures.selection in
    let first = run_state c.evaluate.new.run in
    let storing = λ (one : Value). stores context (new >>= fitted context.headers (known_of c.in-Field.field.now).type) (field_written (view_type c.in-Some.class) c.args.name.now (known_of c.in-Field.field.now) one) in
    rw (p.1, p.2) record {
      done = with_ends view_completion (Err c.in_err-found.field-0.0) (option_and_then (selected context.headers context.members context.class c.args.name.now) (plain (type_of context scope (view_exp c.args.object.now)))) member (field_set context c.args.name.now object new) old first selects
          (then_stops view_value view_completion object storing old first c.in_err-found.field-0.0 c.in_err-found.ensures.value);
    }

pub returns-in_err-kept : goal.returns-in_err-kept
returns-in_err-kept c =
    let p = err_from_is_err_and c.from_residual-in_err-kept.result c.from_residual-in_err-kept.ensures.1 in
    let context = context_of c.args.method.now in
    let scope = scope_of c.args.scope.now in
    let old = run_state c.args.run.now in
    let object = value context scope (view_exp c.args.object.now) in
    let new = value context scope (view_exp c.args.new.now) in
    let member = Member (view_type c.in-Some.class) (known_of c.in-Field.field.now) in
    let selects = rw (c.in-Some.is, c.in-Field.is) at c.in_ok-chosen.ensures.selection in
    let first = run_state c.evaluate.new.run in
    let second = run_state c.evaluate_to.new.run in
    let found = view_value c.in_ok-found.found in
    let storing = λ (one : Value). stores context (new >>= fitted context.headers (known_of c.in-Field.field.now).type) (field_written (view_type c.in-Some.class) c.args.name.now (known_of c.in-Field.field.now) one) in
    rw (p.1, p.2) record {
      done = with_ends view_completion (Err c.in_err-kept.field-0.0) (option_and_then (selected context.headers context.members context.class c.args.name.now) (plain (type_of context scope (view_exp c.args.object.now)))) member (field_set context c.args.name.now object new) old second selects
          (then_ends view_value view_completion object storing old first (Err c.in_err-kept.field-0.0) second found c.in_ok-found.ensures.value
          (stores_no_value context (new >>= fitted context.headers (known_of c.in-Field.field.now).type) (field_written (view_type c.in-Some.class) c.args.name.now (known_of c.in-Field.field.now) found) first second c.in_err-kept.field-0.0 c.in_err-kept.ensures.value));
    }

pub returns-in_err-settle : goal.returns-in_err-settle
returns-in_err-settle c =
    let p = err_from_is_err_and c.from_residual-in_err-settle.result c.from_residual-in_err-settle.ensures.1 in
    let context = context_of c.args.method.now in
    let scope = scope_of c.args.scope.now in
    let old = run_state c.args.run.now in
    let object = value context scope (view_exp c.args.object.now) in
    let new = value context scope (view_exp c.args.new.now) in
    let member = Member (view_type c.in-Some.class) (known_of c.in-Field.field.now) in
    let selects = rw (c.in-Some.is, c.in-Field.is) at c.in_ok-chosen.ensures.selection in
    let first = run_state c.evaluate.new.run in
    let second = run_state c.evaluate_to.new.run in
    let last = run_state c.settle.new.run in
    let kept = view_value c.in_ok-kept.kept in
    let found = view_value c.in_ok-found.found in
    let storing = λ (one : Value). stores context (new >>= fitted context.headers (known_of c.in-Field.field.now).type) (field_written (view_type c.in-Some.class) c.args.name.now (known_of c.in-Field.field.now) one) in
    rw (p.1, p.2) record {
      done = with_ends view_completion (Err c.in_err-settle.field-0.0) (option_and_then (selected context.headers context.members context.class c.args.name.now) (plain (type_of context scope (view_exp c.args.object.now)))) member (field_set context c.args.name.now object new) old last selects
          (then_ends view_value view_completion object storing old first (Err c.in_err-settle.field-0.0) last found c.in_ok-found.ensures.value
          (stores_stops context (new >>= fitted context.headers (known_of c.in-Field.field.now).type) (field_written (view_type c.in-Some.class) c.args.name.now (known_of c.in-Field.field.now) found) first second kept c.in_ok-kept.ensures.value (view_reply c.in_ok-reply.reply) c.in_ok-reply.ensures.written last c.in_err-settle.field-0.0 c.in_err-settle.ensures.settled));
    }

pub returns : goal.returns
returns c =
    let context = context_of c.args.method.now in
    let scope = scope_of c.args.scope.now in
    let old = run_state c.args.run.now in
    let object = value context scope (view_exp c.args.object.now) in
    let new = value context scope (view_exp c.args.new.now) in
    let member = Member (view_type c.in-Some.class) (known_of c.in-Field.field.now) in
    let selects = rw (c.in-Some.is, c.in-Field.is) at c.in_ok-chosen.ensures.selection in
    let first = run_state c.evaluate.new.run in
    let second = run_state c.evaluate_to.new.run in
    let last = run_state c.settle.new.run in
    let kept = view_value c.in_ok-kept.kept in
    let found = view_value c.in_ok-found.found in
    let storing = λ (one : Value). stores context (new >>= fitted context.headers (known_of c.in-Field.field.now).type) (field_written (view_type c.in-Some.class) c.args.name.now (known_of c.in-Field.field.now) one) in
    record {
      done = with_ends view_completion (Ok completions.Normal) (option_and_then (selected context.headers context.members context.class c.args.name.now) (plain (type_of context scope (view_exp c.args.object.now)))) member (field_set context c.args.name.now object new) old last selects
          (then_ends view_value view_completion object storing old first (Ok completions.Normal) last found c.in_ok-found.ensures.value
          (stores_done context (new >>= fitted context.headers (known_of c.in-Field.field.now).type) (field_written (view_type c.in-Some.class) c.args.name.now (known_of c.in-Field.field.now) found) first second kept c.in_ok-kept.ensures.value (view_reply c.in_ok-reply.reply) c.in_ok-reply.ensures.written last _ c.in_ok-settle.ensures.settled));
    }
