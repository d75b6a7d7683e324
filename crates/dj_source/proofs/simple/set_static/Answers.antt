use Rattle.std.proofs.Common.{ap, ◌∙◌}
use Rattle.std.specs.Prelude.{Ok, Err}
use Rattle.std.proofs.lemmas.Result.{err_from_is_err_and}
use Rattle.dj_names.specs.Types.{Class}
use Rattle.dj_headers.proofs.TypeViews.{view-class}
use Rattle.dj_syntax.specs.Trees.{view_exp}
use Rattle.dj_values.specs.Values.{PutStatic}
use Rattle.dj_meaning.specs.Fields.{KnownField}
use Rattle.dj_values.specs.Views.{view_value}
use Rattle.dj_values.specs.Outcomes.{ask}
use Rattle.dj_static.specs.Scopes.{scope_of}
use Rattle.dj_static.specs.Views.{known_of}
use Rattle.dj_meaning.specs.Fields.{named_field}
use Rattle.dj_meaning.specs.Runs.{fitted, ◌>>=◌}
use Rattle.dj_meaning.specs.Expressions.{value}
use Rattle.dj_objects.specs.Runs.{context_of, run_state}
use Rattle.dj_objects.specs.Replies.{view_reply}
use Rattle.dj_evaluating.proofs.PartLemmas.{with_ends}
use Rattle.dj_source.specs.declared.completion.Completion.TheVariants as completions
use Rattle.dj_source.specs.Running.{view_completion}
use Rattle.dj_source.proofs.SimpleLemmas.{stores, stores_no_value, stores_stops, stores_done}
use Rattle.dj_source.proofs.simple.set_static.Goals as goal

pub returns-in_err-kept : goal.returns-in_err-kept
returns-in_err-kept c =
    let p = err_from_is_err_and c.from_residual-in_err-kept.result c.from_residual-in_err-kept.ensures.1 in
    let context = context_of c.args.method.now in
    let scope = scope_of c.args.scope.now in
    let old = run_state c.args.run.now in
    let new = value context scope (view_exp c.args.new.now) in
    let field = known_of c.in-Some.field.now in
    let named = rw c.in-Some.is at c.in_ok-named.ensures.field in
    let second = run_state c.evaluate_to.new.run in
    let storing = λ (one : KnownField). stores context (new >>= fitted context.headers one.type) (λ value. ask (PutStatic (Class c.args.class.now) c.args.name.now one.type value)) in
    rw (p.1, p.2) record {
      done = with_ends view_completion (Err c.in_err-kept.field-0.0) (named_field context.headers context.members context.class c.args.class.now c.args.name.now) field storing old second named
          (stores_no_value context (new >>= fitted context.headers field.type) (λ value. ask (PutStatic (Class c.args.class.now) c.args.name.now field.type value)) old second c.in_err-kept.field-0.0 c.in_err-kept.ensures.value);
    }

pub returns-in_err-settle : goal.returns-in_err-settle
returns-in_err-settle c =
    let p = err_from_is_err_and c.from_residual-in_err-settle.result c.from_residual-in_err-settle.ensures.1 in
    let context = context_of c.args.method.now in
    let scope = scope_of c.args.scope.now in
    let old = run_state c.args.run.now in
    let new = value context scope (view_exp c.args.new.now) in
    let field = known_of c.in-Some.field.now in
    let named = rw c.in-Some.is at c.in_ok-named.ensures.field in
    let second = run_state c.evaluate_to.new.run in
    let last = run_state c.settle.new.run in
    let kept = view_value c.in_ok-kept.kept in
    let storing = λ (one : KnownField). stores context (new >>= fitted context.headers one.type) (λ value. ask (PutStatic (Class c.args.class.now) c.args.name.now one.type value)) in
    rw (p.1, p.2) record {
      done = with_ends view_completion (Err c.in_err-settle.field-0.0) (named_field context.headers context.members context.class c.args.class.now c.args.name.now) field storing old last named
          (stores_stops context (new >>= fitted context.headers field.type) (λ value. ask (PutStatic (Class c.args.class.now) c.args.name.now field.type value)) old second kept c.in_ok-kept.ensures.value (view_reply c.in_ok-reply.reply) ((rw c.in_ok-copy.ensures.equal at c.in_ok-reply.ensures.written) ∙ ap (λ owner. ask (PutStatic owner c.args.name.now field.type kept)) (view-class c.args.class.now)) last c.in_err-settle.field-0.0 c.in_err-settle.ensures.settled);
    }

pub returns : goal.returns
returns c =
    let context = context_of c.args.method.now in
    let scope = scope_of c.args.scope.now in
    let old = run_state c.args.run.now in
    let new = value context scope (view_exp c.args.new.now) in
    let field = known_of c.in-Some.field.now in
    let named = rw c.in-Some.is at c.in_ok-named.ensures.field in
    let second = run_state c.evaluate_to.new.run in
    let last = run_state c.settle.new.run in
    let kept = view_value c.in_ok-kept.kept in
    let storing = λ (one : KnownField). stores context (new >>= fitted context.headers one.type) (λ value. ask (PutStatic (Class c.args.class.now) c.args.name.now one.type value)) in
    record {
      done = with_ends view_completion (Ok completions.Normal) (named_field context.headers context.members context.class c.args.class.now c.args.name.now) field storing old last named
          (stores_done context (new >>= fitted context.headers field.type) (λ value. ask (PutStatic (Class c.args.class.now) c.args.name.now field.type value)) old second kept c.in_ok-kept.ensures.value (view_reply c.in_ok-reply.reply) ((rw c.in_ok-copy.ensures.equal at c.in_ok-reply.ensures.written) ∙ ap (λ owner. ask (PutStatic owner c.args.name.now field.type kept)) (view-class c.args.class.now)) last _ c.in_ok-settle.ensures.settled);
    }
