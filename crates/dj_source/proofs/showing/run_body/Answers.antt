use Rattle.std.proofs.Common.{ap, ◌∙◌, sym, subst}
use Rattle.std.specs.Prelude.{Err, option_map}
use Rattle.std.proofs.lemmas.Result.{err_from_is_err_and}
use Rattle.dj_syntax.specs.Trees.{view_stms}
use Rattle.dj_values.specs.Views.{view_value}
use Rattle.dj_outside.specs.Runs.{Ends}
use Rattle.dj_static.specs.Scopes.{scope_of}
use Rattle.dj_meaning.specs.Meaning.{run_statements, ended}
use Rattle.dj_objects.specs.Runs.{context_of, run_state}
use Rattle.dj_evaluating.proofs.PartLemmas.{then_ends, then_stops}
use Rattle.dj_source.specs.Running.{view_completion}
use Rattle.dj_source.proofs.ListLemmas.{begun_statements}
use Rattle.dj_source.proofs.showing.run_body.Goals as goal

pub returns-in_err-completion : goal.returns-in_err-completion
returns-in_err-completion c =
    let p = err_from_is_err_and c.from_residual.result c.from_residual.ensures.1 in
    let context = context_of c.args.method.now in
    let scope = scope_of c.args.scope.now in
    let bound = c.args.method.now.bound in
    let list = view_stms c.args.body.now.statements in
    let old = run_state c.args.run.now in
    let middle = run_state c.run_list.new.run in
    let stop = c.in_err-completion.field-0.0 in
    rw (p.1, p.2) record {
      done = then_stops view_completion (option_map view_value) (run_statements context scope bound list) (ended context.result) old middle stop
          (subst (λ part. Ends view_completion (Err stop) middle (part old)) (begun_statements context scope bound list) (rw c.as_slice.ensures at c.in_err-completion.ensures.done));
    }

pub returns : goal.returns
returns c =
    let context = context_of c.args.method.now in
    let scope = scope_of c.args.scope.now in
    let bound = c.args.method.now.bound in
    let list = view_stms c.args.body.now.statements in
    let old = run_state c.args.run.now in
    let middle = run_state c.run_list.new.run in
    record {
      done = then_ends view_completion (option_map view_value) (run_statements context scope bound list) (ended context.result) old middle c.ended.result middle (view_completion c.in_ok-completion.completion)
          (ap (λ part. part old) (sym (begun_statements context scope bound list)) ∙ (rw c.as_slice.ensures at c.in_ok-completion.ensures.done)) (c.ended.ensures.ended middle);
    }
