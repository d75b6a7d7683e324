use Rattle.std.proofs.Common.{Some, None, reverse, sym, ap, ◌∙◌}
use Rattle.dj_grammar.specs.Steps.{starting}
use Rattle.dj_expressions.specs.Views.{view_open}
use Rattle.dj_expressions.specs.declared.frames.Pending.TheVariants as pendings
use Rattle.dj_expressions.proofs.OpenLemmas.{back_again, starting-joins, starting-opens}
use Rattle.dj_expressions.proofs.frames.take_start.Goals as goal

pub returns-in_default-clause-taken : goal.returns-in_default-clause-taken
returns-in_default-clause-taken c = ap (λ pending. starting (view_open pending)) c.in_default.ensures.0

pub returns-in_default-clause-kept : goal.returns-in_default-clause-kept
returns-in_default-clause-kept c = λ _. c.in_default.ensures.1 ∙ sym c.in_default.ensures.0

pub returns-in_ok-push-in-Ok-clause-taken : goal.returns-in_ok-push-in-Ok-clause-taken
returns-in_ok-push-in-Ok-clause-taken c = starting-joins c.args.pending.now c.pop.new.self c.in-Some.frame c.in-Ok.joint c.in-Some.ensures c.in-Ok.ensures.parts

pub returns-in_ok-push-in-Ok-clause-kept : goal.returns-in_ok-push-in-Ok-clause-kept
returns-in_ok-push-in-Ok-clause-kept c = λ _. back_again _ _ _ _ _ c.in-Some.ensures c.in-Ok.ensures.parts c.in_ok-push-in-Ok.ensures.ok

pub returns-in-Ok-labels_in-clause-taken : goal.returns-in-Ok-labels_in-clause-taken
returns-in-Ok-labels_in-clause-taken c =
    starting-opens c.args.pending.now c.pop.new.self c.in-Some.frame c.in-Err.opener (Some (reverse c.in-Ok-labels_in.labels)) c.in-Some.ensures c.in-Err.ensures.parts c.in-Ok-labels_in.ensures.labels

pub returns-in_ok-push-in-Err-labels_in-clause-taken : goal.returns-in_ok-push-in-Err-labels_in-clause-taken
returns-in_ok-push-in-Err-labels_in-clause-taken c =
    starting-opens c.args.pending.now c.pop.new.self c.in-Some.frame c.in-Err.opener None c.in-Some.ensures c.in-Err.ensures.parts c.in-Err-labels_in.ensures.labels.1

pub returns-in_ok-push-in-Err-labels_in-clause-kept : goal.returns-in_ok-push-in-Err-labels_in-clause-kept
returns-in_ok-push-in-Err-labels_in-clause-kept c =
    λ _. back_again _ _ _ _ _ c.in-Some.ensures (c.in-Err.ensures.parts ∙ sym (ap pendings.Opens c.in-Err-labels_in.ensures.labels.0)) c.in_ok-push-in-Err-labels_in.ensures.ok
