use Rattle.std.proofs.Common.{Some, None, sym, ap, ◌∙◌}
use Rattle.dj_syntax.specs.Trees.{view_exp}
use Rattle.dj_grammar.specs.Frames.{testing}
use Rattle.dj_expressions.specs.Views.{view_open}
use Rattle.dj_expressions.specs.declared.frames.Pending.TheVariants as pendings
use Rattle.dj_expressions.proofs.OpenLemmas.{back_again, testing-joins, testing-opens}
use Rattle.dj_expressions.proofs.frames.take_test.Goals as goal

pub returns-in_default-clause-taken : goal.returns-in_default-clause-taken
returns-in_default-clause-taken c = ap (λ pending. testing (view_open pending)) c.in_default.ensures.0

pub returns-in_default-clause-kept : goal.returns-in_default-clause-kept
returns-in_default-clause-kept c = λ _. c.in_default.ensures.1 ∙ sym c.in_default.ensures.0

pub returns-in_ok-push-in-Err-clause-taken : goal.returns-in_ok-push-in-Err-clause-taken
returns-in_ok-push-in-Err-clause-taken c = testing-opens c.args.pending.now c.pop.new.self c.in-Some.frame c.in-Err.opener c.in-Some.ensures c.in-Err.ensures.parts

pub returns-in_ok-push-in-Err-clause-kept : goal.returns-in_ok-push-in-Err-clause-kept
returns-in_ok-push-in-Err-clause-kept c = λ _. back_again _ _ _ _ _ c.in-Some.ensures c.in-Err.ensures.parts c.in_ok-push-in-Err.ensures.ok

pub returns-in-Ok-type_tested-clause-taken : goal.returns-in-Ok-type_tested-clause-taken
returns-in-Ok-type_tested-clause-taken c =
    testing-joins c.args.pending.now c.pop.new.self c.in-Some.frame c.in-Ok.joint (Some (view_exp c.in-Ok-type_tested.operand)) c.in-Some.ensures c.in-Ok.ensures.parts c.in-Ok-type_tested.ensures.tested

pub returns-in_ok-push-in-Err-type_tested-clause-taken : goal.returns-in_ok-push-in-Err-type_tested-clause-taken
returns-in_ok-push-in-Err-type_tested-clause-taken c =
    testing-joins c.args.pending.now c.pop.new.self c.in-Some.frame c.in-Ok.joint None c.in-Some.ensures c.in-Ok.ensures.parts c.in-Err-type_tested.ensures.tested.1

pub returns-in_ok-push-in-Err-type_tested-clause-kept : goal.returns-in_ok-push-in-Err-type_tested-clause-kept
returns-in_ok-push-in-Err-type_tested-clause-kept c =
    λ _. back_again _ _ _ _ _ c.in-Some.ensures (c.in-Ok.ensures.parts ∙ sym (ap pendings.Joins c.in-Err-type_tested.ensures.tested.0)) c.in_ok-push-in-Err-type_tested.ensures.ok
