use Rattle.std.proofs.Common.{false, refl, sym, ap, ◌∙◌}
use Rattle.dj_grammar.specs.Brackets.{enclosing}
use Rattle.dj_expressions.specs.Views.{view_open}
use Rattle.dj_expressions.specs.declared.frames.Pending.TheVariants as pendings
use Rattle.dj_expressions.proofs.OpenLemmas.{back_again, enclosing-kept, enclosing-taken, put_back}
use Rattle.dj_expressions.proofs.frames.take_parenthesis.Goals as goal

pub returns-in_default-clause-taken : goal.returns-in_default-clause-taken
returns-in_default-clause-taken c = ap (λ pending. enclosing (view_open pending)) c.in_default.ensures.0

pub returns-in_default-clause-kept : goal.returns-in_default-clause-kept
returns-in_default-clause-kept c = λ _. c.in_default.ensures.1 ∙ sym c.in_default.ensures.0

pub returns-in_ok-taken-in-Err-clause-taken : goal.returns-in_ok-taken-in-Err-clause-taken
returns-in_ok-taken-in-Err-clause-taken c =
    enclosing-taken c.args.pending.now c.pop.new.self c.put_back_unless.new.pending c.in-Some.frame c.in-Err.opener c.is_parenthesis.result c.in_ok-taken-in-Err.taken c.in-Some.ensures c.in-Err.ensures.parts c.is_parenthesis.ensures.parenthesis c.in_ok-taken-in-Err.ensures.answer c.in_ok-taken-in-Err.ensures.put

pub returns-in_ok-taken-in-Err-clause-kept : goal.returns-in_ok-taken-in-Err-clause-kept
returns-in_ok-taken-in-Err-clause-kept c =
    put_back c.args.pending.now c.pop.new.self c.put_back_unless.new.pending c.in-Some.frame (pendings.Opens c.in-Err.opener) c.is_parenthesis.result c.in_ok-taken-in-Err.taken c.in-Some.ensures c.in-Err.ensures.parts c.in_ok-taken-in-Err.ensures.answer c.in_ok-taken-in-Err.ensures.put

pub returns-in_ok-push-in-Ok-clause-taken : goal.returns-in_ok-push-in-Ok-clause-taken
returns-in_ok-push-in-Ok-clause-taken c = enclosing-kept c.args.pending.now c.pop.new.self c.push.new.self c.in-Some.frame c.in-Ok.joint false c.in-Some.ensures c.in-Ok.ensures.parts refl

pub returns-in_ok-push-in-Ok-clause-kept : goal.returns-in_ok-push-in-Ok-clause-kept
returns-in_ok-push-in-Ok-clause-kept c =
    λ _. back_again c.args.pending.now c.pop.new.self c.push.new.self c.in-Some.frame (pendings.Joins c.in-Ok.joint) c.in-Some.ensures c.in-Ok.ensures.parts c.in_ok-push-in-Ok.ensures.ok
