use Rattle.std.proofs.Common.{false, refl, sym, ap, ◌∙◌}
use Rattle.dj_grammar.specs.Frames.{creating}
use Rattle.dj_expressions.specs.Views.{view_open}
use Rattle.dj_expressions.specs.declared.frames.Pending.TheVariants as pendings
use Rattle.dj_expressions.proofs.OpenLemmas.{back_again, creating-kept, creating-taken, put_back}
use Rattle.dj_expressions.proofs.frames.take_creation.Goals as goal

pub returns-in_default-clause-taken : goal.returns-in_default-clause-taken
returns-in_default-clause-taken c = ap (λ pending. creating (view_open pending)) c.in_default.ensures.0

pub returns-in_default-clause-kept : goal.returns-in_default-clause-kept
returns-in_default-clause-kept c = λ _. c.in_default.ensures.1 ∙ sym c.in_default.ensures.0

pub returns-in_ok-taken-in-Ok-clause-taken : goal.returns-in_ok-taken-in-Ok-clause-taken
returns-in_ok-taken-in-Ok-clause-taken c =
    creating-taken c.args.pending.now c.pop.new.self c.put_back_unless.new.pending c.in-Some.frame c.in-Ok.joint c.is_creation.result c.in_ok-taken-in-Ok.taken c.in-Some.ensures c.in-Ok.ensures.parts c.is_creation.ensures.creation c.in_ok-taken-in-Ok.ensures.answer c.in_ok-taken-in-Ok.ensures.put

pub returns-in_ok-taken-in-Ok-clause-kept : goal.returns-in_ok-taken-in-Ok-clause-kept
returns-in_ok-taken-in-Ok-clause-kept c =
    put_back c.args.pending.now c.pop.new.self c.put_back_unless.new.pending c.in-Some.frame (pendings.Joins c.in-Ok.joint) c.is_creation.result c.in_ok-taken-in-Ok.taken c.in-Some.ensures c.in-Ok.ensures.parts c.in_ok-taken-in-Ok.ensures.answer c.in_ok-taken-in-Ok.ensures.put

pub returns-in_ok-push-in-Err-clause-taken : goal.returns-in_ok-push-in-Err-clause-taken
returns-in_ok-push-in-Err-clause-taken c = creating-kept c.args.pending.now c.pop.new.self c.push.new.self c.in-Some.frame c.in-Err.opener false c.in-Some.ensures c.in-Err.ensures.parts refl

pub returns-in_ok-push-in-Err-clause-kept : goal.returns-in_ok-push-in-Err-clause-kept
returns-in_ok-push-in-Err-clause-kept c =
    λ _. back_again c.args.pending.now c.pop.new.self c.push.new.self c.in-Some.frame (pendings.Opens c.in-Err.opener) c.in-Some.ensures c.in-Err.ensures.parts c.in_ok-push-in-Err.ensures.ok
