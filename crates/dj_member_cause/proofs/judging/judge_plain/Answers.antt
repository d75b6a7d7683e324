use Rattle.std.proofs.Common.{sym, ◌∙◌}
use Rattle.std.proofs.lemmas.Bool.{false≢true}
use Rattle.dj_frames.specs.Frames.{view_frame}
use Rattle.dj_instructions.specs.Instructions.{view_method_ref}
use Rattle.dj_member_cause.proofs.JudgingLemmas.{judged_own, judged_above, judged_lacks}
use Rattle.dj_member_cause.proofs.judging.judge_plain.Goals as goal

pub returns-then-own : goal.returns-then-own
returns-then-own c = record { judged = judged_own c.args.classes.now (view_frame c.args.frame.now) (view_method_ref c.args.method.now) c.requires.plain (c.in_ok-own.ensures.own.0 c.if-own.true) }

pub returns-then-above : goal.returns-then-above
returns-then-above c = record {
  judged = judged_above c.args.classes.now (view_frame c.args.frame.now) (view_method_ref c.args.method.now) c.requires.plain (λ is. false≢true (sym c.if-own.false ∙ c.in_ok-own.ensures.own.1 is)) (c.in_ok-above.ensures.calls.0 c.if-above.true);
}

pub returns-else-above : goal.returns-else-above
returns-else-above c = record {
  judged = judged_lacks c.args.classes.now (view_frame c.args.frame.now) (view_method_ref c.args.method.now) c.requires.plain (λ is. false≢true (sym c.if-own.false ∙ c.in_ok-own.ensures.own.1 is)) (λ is. false≢true (sym c.if-above.false ∙ c.in_ok-above.ensures.calls.1 is));
}
