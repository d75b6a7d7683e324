use Rattle.std.proofs.Common.{Some, sym, ap, ◌∙◌}
use Rattle.dj_frames.specs.declared.tag.Tag.{Tag}
use Rattle.dj_frames.specs.Frames.{view_tag, view_frame}
use Rattle.dj_instructions.specs.Instructions.{view_method_ref}
use Rattle.dj_member_cause.proofs.JudgingLemmas.{constructs_new}
use Rattle.dj_member_cause.proofs.judging.constructs.Goals as goal

pub returns-in_ok-calls-in-Some-Unborn : goal.returns-in_ok-calls-in-Some-Unborn
returns-in_ok-calls-in-Some-Unborn c = record {
  constructs = constructs_new c.args.classes.now (view_frame c.args.frame.now) (view_method_ref c.args.method.now) (sym c.in-Some-Unborn.ensures.tag ∙ ap (λ (tag : Tag). Some (view_tag tag)) c.in-Some-Unborn.field-0-is) c.in_ok-calls-in-Some-Unborn.calls c.in_ok-calls-in-Some-Unborn.ensures.calls;
}
