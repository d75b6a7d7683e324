use Rattle.std.proofs.Common.{refl, sym, ◌∙◌}
use Rattle.dj_frames.specs.Frames.{view_frame}
use Rattle.dj_instructions.specs.Instructions.{view_method_ref, InvokeSpecial}
use Rattle.dj_member_cause.proofs.JudgingLemmas.{judged_so, judged_constructor}
use Rattle.dj_member_cause.proofs.judging.judge_special.Goals as goal

pub returns-in_ok-has : goal.returns-in_ok-has
returns-in_ok-has c =
    let classes = c.args.classes.now in
    let frame = view_frame c.args.frame.now in
    let method = view_method_ref c.args.method.now in
    record {
      judged = judged_so classes frame (InvokeSpecial method) (InvokeSpecial method) c.judged.result c.in_ok-has.has refl c.judged.ensures.judged
          (judged_constructor classes frame method (sym c.is_constructor.ensures.constructor ∙ c.if-is_constructor.true) c.in_ok-has.has c.in_ok-has.ensures.constructs);
    }
