use Rattle.std.proofs.Common.{refl, subst}
use Rattle.dj_instructions.specs.Instructions.{view_instructions}
use Rattle.dj_frames.specs.Frames.{view_frame}
use Rattle.dj_code.specs.MethodCode.{view_code}
use Rattle.dj_code.specs.Targets.{IsStart}
use Rattle.dj_verify.specs.Frames.{working_of}
use Rattle.dj_verify.proofs.ReachedFrames.{reaches_given}
use Rattle.dj_verify.proofs.reaching.reaches.Goals as goal

pub returns-then-is_start : goal.returns-then-is_start
returns-then-is_start g c =
    let code = view_code c.args.subject.now.code.now in
    let start : IsStart code.instructions c.args.pc = subst (λ list. IsStart (view_instructions list) c.args.pc) c.as_slice.ensures (c.if-is_start.ensures.start.0 refl) in
    record { reaches = reaches_given (g.G.Goes.relation c.args.goes.now) code (working_of c.args.frame.now) c.args.pc (view_frame c.in-Some.target.now) c.in-Some.ensures.first c.frame_goes.result start c.frame_goes.ensures.goes }
