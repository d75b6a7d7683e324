use Rattle.std.proofs.Common.{subst}
use Rattle.dj_instructions.specs.Instructions.{view_instructions}
use Rattle.dj_frames.specs.Frames.{view_frame, view_tag}
use Rattle.dj_code.specs.MethodCode.{view_code}
use Rattle.dj_code.specs.Targets.{IsStart}
use Rattle.dj_verify.proofs.LandingFrames.{taken}
use Rattle.dj_verify.proofs.landing.target_of.Goals as goal

pub returns-then-entries_go : goal.returns-then-entries_go
returns-then-entries_go g c =
    let code = view_code c.args.subject.now.code.now in
    let start : IsStart code.instructions c.args.pc = subst (λ list. IsStart (view_instructions list) c.args.pc) c.as_slice.ensures (c.is_start.ensures.start.0 c.if-not-is_start.false) in
    let entries = rw c.in_ok-stack.ensures.stack at (c.entries_go.ensures.go.0 c.if-entries_go.true) in
    record { target = taken (g.G.Goes.relation c.args.goes.now) code c.args.pc (view_tag c.args.caught) (view_frame c.in-Some.target.now) c.in-Some.ensures.first start entries }
