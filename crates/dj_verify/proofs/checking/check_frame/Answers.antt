use Rattle.std.proofs.Common.{refl, ◌∙◌}
use Rattle.dj_instructions.specs.Instructions.{view_instruction}
use Rattle.dj_code.specs.MethodCode.{view_code}
use Rattle.dj_effects.specs.Doing.{view_working}
use Rattle.dj_verify.proofs.PlaceSteps.{applied, frame_checked}
use Rattle.dj_verify.proofs.checking.check_frame.Goals as goal

pub returns : goal.returns
returns g c = record {
  checked = λ flow rest told.
      let R = g.G.Goes.relation c.args.goes.now in
      let K = g.G.Goes.known c.args.goes.now in
      let code = view_code c.args.subject.now.code.now in
      let instruction = view_instruction c.args.site.now.instruction.now in
      let frame = view_working c.args.frame.now in
      let after = view_working c.apply.new.frame in
      let both = applied R K code c.args.site.now.pc instruction frame frame after after c.in_ok-apply.field-0 c.in_ok-apply.ensures.did refl c.if-not-branch.false refl in
      frame_checked R K code (record { flow = flow; pc = c.args.site.now.pc; instruction = instruction; rest = rest }) frame (view_working c.settle.new.self) c.in_ok-broken.broken both.0 (c.in_ok-settle.ensures.same ∙ c.in_ok-broken.ensures.same ∙ both.1) (c.in_ok-broken.ensures.broken flow rest frame told c.asked_of-before.ensures.asked both.1);
}
