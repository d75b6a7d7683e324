use Rattle.std.proofs.Common.{◌∙◌, sym}
use Rattle.std.proofs.lemmas.Bool.{false≢true}
use Rattle.dj_frames.specs.Frames.{view_frame}
use Rattle.dj_code.specs.MethodCode.{view_code}
use Rattle.dj_effects.specs.Doing.{view_working}
use Rattle.dj_verify.specs.Checking.{flow_of}
use Rattle.dj_verify.proofs.PlacedFrames.{into_broken, given_stands}
use Rattle.dj_verify.proofs.checking.place_frame.Goals as goal

pub returns-then-not-branch : goal.returns-then-not-branch
returns-then-not-branch g c =
    let R = g.G.Goes.relation c.args.goes.now in
    let K = g.G.Goes.known c.args.goes.now in
    let code = view_code c.args.subject.now.code.now in
    let into = c.in_ok-flows_into.ensures.into in
    record { placed = λ instruction rest. into_broken R K code c.args.pc instruction rest (view_frame c.in-Some.given.now) c.in-Some.ensures.first (flow_of c.args.flow.now) (λ goes. false≢true (sym c.if-not-branch.true ∙ into.1 goes)) }

pub returns : goal.returns
returns g c =
    let R = g.G.Goes.relation c.args.goes.now in
    let K = g.G.Goes.known c.args.goes.now in
    let code = view_code c.args.subject.now.code.now in
    let into = c.in_ok-flows_into.ensures.into in
    record {
      placed = λ instruction rest.
          let s = given_stands R K code c.args.pc instruction rest (view_frame c.in-Some.given.now) c.in-Some.ensures.first (flow_of c.args.flow.now) (view_working c.in_ok-from_frame.field-0) (into.0 c.if-not-branch.false) (c.in_ok-from_frame.ensures.same ∙ c.in_ok-all.ensures.padded) in
          (s.frame_is, s.into);
    }
