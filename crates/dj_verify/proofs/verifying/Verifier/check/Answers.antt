use Rattle.std.proofs.lemmas.Result.{IfOk-weaker}
use Rattle.dj_tags.specs.Laxly.{Laxly}
use Rattle.dj_code.specs.MethodCode.{view_code}
use Rattle.dj_verify.proofs.TurnedFrames.{has_frames}
use Rattle.dj_verify.proofs.verifying.Verifier.check.Goals as goal

pub returns-clause-frames : goal.returns-clause-frames
returns-clause-frames c =
    let headers = c.args.headers.now in
    let code = view_code c.args.code.now in
    IfOk-weaker c.check_laxly.result _ _ (λ done made. has_frames (Laxly headers) headers code made.frames made.table) c.check_laxly.ensures.table
