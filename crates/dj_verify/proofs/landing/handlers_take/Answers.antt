use Rattle.dj_code.specs.MethodCode.{view_code}
use Rattle.dj_effects.specs.Doing.{view_working}
use Rattle.dj_verify.proofs.LandingFrames.{landings_take}
use Rattle.dj_verify.proofs.landing.handlers_take.Goals as goal

pub returns : goal.returns
returns g c =
    let both = landings_take (g.G.Goes.relation c.args.goes.now) (view_code c.args.subject.now.code.now) c.args.pc (view_working c.args.frame.now) c.args.subject.now.landings.items c.requires.landings in
    let land = rw c.as_slice.ensures.value at c.land.ensures.land in
    record { take = (λ yes. both.0 (land.0 yes), λ all. land.1 (both.1 all)) }
