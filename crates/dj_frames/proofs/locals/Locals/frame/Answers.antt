use Rattle.std.proofs.Common.{refl}
use Rattle.dj_frames.proofs.Spreading.{frame_is}
use Rattle.dj_frames.proofs.locals.Locals.frame.Goals as goal

pub returns : goal.returns
returns c =
    let i = c.self.inside in
    record { frame = rw (← c.self.view_is) (frame_is i.values i.slots c.args.stack i.unborn c.self.invariant.spread c.self.invariant.first _ (rw (c.in_ok-locals.ensures.equal, c.is_some.ensures) refl)) }
