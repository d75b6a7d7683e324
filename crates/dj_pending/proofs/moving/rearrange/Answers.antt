use Rattle.std.proofs.Common.{refl}
use Rattle.dj_pending.proofs.moving.rearrange.Goals as goal

pub returns : goal.returns
returns c = record { moved = rw (c.in_ok-put.ensures.put, c.in_ok-copies.ensures.copied, c.shrink.ensures.dropped) refl }
