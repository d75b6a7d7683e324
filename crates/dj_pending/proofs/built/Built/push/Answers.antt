use Rattle.dj_pending.proofs.Lists.{with_entry}
use Rattle.dj_pending.proofs.built.Built.push.Goals as goal

pub returns : goal.returns
returns c = record { pushed = with_entry _ _ _ _ _ c.in_ok-push.ensures.pushed }
