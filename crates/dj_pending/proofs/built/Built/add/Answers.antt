use Rattle.dj_pending.proofs.Lists.{with_statement}
use Rattle.dj_pending.proofs.built.Built.add.Goals as goal

pub returns : goal.returns
returns c = record { added = with_statement _ _ _ _ _ c.in_ok-push.ensures.ok }
