use Rattle.std.proofs.Common.{refl}
use Rattle.dj_starts.proofs.Tags.{no_tag}
use Rattle.dj_starts.proofs.stores.is_wide_local.Goals as goal

pub returns-in-None : goal.returns-in-None
returns-in-None c = record { wide = rw (no_tag c.args.frame.now.locals c.args.local c.in-None.ensures.tag) refl }
