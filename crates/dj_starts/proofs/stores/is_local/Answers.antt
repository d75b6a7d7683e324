use Rattle.dj_starts.proofs.Tags.{no_tag}
use Rattle.dj_starts.proofs.stores.is_local.Goals as goal

pub returns-in-None : goal.returns-in-None
returns-in-None c = record { same = rw (no_tag c.args.frame.now.locals c.args.local c.in-None.ensures.tag) c.same_tag-in-None.ensures.same }
