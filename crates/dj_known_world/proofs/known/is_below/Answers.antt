use Rattle.dj_known_world.proofs.Knowing.{same_below}
use Rattle.dj_known_world.proofs.known.is_below.Goals as goal

pub returns : goal.returns
returns c = record { below = same_below c.is_subclass.result c.args.headers.now c.args.lower.now c.args.upper.now c.is_subclass.ensures.subclass }
