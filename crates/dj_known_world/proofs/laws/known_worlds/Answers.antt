use Rattle.dj_known_world.proofs.Knowing.{known_worlds}
use Rattle.dj_known_world.proofs.laws.known_worlds.Goals as goal

pub returns : goal.returns
returns c = record { known = known_worlds }
