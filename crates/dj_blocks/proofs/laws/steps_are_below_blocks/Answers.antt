use Rattle.dj_blocks.proofs.Blocks.{steps-below}
use Rattle.dj_blocks.proofs.laws.steps_are_below_blocks.Goals as goal

pub returns : goal.returns
returns g c = record { below = steps-below }
