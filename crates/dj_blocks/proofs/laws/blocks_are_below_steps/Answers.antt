use Rattle.dj_blocks.proofs.Blocks.{blocks-below}
use Rattle.dj_blocks.proofs.laws.blocks_are_below_steps.Goals as goal

pub returns : goal.returns
returns g c = record { below = blocks-below }
