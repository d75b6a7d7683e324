use Rattle.dj_one_block.proofs.Flat.{lone-flat}
use Rattle.dj_one_block.proofs.laws.lone_trees_are_flat.Goals as goal

pub returns : goal.returns
returns c = record { flat = lone-flat }
