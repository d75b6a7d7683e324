use Rattle.dj_edges.proofs.Split.{blocks_have_catchers}
use Rattle.dj_edges.proofs.laws.blocks_have_catchers.Goals as goal

pub returns : goal.returns
returns c = record { catches = blocks_have_catchers }
