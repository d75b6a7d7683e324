use Rattle.dj_standing.proofs.Standing.{blocks-may-stand, starts-are-born, rests-are-own}
use Rattle.dj_standing.proofs.laws.blocks_may_stand.Goals as goal

pub returns : goal.returns
returns c = record { stand = blocks-may-stand; born = starts-are-born; own = rests-are-own }
