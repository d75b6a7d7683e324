use Rattle.dj_constructors_given.proofs.Together.{others_do}
use Rattle.dj_constructors_given.proofs.laws.others_do_theirs.Goals as goal

pub returns : goal.returns
returns c = record { given = others_do }
