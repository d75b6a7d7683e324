use Rattle.dj_constructors_given.proofs.Together.{constructors_given}
use Rattle.dj_constructors_given.proofs.laws.constructors_are_given.Goals as goal

pub returns : goal.returns
returns c = record { given = constructors_given }
