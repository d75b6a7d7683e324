use Rattle.dj_constructors_given.proofs.Together.{openings_given}
use Rattle.dj_constructors_given.proofs.laws.openings_are_given.Goals as goal

pub returns : goal.returns
returns c = record { given = openings_given }
