use Rattle.dj_constructors_given.proofs.Together.{others_given}
use Rattle.dj_constructors_given.proofs.laws.others_are_given_but.Goals as goal

pub returns : goal.returns
returns c = record { given = others_given }
