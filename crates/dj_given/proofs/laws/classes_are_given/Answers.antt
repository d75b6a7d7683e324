use Rattle.dj_given.proofs.Together.{classes_given}
use Rattle.dj_given.proofs.laws.classes_are_given.Goals as goal

pub returns : goal.returns
returns c = record { given = classes_given }
