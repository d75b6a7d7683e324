use Rattle.dj_given.proofs.Together.{others_given}
use Rattle.dj_given.proofs.laws.others_are_given.Goals as goal

pub returns : goal.returns
returns c = record { given = others_given }
