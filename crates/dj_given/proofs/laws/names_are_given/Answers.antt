use Rattle.dj_given.proofs.Together.{names_given}
use Rattle.dj_given.proofs.laws.names_are_given.Goals as goal

pub returns : goal.returns
returns c = record { given = names_given }
