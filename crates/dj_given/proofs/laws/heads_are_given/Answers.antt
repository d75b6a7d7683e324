use Rattle.dj_given.proofs.Together.{heads_given}
use Rattle.dj_given.proofs.laws.heads_are_given.Goals as goal

pub returns : goal.returns
returns c = record { given = heads_given }
