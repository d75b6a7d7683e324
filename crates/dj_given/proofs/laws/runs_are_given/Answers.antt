use Rattle.dj_given.proofs.Together.{runs_given}
use Rattle.dj_given.proofs.laws.runs_are_given.Goals as goal

pub returns : goal.returns
returns c = record { given = runs_given }
