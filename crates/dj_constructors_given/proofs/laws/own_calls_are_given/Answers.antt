use Rattle.dj_constructors_given.proofs.Together.{own_calls_given}
use Rattle.dj_constructors_given.proofs.laws.own_calls_are_given.Goals as goal

pub returns : goal.returns
returns c = record { given = own_calls_given }
