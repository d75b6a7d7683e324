use Rattle.dj_given.proofs.Together.{members_given}
use Rattle.dj_given.proofs.laws.members_are_given.Goals as goal

pub returns : goal.returns
returns c = record { given = members_given }
