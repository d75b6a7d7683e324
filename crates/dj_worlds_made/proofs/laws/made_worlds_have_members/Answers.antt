use Rattle.dj_worlds_made.proofs.Making.{have_members}
use Rattle.dj_worlds_made.proofs.laws.made_worlds_have_members.Goals as goal

pub returns : goal.returns
returns c = record { members = have_members }
