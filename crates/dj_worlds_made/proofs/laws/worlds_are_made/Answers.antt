use Rattle.dj_worlds_made.proofs.Making.{worlds_made}
use Rattle.dj_worlds_made.proofs.laws.worlds_are_made.Goals as goal

pub returns : goal.returns
returns c = record { made = worlds_made }
