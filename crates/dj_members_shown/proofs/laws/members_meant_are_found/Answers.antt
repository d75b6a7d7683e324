use Rattle.dj_members_shown.proofs.Found.{meant-is-found}
use Rattle.dj_members_shown.proofs.laws.members_meant_are_found.Goals as goal

pub returns : goal.returns
returns c = record { found = meant-is-found }
