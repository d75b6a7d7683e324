use Rattle.dj_member_trees.proofs.Advancing.{member-advance}
use Rattle.dj_member_trees.proofs.laws.members_advance.Goals as goal

pub returns : goal.returns
returns c = record { advance = member-advance }
