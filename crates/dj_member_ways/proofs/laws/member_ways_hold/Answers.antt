use Rattle.dj_member_ways.proofs.Holding.{member-ways-hold}
use Rattle.dj_member_ways.proofs.laws.member_ways_hold.Goals as goal

pub returns : goal.returns
returns c = record { hold = member-ways-hold }
