use Rattle.dj_well_formed.proofs.GroupTests.{last_is}
use Rattle.dj_well_formed.proofs.statements.is_last.Goals as goal

pub returns : goal.returns
returns c = record { last = last_is c.args.list.now c.args.index c.requires.inside }
