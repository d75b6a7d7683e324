use Rattle.std.proofs.Common.{◌∙◌}
use Rattle.dj_well_formed.proofs.EmptyLists.{no_stm}
use Rattle.dj_well_formed.proofs.statements.is_empty.Goals as goal

pub returns : goal.returns
returns c = record { empty = c.is_empty.ensures ∙ no_stm c.args.list.now }
