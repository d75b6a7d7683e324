use Rattle.std.proofs.Common.{◌∙◌}
use Rattle.dj_well_formed.proofs.EmptyLists.{no_group}
use Rattle.dj_well_formed.proofs.statements.has_no_group.Goals as goal

pub returns : goal.returns
returns c = record { none = c.is_empty.ensures ∙ no_group c.args.list.now }
