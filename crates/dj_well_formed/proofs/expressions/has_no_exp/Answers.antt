use Rattle.std.proofs.Common.{◌∙◌}
use Rattle.dj_well_formed.proofs.EmptyLists.{no_exp}
use Rattle.dj_well_formed.proofs.expressions.has_no_exp.Goals as goal

pub returns : goal.returns
returns c = record { none = c.is_empty.ensures ∙ no_exp c.args.list.now }
