use Rattle.std.proofs.Common.{◌∙◌}
use Rattle.dj_well_formed.proofs.EmptyLists.{no_catch}
use Rattle.dj_well_formed.proofs.statements.has_no_catch.Goals as goal

pub returns : goal.returns
returns c = record { none = c.is_empty.ensures ∙ no_catch c.args.list.now }
