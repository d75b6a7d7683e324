use Rattle.std.proofs.Common.{◌∙◌}
use Rattle.dj_print.proofs.ListTexts.{no_stm}
use Rattle.dj_print.proofs.print.statement.parts.is_empty.Goals as goal

pub returns : goal.returns
returns c = record { empty = c.is_empty.ensures ∙ no_stm c.args.list.now }
