use Rattle.std.proofs.Common.{sym}
use Rattle.dj_statements.proofs.lists.Lists.open_block.Goals as goal

pub returns : goal.returns
returns c = record { opened = rw (sym c.in_ok-labels.ensures.labels) c.open_kind.ensures.opened }
