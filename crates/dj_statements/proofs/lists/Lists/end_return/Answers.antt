use Rattle.std.proofs.Common.{sym}
use Rattle.dj_statements.proofs.MadeLemmas.{view_return}
use Rattle.dj_statements.proofs.lists.Lists.end_return.Goals as goal

pub returns : goal.returns
returns c = record { ended = rw (sym c.in_ok-value.ensures.value) (rw (view_return c.in_ok-value.value) at c.complete.ensures.completed) }
