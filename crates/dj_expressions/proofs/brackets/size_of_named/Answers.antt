use Rattle.std.proofs.Common.{sym}
use Rattle.dj_expressions.proofs.brackets.size_of_named.Goals as goal

pub returns-in-Ok : goal.returns-in-Ok
returns-in-Ok c = record { opened = rw (sym c.in-Ok.ensures.kind) (rw c.new.ensures at c.open_more.ensures.opened) }
