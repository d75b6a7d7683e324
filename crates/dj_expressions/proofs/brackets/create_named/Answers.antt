use Rattle.std.proofs.Common.{sym}
use Rattle.dj_expressions.proofs.brackets.create_named.Goals as goal

pub returns-in-Ok : goal.returns-in-Ok
returns-in-Ok c = record { opened = rw (sym c.in-Ok.ensures.whole) c.open_arguments.ensures.opened }
