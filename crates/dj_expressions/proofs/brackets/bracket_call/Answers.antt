use Rattle.std.proofs.Common.{sym}
use Rattle.dj_expressions.proofs.brackets.bracket_call.Goals as goal

pub returns-in-Ok : goal.returns-in-Ok
returns-in-Ok c = record { opened = rw (sym c.in-Ok.ensures.called) c.open_more.ensures.opened }
