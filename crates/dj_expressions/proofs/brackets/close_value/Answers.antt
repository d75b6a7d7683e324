use Rattle.std.proofs.Common.{sym}
use Rattle.dj_expressions.proofs.brackets.close_value.Goals as goal

pub returns : goal.returns
returns c = record { closed = rw (sym c.in_ok-stands.ensures.standing) c.close_standing.ensures.closed }
