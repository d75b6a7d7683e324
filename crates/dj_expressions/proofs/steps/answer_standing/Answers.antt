use Rattle.std.proofs.Common.{sym}
use Rattle.dj_expressions.proofs.steps.answer_standing.Goals as goal

pub returns : goal.returns
returns c = record { answers = rw (sym c.in_ok-stands.ensures.standing) c.in_ok-answered.ensures.answers }
