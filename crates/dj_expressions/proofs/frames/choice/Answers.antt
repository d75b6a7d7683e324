use Rattle.std.proofs.Common.{sym}
use Rattle.dj_expressions.proofs.frames.choice.Goals as goal

pub returns-in-Ok : goal.returns-in-Ok
returns-in-Ok c = record { choice = rw (sym c.in-Ok.ensures) c.answered.ensures.choice }
