use Rattle.std.proofs.Common.{sym}
use Rattle.dj_expressions.proofs.readings.Reading.wait.Goals as goal

pub returns-in-Ok : goal.returns-in-Ok
returns-in-Ok c = record { waits = rw (sym c.in-Ok.ensures.wanted) c.wait_in.ensures.waits }
