use Rattle.std.proofs.Common.{sym}
use Rattle.dj_expressions.proofs.readings.tested_by_name.Goals as goal

pub returns-in-Ok : goal.returns-in-Ok
returns-in-Ok c = record { tested = rw (sym c.in-Ok.ensures.kind) c.tested.ensures.tested }
