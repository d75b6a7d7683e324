use Rattle.std.proofs.Common.{Some, ap}
use Rattle.dj_expressions.proofs.readings.collapsed.Goals as goal

pub returns-in_ok-end-in-Some : goal.returns-in_ok-end-in-Some
returns-in_ok-end-in-Some c = record { collapsed = rw c.in-Some.is (ap Some c.in_ok-end-in-Some.ensures.collapsed) }
