use Rattle.std.proofs.Common.{sym}
use Rattle.dj_expressions.proofs.readings.Reading.next.Goals as goal

pub returns : goal.returns
returns c = record { next = rw (sym c.in_ok-end.ensures.ended) c.in_ok-reading.ensures.next }
