use Rattle.std.proofs.Common.{sym}
use Rattle.dj_expressions.proofs.readings.Reading.join.Goals as goal

pub returns : goal.returns
returns c = record { joins = rw (sym c.in_ok-stands.ensures.standing) c.in_ok-reading.ensures.joins }
