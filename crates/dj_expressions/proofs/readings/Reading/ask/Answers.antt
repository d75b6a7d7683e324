use Rattle.std.proofs.Common.{sym}
use Rattle.dj_expressions.proofs.readings.Reading.ask.Goals as goal

pub returns : goal.returns
returns c = record { asks = rw (sym c.in_ok-stands.ensures.standing) c.in_ok-reading.ensures.asks }
