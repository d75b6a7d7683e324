use Rattle.std.proofs.Common.{sym}
use Rattle.dj_expressions.proofs.readings.Reading.close_bracket.Goals as goal

pub returns-in-Ok : goal.returns-in-Ok
returns-in-Ok c = record { closed = rw c.in-Ok.ensures.parts c.pair.ensures.pair }

pub returns-in_ok-end-in-Err : goal.returns-in_ok-end-in-Err
returns-in_ok-end-in-Err c = record {
  closed = rw (c.in-Err.ensures.parts.1, sym c.in-Err.ensures.parts.0, sym c.in_ok-end-in-Err.ensures.ended) c.index_ended.ensures.closed;
}
