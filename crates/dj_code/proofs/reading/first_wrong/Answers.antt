use Rattle.dj_code.specs.ReadCode.{jump, handler, range}
use Rattle.dj_code.proofs.reading.first_wrong.Goals as goal

pub returns-in-Some : goal.returns-in-Some
returns-in-Some c = record { first = jump c.in-Some.ensures.least }

pub returns-in-Some-wrong_target : goal.returns-in-Some-wrong_target
returns-in-Some-wrong_target c = record { first = handler c.in_default.ensures.least (rw c.as_slice-handlers.ensures at c.in-Some-wrong_target.ensures.least) }

pub returns-in-Some-wrong_range : goal.returns-in-Some-wrong_range
returns-in-Some-wrong_range c =
    record { first = range c.in_default.ensures.least (rw c.as_slice-handlers.ensures at c.in_default-wrong_target.ensures.least) (rw (c.as_slice-handlers.ensures, c.len.ensures) at c.in-Some-wrong_range.ensures.least) }
