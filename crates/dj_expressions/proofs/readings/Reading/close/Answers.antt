use Rattle.dj_expressions.proofs.readings.Reading.close.Goals as goal

pub returns-in-Wanted : goal.returns-in-Wanted
returns-in-Wanted c = record { closed = rw c.in-Wanted.is c.close_wanted.ensures.closed }

pub returns-in-Named : goal.returns-in-Named
returns-in-Named c = record { closed = rw c.in-Named.is c.close_named.ensures.closed }

pub returns-in-Typed : goal.returns-in-Typed
returns-in-Typed c = record { closed = rw c.in-Typed.is c.close_typed.ensures.closed }
