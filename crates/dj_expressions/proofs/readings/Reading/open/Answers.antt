use Rattle.std.proofs.Common.{sym}
use Rattle.dj_expressions.proofs.readings.Reading.open.Goals as goal

pub returns-in-Wanted : goal.returns-in-Wanted
returns-in-Wanted c = record { opened = rw c.in-Wanted.is c.open_more.ensures.opened }

pub returns-in-Negation : goal.returns-in-Negation
returns-in-Negation c = record { opened = rw c.in-Negation.is c.open_behind_minus.ensures.opened }

pub returns-in-Named : goal.returns-in-Named
returns-in-Named c = record { opened = rw c.in-Named.is c.open_named.ensures.opened }

pub returns-in-Stands : goal.returns-in-Stands
returns-in-Stands c = record { opened = rw (c.in-Stands.is, sym c.called_by.ensures.called) c.open_arguments.ensures.opened }

pub returns-in-Helping : goal.returns-in-Helping
returns-in-Helping c = record { opened = rw c.in-Helping.is c.open_arguments-in-Helping.ensures.opened }
