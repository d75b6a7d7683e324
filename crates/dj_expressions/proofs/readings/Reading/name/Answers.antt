use Rattle.std.proofs.Common.{sym}
use Rattle.dj_expressions.proofs.readings.Reading.name.Goals as goal

pub returns-in-Wanted : goal.returns-in-Wanted
returns-in-Wanted c = record { named = rw c.in-Wanted.is c.begin_name.ensures.begun }

pub returns-in-Negation : goal.returns-in-Negation
returns-in-Negation c = record { named = rw c.in-Negation.is c.begin_name_behind_minus.ensures.begun }

pub returns-in-Named : goal.returns-in-Named
returns-in-Named c = record { named = rw (c.in-Named.is, sym c.variable_of.ensures.variable) c.declare.ensures.declared }

pub returns-in-Behind : goal.returns-in-Behind
returns-in-Behind c = record { named = rw c.in-Behind.is c.extend_name.ensures.extended }

pub returns-in-Selecting : goal.returns-in-Selecting
returns-in-Selecting c = record { named = rw c.in-Selecting.is c.field_of.ensures.field }
