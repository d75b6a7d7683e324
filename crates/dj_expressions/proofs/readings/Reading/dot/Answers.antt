use Rattle.dj_expressions.proofs.readings.Reading.dot.Goals as goal

pub returns-in-Wanted : goal.returns-in-Wanted
returns-in-Wanted c = record { dot = rw c.in-Wanted.is c.select_wanted.ensures.selects }

pub returns-in-Called : goal.returns-in-Called
returns-in-Called c = record { dot = rw c.in-Called.is c.select_call.ensures.selects }
