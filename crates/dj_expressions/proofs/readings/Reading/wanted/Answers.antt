use Rattle.dj_expressions.proofs.readings.Reading.wanted.Goals as goal

pub returns-in-Negation : goal.returns-in-Negation
returns-in-Negation c = record { wanted = rw c.in-Negation.is c.behind_minus.ensures.waits }
