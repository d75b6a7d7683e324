use Rattle.dj_expressions.proofs.readings.Reading.colon.Goals as goal

pub returns-in-Named : goal.returns-in-Named
returns-in-Named c = record { colon = rw c.in-Named.is c.label_or_answer.ensures.colon }
