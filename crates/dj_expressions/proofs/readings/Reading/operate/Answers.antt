use Rattle.dj_expressions.proofs.readings.Reading.operate.Goals as goal

pub returns-in-Wanted : goal.returns-in-Wanted
returns-in-Wanted c = record { operates = rw c.in-Wanted.is c.minus_or.ensures.minus }
