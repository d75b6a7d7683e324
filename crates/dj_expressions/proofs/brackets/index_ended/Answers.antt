use Rattle.dj_expressions.proofs.brackets.index_ended.Goals as goal

pub returns-in-Some : goal.returns-in-Some
returns-in-Some c = record { closed = rw c.in-Some.is c.index_value.ensures.closed }
