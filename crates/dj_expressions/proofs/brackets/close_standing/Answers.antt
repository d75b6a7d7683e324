use Rattle.dj_expressions.proofs.brackets.close_standing.Goals as goal

pub returns-in-Some : goal.returns-in-Some
returns-in-Some c = record { closed = rw c.in-Some.is c.close_around.ensures.closed }
