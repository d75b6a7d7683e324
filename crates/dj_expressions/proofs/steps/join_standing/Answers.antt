use Rattle.dj_expressions.proofs.steps.join_standing.Goals as goal

pub returns-in-Some : goal.returns-in-Some
returns-in-Some c = record { joins = rw c.in-Some.is c.wait_more.ensures.waits }
