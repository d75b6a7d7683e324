use Rattle.dj_expressions.proofs.steps.wait_in.Goals as goal

pub returns-in-Some : goal.returns-in-Some
returns-in-Some c = record { waits = rw c.in-Some.is c.wait_more.ensures.waits }
