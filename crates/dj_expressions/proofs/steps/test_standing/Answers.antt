use Rattle.dj_expressions.proofs.steps.test_standing.Goals as goal

pub returns-in-Some : goal.returns-in-Some
returns-in-Some c = record { tests = rw c.in-Some.is c.wait_more.ensures.waits }
