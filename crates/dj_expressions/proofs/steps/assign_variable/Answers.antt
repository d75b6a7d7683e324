use Rattle.dj_expressions.proofs.steps.assign_variable.Goals as goal

pub returns-in-Some : goal.returns-in-Some
returns-in-Some c = record { assigns = rw c.in-Some.is c.wait_more.ensures.waits }
