use Rattle.dj_expressions.proofs.steps.answer_test.Goals as goal

pub returns-in-Some : goal.returns-in-Some
returns-in-Some c = record { answers = rw c.in-Some.is c.wait_more.ensures.waits }
