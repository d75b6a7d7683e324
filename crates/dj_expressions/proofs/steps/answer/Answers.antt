use Rattle.dj_expressions.proofs.steps.answer.Goals as goal

pub returns-in-Some : goal.returns-in-Some
returns-in-Some c = record { answers = rw c.in-Some.is c.answer_value.ensures.answers }
