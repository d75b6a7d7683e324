use Rattle.dj_expressions.proofs.steps.label_or_answer.Goals as goal

pub returns-in-Ok-Some : goal.returns-in-Ok-Some
returns-in-Ok-Some c =
    let taken = rw c.in-Ok-Some.field-0-is at c.in-Ok-Some.ensures.taken in
    record { colon = rw taken c.label.ensures.labelled }

pub returns-in-Ok-None : goal.returns-in-Ok-None
returns-in-Ok-None c =
    let taken = rw c.in-Ok-None.field-0-is at c.in-Ok-None.ensures.taken in
    record { colon = rw taken (rw (c.in-Ok-None.ensures.kept c.in-Ok-None.field-0-is) at c.answer_standing.ensures.answers) }
