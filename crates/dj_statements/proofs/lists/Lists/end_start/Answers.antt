use Rattle.dj_statements.proofs.lists.Lists.end_start.Goals as goal

pub returns-in-Ok-Some : goal.returns-in-Ok-Some
returns-in-Ok-Some c =
    let start = rw c.in-Ok-Some.field-0-is at c.in-Ok-Some.ensures.taken in
    record { ended = rw start c.complete.ensures.completed }
