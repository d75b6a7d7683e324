use Rattle.dj_expressions.proofs.brackets.close_typed.Goals as goal

pub returns-in-Ok-true : goal.returns-in-Ok-true
returns-in-Ok-true c =
    let taken = rw c.in-Ok-true.field-0-test at c.in-Ok-true.ensures.taken in
    record { closed = rw taken c.wait_more.ensures.waits }

pub returns-in-Ok-false : goal.returns-in-Ok-false
returns-in-Ok-false c =
    let taken = rw c.in-Ok-false.field-0-test at c.in-Ok-false.ensures.taken in
    record { closed = rw taken (rw (c.in-Ok-false.ensures.kept c.in-Ok-false.field-0-test) at c.close_value.ensures.closed) }
