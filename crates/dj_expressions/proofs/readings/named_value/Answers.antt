use Rattle.dj_expressions.proofs.readings.named_value.Goals as goal

pub returns-in-Ok-None : goal.returns-in-Ok-None
returns-in-Ok-None c =
    let taken = rw c.in-Ok-None.field-0-is at c.in-Ok-None.ensures.taken in
    record { value = rw taken (rw (c.in-Ok-None.ensures.kept c.in-Ok-None.field-0-is) at c.plain_value.ensures.value) }

pub returns-in-Ok-Some : goal.returns-in-Ok-Some
returns-in-Ok-Some c =
    let taken = rw c.in-Ok-Some.field-0-is at c.in-Ok-Some.ensures.taken in
    record { value = rw taken c.tested_by_name.ensures.tested }
