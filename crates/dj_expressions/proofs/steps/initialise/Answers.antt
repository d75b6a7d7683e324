use Rattle.std.proofs.Common.{refl}
use Rattle.dj_expressions.proofs.steps.initialise.Goals as goal

pub returns-in-Ok-Some : goal.returns-in-Ok-Some
returns-in-Ok-Some c =
    let taken = rw c.in-Ok-Some.field-0-is at c.in-Ok-Some.ensures.taken in
    record { initialises = rw taken c.open_more.ensures.opened }

pub returns-in-Ok-None : goal.returns-in-Ok-None
returns-in-Ok-None c =
    let taken = rw c.in-Ok-None.field-0-is at c.in-Ok-None.ensures.taken in
    record { initialises = rw taken refl }
