use Rattle.std.proofs.Common.{Some, refl, ap}
use Rattle.dj_expressions.proofs.readings.typed_value.Goals as goal

pub returns-in-Ok-None : goal.returns-in-Ok-None
returns-in-Ok-None c =
    let taken = rw c.in-Ok-None.field-0-is at c.in-Ok-None.ensures.taken in
    record { value = rw taken refl }

pub returns-in_ok-stands-in-Ok-Some : goal.returns-in_ok-stands-in-Ok-Some
returns-in_ok-stands-in-Ok-Some c =
    let taken = rw c.in-Ok-Some.field-0-is at c.in-Ok-Some.ensures.taken in
    record { value = rw taken (ap Some c.in_ok-stands-in-Ok-Some.ensures.tested) }
