use Rattle.std.proofs.Common.{sym}
use Rattle.dj_expressions.proofs.steps.assign_value.Goals as goal

pub returns-in-Ok-Some : goal.returns-in-Ok-Some
returns-in-Ok-Some c =
    let taken = rw c.in-Ok-Some.field-0-is at c.in-Ok-Some.ensures.taken in
    record { assigns = rw taken c.open_more.ensures.opened }

pub returns-in-Ok-None : goal.returns-in-Ok-None
returns-in-Ok-None c =
    let taken = rw c.in-Ok-None.field-0-is at c.in-Ok-None.ensures.taken in
    record { assigns = rw (taken, sym c.variable_of_value.ensures.variable) (rw (c.in-Ok-None.ensures.kept c.in-Ok-None.field-0-is) at c.assign_variable.ensures.assigns) }
