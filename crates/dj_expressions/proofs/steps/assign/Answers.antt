use Rattle.dj_expressions.proofs.steps.assign.Goals as goal

pub returns-in-Some : goal.returns-in-Some
returns-in-Some c = record { assigns = rw c.in-Some.is c.assign_value.ensures.assigns }
