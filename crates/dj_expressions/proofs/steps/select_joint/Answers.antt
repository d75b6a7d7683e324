use Rattle.dj_expressions.proofs.steps.select_joint.Goals as goal

pub returns-in-Enclosed : goal.returns-in-Enclosed
returns-in-Enclosed c = record { selects = rw c.in-Enclosed.is c.select_name.ensures.selects }
