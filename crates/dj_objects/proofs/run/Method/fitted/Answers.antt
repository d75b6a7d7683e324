use Rattle.dj_objects.proofs.run.Method.fitted.Goals as goal

pub returns : goal.returns
returns c = record { fitted = rw (← c.converted.ensures.converted) c.compute.ensures.computed }
