use Rattle.dj_objects.proofs.run.Method.compute.Goals as goal

pub returns : goal.returns
returns c = record { computed = rw (← c.reply_of.ensures.same) c.settle_value.ensures.settled }
