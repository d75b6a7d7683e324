use Rattle.dj_kinds.proofs.choice.AbovePicker.picks.Goals as goal

pub returns-in-Some : goal.returns-in-Some
returns-in-Some c = rw (← c.in-Some.ensures.listed) c.yields.ensures.yields
