use Rattle.dj_verify.proofs.reaching.goes_to_cases.Goals as goal

pub returns-clause-reaches : goal.returns-clause-reaches
returns-clause-reaches g c = rw c.in_ok-frame.ensures.frame at c.reaches_either.ensures.reaches
