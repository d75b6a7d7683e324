use Rattle.dj_statements.proofs.lists.Lists.complete_or.Goals as goal

pub returns-in-Some : goal.returns-in-Some
returns-in-Some c = record { completed = rw c.in-Some.is c.complete.ensures.completed }
