use Rattle.dj_expressions.proofs.steps.ask_standing.Goals as goal

pub returns-in-Some : goal.returns-in-Some
returns-in-Some c = record { asks = rw c.in-Some.is c.wait_more.ensures.waits }
