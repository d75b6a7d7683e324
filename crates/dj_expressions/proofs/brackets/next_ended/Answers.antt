use Rattle.dj_expressions.proofs.brackets.next_ended.Goals as goal

pub returns-in-Some : goal.returns-in-Some
returns-in-Some c = record { next = rw c.in-Some.is c.next_argument.ensures.next }
