use Rattle.dj_expressions.proofs.brackets.next_opener.Goals as goal

pub returns-in-Arguments : goal.returns-in-Arguments
returns-in-Arguments c = record { next = rw c.in-Arguments.is c.next_in.ensures.next }
