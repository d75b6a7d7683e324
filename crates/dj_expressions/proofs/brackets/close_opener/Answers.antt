use Rattle.dj_expressions.proofs.brackets.close_opener.Goals as goal

pub returns-in-Arguments : goal.returns-in-Arguments
returns-in-Arguments c = record { closed = rw c.in-Arguments.is c.called_with.ensures.called }

pub returns-in-Stored : goal.returns-in-Stored
returns-in-Stored c = record { closed = rw c.in-Stored.is c.stored.ensures.stored }
