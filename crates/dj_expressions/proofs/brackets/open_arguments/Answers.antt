use Rattle.dj_expressions.proofs.brackets.open_arguments.Goals as goal

pub returns-in-Some : goal.returns-in-Some
returns-in-Some c = record { opened = rw c.in-Some.is (rw c.new.ensures at c.open_more.ensures.opened) }
