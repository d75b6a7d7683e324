use Rattle.std.specs.Prelude.{Some}
use Rattle.dj_statements.proofs.MadeLemmas.{view_declare, view_run}
use Rattle.dj_statements.proofs.lists.Lists.end_opener.Goals as goal

pub returns-in-Start : goal.returns-in-Start
returns-in-Start c = record { ended = rw c.in-Start.is (rw (view_run c.args.value) at c.complete.ensures.completed) }

pub returns-in-Initial : goal.returns-in-Initial
returns-in-Initial c =
    let initial = c.in-Initial in
    record { ended = rw initial.is (rw (view_declare initial.variable initial.kind (Some c.args.value)) at c.complete-in-Initial.ensures.completed) }
