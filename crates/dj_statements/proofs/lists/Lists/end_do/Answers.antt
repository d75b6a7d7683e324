use Rattle.std.proofs.Common.{sym}
use Rattle.dj_syntax.proofs.TreeViews.{view_do}
use Rattle.dj_statements.proofs.lists.Lists.end_do.Goals as goal

pub returns-in-Some : goal.returns-in-Some
returns-in-Some c = record { ended = rw (sym c.in_ok-test.ensures.value, c.in-Some.is) (rw (view_do c.args.body c.in-Some.test) at c.complete.ensures.completed) }
