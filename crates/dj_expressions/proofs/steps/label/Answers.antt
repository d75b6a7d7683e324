use Rattle.std.proofs.Common.{sym}
use Rattle.dj_expressions.proofs.steps.label.Goals as goal

pub returns-in-Ok : goal.returns-in-Ok
returns-in-Ok c = record { labelled = rw (sym c.in-Ok.ensures.more) c.open_more.ensures.opened }
