use Rattle.std.proofs.Common.{sym}
use Rattle.dj_expressions.proofs.steps.assign_standing.Goals as goal

pub returns : goal.returns
returns c = record { assigns = rw (sym c.in_ok-stands.ensures.standing) c.in_ok-assigned.ensures.assigns }
