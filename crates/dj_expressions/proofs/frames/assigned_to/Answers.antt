use Rattle.dj_syntax.proofs.TreeViews.{view_assign}
use Rattle.dj_expressions.proofs.frames.assigned_to.Goals as goal

pub returns : goal.returns
returns c = record { assigned = rw c.in_ok-value.ensures (view_assign c.args.variable c.args.value) }
