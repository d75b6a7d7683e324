use Rattle.dj_syntax.proofs.TreeViews.{view_not}
use Rattle.dj_expressions.proofs.frames.not_before.Goals as goal

pub returns : goal.returns
returns c = record { inverted = rw c.in_ok-operand.ensures (view_not c.args.value) }
