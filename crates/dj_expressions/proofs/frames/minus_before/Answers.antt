use Rattle.dj_syntax.proofs.TreeViews.{view_negative}
use Rattle.dj_expressions.proofs.frames.minus_before.Goals as goal

pub returns : goal.returns
returns c = record { minus = rw c.in_ok-operand.ensures (view_negative c.args.value) }
