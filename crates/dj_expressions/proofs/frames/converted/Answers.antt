use Rattle.dj_syntax.proofs.TreeViews.{view_cast}
use Rattle.dj_expressions.proofs.frames.converted.Goals as goal

pub returns : goal.returns
returns c = record { converted = rw c.in_ok-operand.ensures (view_cast c.args.kind c.args.value) }
