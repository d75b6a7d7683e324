use Rattle.dj_syntax.proofs.TreeViews.{view_binary}
use Rattle.dj_expressions.proofs.frames.between.Goals as goal

pub returns-in_ok-right-in-Ok : goal.returns-in_ok-right-in-Ok
returns-in_ok-right-in-Ok c = record { between = rw (c.in-Ok.ensures, c.in_ok-right-in-Ok.ensures) (view_binary c.args.operator c.args.left c.args.right) }
