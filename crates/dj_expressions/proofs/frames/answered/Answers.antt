use Rattle.dj_syntax.proofs.TreeViews.{view_choice}
use Rattle.dj_expressions.proofs.frames.answered.Goals as goal

pub returns-in_ok-second-in-Ok : goal.returns-in_ok-second-in-Ok
returns-in_ok-second-in-Ok c = record { choice = rw (c.in-Ok.ensures, c.in_ok-second-in-Ok.ensures) (view_choice c.args.test c.args.first c.args.second) }
