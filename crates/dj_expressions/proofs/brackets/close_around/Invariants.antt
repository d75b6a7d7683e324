use Rattle.std.proofs.Common.{◌≡◌, length}
use Rattle.dj_syntax.specs.Trees.{view_exp}
use Rattle.dj_grammar.specs.Frames.{collapsed}
use Rattle.dj_expressions.specs.Views.{view_open}
use Rattle.dj_expressions.proofs.brackets.close_around.Given as goal

abbrev pub invariant-loop-frame : goal.invariant-loop-frame
invariant-loop-frame l = collapsed (view_exp l.value) (view_open l.pending) ≡ collapsed (view_exp l.initial.value) (view_open l.initial.pending)

abbrev pub decreases-loop-frame : goal.decreases-loop-frame
decreases-loop-frame l = length l.pending
