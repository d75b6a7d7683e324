use Rattle.dj_names.specs.Types.{view_types}
use Rattle.dj_frames.specs.Frames.{view_tags}
use Rattle.dj_effects.specs.Rows.{arguments}
use Rattle.dj_applying.proofs.Wanting.{AreMet}
use Rattle.dj_applying.proofs.taking.has_arguments.Given as goal

abbrev pub invariant-loop-depth : goal.invariant-loop-depth
invariant-loop-depth g l = AreMet (g.G.Goes.relation l.goes) (arguments (view_types l.parameters)) (view_tags l.stack) l.depth
