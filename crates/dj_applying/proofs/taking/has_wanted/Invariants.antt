use Rattle.dj_frames.specs.Frames.{view_tags}
use Rattle.dj_effects.specs.Doing.{view_wants}
use Rattle.dj_applying.proofs.Wanting.{AreMet}
use Rattle.dj_applying.proofs.taking.has_wanted.Given as goal

abbrev pub invariant-loop-depth : goal.invariant-loop-depth
invariant-loop-depth g l = AreMet (g.G.Goes.relation l.goes) (view_wants l.wants) (view_tags l.stack) l.depth
