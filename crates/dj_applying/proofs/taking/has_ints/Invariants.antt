use Rattle.std.specs.Prelude.{replicate}
use Rattle.dj_frames.specs.Frames.{Int, view_tags}
use Rattle.dj_effects.specs.Works.{Of}
use Rattle.dj_applying.proofs.Wanting.{AreMet}
use Rattle.dj_applying.proofs.taking.has_ints.Given as goal

abbrev pub invariant-loop-depth : goal.invariant-loop-depth
invariant-loop-depth g l = AreMet (g.G.Goes.relation l.goes) (replicate l.count (Of Int)) (view_tags l.stack) l.depth
