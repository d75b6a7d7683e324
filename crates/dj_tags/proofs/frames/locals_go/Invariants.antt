use Rattle.dj_frames.specs.Frames.{view_tags}
use Rattle.dj_tags.proofs.SlotLemmas.{EachLocal}
use Rattle.dj_tags.proofs.frames.locals_go.Given as goal

abbrev pub invariant-loop-slot : goal.invariant-loop-slot
invariant-loop-slot g l = EachLocal (g.G.Goes.relation l.goes) (view_tags l.from) (view_tags l.to) l.slot
