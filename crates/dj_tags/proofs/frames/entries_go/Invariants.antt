use Rattle.dj_frames.specs.Frames.{view_tags}
use Rattle.dj_tags.proofs.SlotLemmas.{EachEntry}
use Rattle.dj_tags.proofs.frames.entries_go.Given as goal

abbrev pub invariant-loop-place : goal.invariant-loop-place
invariant-loop-place g l = EachEntry (g.G.Goes.relation l.goes) (view_tags l.from) (view_tags l.to) l.place
