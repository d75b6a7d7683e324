use Rattle.std.proofs.Common.{◌≡◌}
use Rattle.dj_frames.specs.SlotTree.{listed, over, first_tags}
use Rattle.dj_frames.proofs.tree.put_list.Given as goal

abbrev pub invariant-loop-slot : goal.invariant-loop-slot
invariant-loop-slot l = l.made ≡ first_tags l.slot (over l.start l.tags (listed l.list l.rest))
