use Rattle.std.proofs.Common.{◌≡◌, ◌<◌, ◌≤◌, ℕ, false}
use Rattle.dj_frames.specs.Frames.{view_tag, is_unborn}
use Rattle.dj_frames.specs.SlotTree.{listed}
use Rattle.dj_frames.proofs.tree.next_listed.Given as goal

abbrev pub invariant-loop-slot : goal.invariant-loop-slot
invariant-loop-slot l = (s : ℕ) → l.start ≤ s → s < l.slot → is_unborn l.unborn (view_tag (listed l.list l.rest s)) ≡ false
