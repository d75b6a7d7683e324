use Rattle.std.proofs.Common.{◌≡◌, ◌-◌, ◌<◌, ◌^◌, ℕ}
use Rattle.dj_frames.specs.SlotTree.{tag_in, IsMarked}
use Rattle.dj_frames.proofs.slots.with_room.Given as goal

abbrev pub invariant-loop-now : goal.invariant-loop-now
invariant-loop-now l = record {
  same : (slot : ℕ) → slot < 2 ^ l.depth → tag_in (l.now - 1) l.grown slot ≡ tag_in l.depth l.tree slot;
  marked : IsMarked l.grown;
}
