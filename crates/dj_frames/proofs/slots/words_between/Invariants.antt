use Rattle.std.proofs.Common.{◌≡◌, ◌+◌, ◌*◌, ◌≤◌}
use Rattle.dj_frames.specs.SlotTree.{tag_in, first_tags, words_in}
use Rattle.dj_frames.proofs.slots.words_between.Given as goal

abbrev pub invariant-loop-slot : goal.invariant-loop-slot
invariant-loop-slot l = record {
  sum : words_in (first_tags l.start (tag_in l.depth l.tree)) + l.sum ≡ words_in (first_tags l.slot (tag_in l.depth l.tree));
  few : l.sum ≤ 2 * l.slot;
}
