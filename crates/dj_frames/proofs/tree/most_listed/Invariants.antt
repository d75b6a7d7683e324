use Rattle.std.proofs.Common.{◌<◌, ◌≤◌, ℕ}
use Rattle.dj_frames.specs.Frames.{view_tag}
use Rattle.dj_frames.specs.SlotTree.{listed, rank}
use Rattle.dj_frames.proofs.tree.most_listed.Given as goal

abbrev pub invariant-loop-tag : goal.invariant-loop-tag
invariant-loop-tag l = record {
  behind : rank (view_tag l.rest) ≤ l.most;
  listed : (slot : ℕ) → slot < l.tag-index → rank (view_tag (listed l.list l.rest slot)) ≤ l.most;
}
