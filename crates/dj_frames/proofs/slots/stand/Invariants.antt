use Rattle.std.proofs.Common.{◌≡◌, ℕ, ◌+◌, ◌<◌, get_or}
use Rattle.dj_frames.specs.declared.tag.Tag.TheVariants.{Top}
use Rattle.dj_frames.specs.SlotTree.{tag_in}
use Rattle.dj_frames.proofs.slots.stand.Given as goal

abbrev pub invariant-loop-place : goal.invariant-loop-place
invariant-loop-place l = (s : ℕ) → s < l.place → tag_in l.depth l.tree (l.start + s) ≡ get_or l.tags s Top
