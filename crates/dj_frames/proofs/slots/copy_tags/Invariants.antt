use Rattle.std.proofs.Common.{◌≡◌, take}
use Rattle.dj_frames.proofs.slots.copy_tags.Given as goal

abbrev pub invariant-loop-tag : goal.invariant-loop-tag
invariant-loop-tag l = l.copy ≡ take l.tag-index l.tags
