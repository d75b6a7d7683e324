use Rattle.std.proofs.Common.{◌≡◌, ◌+◌, length, take}
use Rattle.std.specs.List.{flat_map}
use Rattle.dj_frames.specs.Frames.{view_tags, slots_of}
use Rattle.dj_effects.specs.Stacked.{tags_of}
use Rattle.dj_effects.proofs.stack.words_left.Given as goal

abbrev pub invariant-loop-entry : goal.invariant-loop-entry
invariant-loop-entry l = length (flat_map slots_of (view_tags (tags_of (take l.entry-index l.top)))) + l.left ≡ l.most
