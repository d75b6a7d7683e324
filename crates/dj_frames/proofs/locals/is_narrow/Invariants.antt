use Rattle.std.proofs.Common.{◌≡◌, take}
use Rattle.std.specs.List.{flat_map}
use Rattle.dj_frames.specs.Frames.{view_tags, slots_of}
use Rattle.dj_frames.proofs.locals.is_narrow.Given as goal

abbrev pub invariant-loop-value : goal.invariant-loop-value
invariant-loop-value l = flat_map slots_of (view_tags (take l.value-index l.values)) ≡ view_tags (take l.value-index l.values)
