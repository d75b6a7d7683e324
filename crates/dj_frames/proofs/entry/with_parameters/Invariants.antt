use Rattle.std.proofs.Common.{◌≡◌, ◌++◌, map, take}
use Rattle.dj_names.specs.Types.{view_types}
use Rattle.dj_frames.specs.Frames.{view_tags, tag_of}
use Rattle.dj_frames.proofs.entry.with_parameters.Given as goal

abbrev pub invariant-loop-kind : goal.invariant-loop-kind
invariant-loop-kind l = view_tags l.values ≡ view_tags l.fn.values ++ map tag_of (view_types (take l.kind-index l.kinds))
