use Rattle.std.proofs.Common.{◌-◌}
use Rattle.dj_frames.specs.Frames.{view_tag, view_tags, is_unborn}
use Rattle.dj_effects.specs.Effects.{instead}
use Rattle.dj_effects.proofs.Replacing.{IsReplaced}
use Rattle.dj_effects.proofs.unborn.replace_all.Given as goal

abbrev pub invariant-loop-start : goal.invariant-loop-start
invariant-loop-start l = IsReplaced (instead (is_unborn l.unborn) (view_tag l.now)) (view_tags l.initial.slots) (view_tags l.slots) l.start

abbrev pub decreases-loop-start : goal.decreases-loop-start
decreases-loop-start l = l.count - l.start
