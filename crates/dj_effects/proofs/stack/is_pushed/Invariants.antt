use Rattle.std.proofs.Common.{◌≡◌, drop}
use Rattle.std.specs.List.{list_any}
use Rattle.dj_frames.specs.Frames.{view_tags, is_unborn}
use Rattle.dj_effects.specs.Stacked.{tags_of}
use Rattle.dj_effects.proofs.stack.is_pushed.Given as goal

abbrev pub invariant-loop-entry : goal.invariant-loop-entry
invariant-loop-entry l = list_any (is_unborn l.unborn) (drop l.entry-index (view_tags (tags_of l.top))) ≡ list_any (is_unborn l.unborn) (view_tags (tags_of l.top))
