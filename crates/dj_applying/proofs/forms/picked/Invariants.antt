use Rattle.std.proofs.Common.{◌≡◌, take}
use Rattle.dj_frames.specs.Frames.{view_tags}
use Rattle.dj_effects.specs.Effects.{picked}
use Rattle.dj_applying.proofs.forms.picked.Given as goal

abbrev pub invariant-loop-place : goal.invariant-loop-place
invariant-loop-place l = view_tags l.tags ≡ picked (take l.place-index l.places) (view_tags l.stack)
