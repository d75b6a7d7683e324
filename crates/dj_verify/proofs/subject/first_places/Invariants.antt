use Rattle.std.proofs.Common.{◌≤◌, length}
use Rattle.dj_frames.specs.Frames.{view_frames}
use Rattle.dj_verify.specs.Checking.{ArePlacesFrom}
use Rattle.dj_verify.proofs.subject.first_places.Given as goal

abbrev pub invariant-loop-from : goal.invariant-loop-from
invariant-loop-from l = ArePlacesFrom l.from (view_frames l.frames) l.places × (l.from ≤ length l.frames)

abbrev pub decreases-loop-from : goal.decreases-loop-from
decreases-loop-from l = l.from
