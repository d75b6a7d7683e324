use Rattle.std.proofs.Common.{take}
use Rattle.dj_frames.specs.Frames.{view_frames}
use Rattle.dj_birth_causes.specs.Leasts.{IsFirst, IsGivenBehind}
use Rattle.dj_birth_causes.proofs.beginning.first_given.Given as goal

abbrev pub invariant-loop-frame : goal.invariant-loop-frame
invariant-loop-frame l = IsFirst (IsGivenBehind (view_frames (take l.frame-index l.frames))) l.least
