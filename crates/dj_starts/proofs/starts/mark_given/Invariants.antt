use Rattle.std.proofs.Common.{Bool, List, drop}
use Rattle.dj_frames.specs.Frames.{view_frames}
use Rattle.dj_starts.specs.Starts.{IsGiven}
use Rattle.dj_starts.specs.Marks.{MarksMore}
use Rattle.dj_starts.proofs.starts.mark_given.Given as goal

-- what is marked, and what the rest asks for, is what is asked for
abbrev pub invariant-loop-frame : goal.invariant-loop-frame
invariant-loop-frame l = (after : List Bool) → MarksMore l.begins after (IsGiven (view_frames (drop l.frame-index l.frames))) → MarksMore l.initial.begins after (IsGiven (view_frames l.frames))
