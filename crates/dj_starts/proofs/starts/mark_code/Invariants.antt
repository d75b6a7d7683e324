use Rattle.std.proofs.Common.{Bool, List, drop, map}
use Rattle.dj_instructions.specs.Instructions.{view_instructions}
use Rattle.dj_frames.specs.Frames.{view_frame}
use Rattle.dj_starts.specs.Marks.{MarksMore}
use Rattle.dj_starts.specs.Starts.{CodeAsks}
use Rattle.dj_starts.proofs.starts.mark_code.Given as goal

-- what is marked, and what the rest asks for, is what is asked for
abbrev pub invariant-loop-place : goal.invariant-loop-place
invariant-loop-place l =
    (after : List Bool) → MarksMore l.begins after (CodeAsks l.handlers (view_instructions (drop l.place l.instructions)) (map view_frame (drop l.place l.frames))) → MarksMore l.initial.begins after (CodeAsks l.handlers (view_instructions l.instructions) (map view_frame l.frames))
