use Rattle.std.proofs.Common.{◌≡◌, length, map}
use Rattle.dj_instructions.specs.Instructions.{view_instructions}
use Rattle.dj_frames.specs.Frames.{view_frame}
use Rattle.dj_birth_causes.specs.Beginning.{calls_on_first}
use Rattle.dj_birth_causes.proofs.receiver.calls_on_first.Given as goal

abbrev pub invariant-loop-left : goal.invariant-loop-left
invariant-loop-left l = calls_on_first (view_instructions l.left) (map view_frame l.before) ≡ calls_on_first (view_instructions l.fn.instructions) (map view_frame l.fn.frames)

abbrev pub decreases-loop-left : goal.decreases-loop-left
decreases-loop-left l = length l.left
