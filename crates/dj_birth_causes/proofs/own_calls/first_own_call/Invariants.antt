use Rattle.std.proofs.Common.{length, map}
use Rattle.dj_instructions.specs.Instructions.{view_instructions}
use Rattle.dj_frames.specs.Frames.{view_frame}
use Rattle.dj_receivers.specs.OwnCalls.{calls_own}
use Rattle.dj_birth_causes.proofs.Standing.{IsLeft}
use Rattle.dj_birth_causes.proofs.own_calls.first_own_call.Given as goal

abbrev pub invariant-loop-left : goal.invariant-loop-left
invariant-loop-left l = IsLeft calls_own (view_instructions l.fn.instructions) (map view_frame l.fn.frames) (view_instructions l.left) (map view_frame l.before)

abbrev pub decreases-loop-left : goal.decreases-loop-left
decreases-loop-left l = length l.left
