use Rattle.std.proofs.Common.{length, map}
use Rattle.dj_instructions.specs.Instructions.{view_instructions}
use Rattle.dj_frames.specs.Frames.{view_frame}
use Rattle.dj_code.specs.MethodCode.{view_code}
use Rattle.dj_escaping.specs.Escaping.{lets_escape}
use Rattle.dj_birth_causes.proofs.Standing.{IsLeft}
use Rattle.dj_birth_causes.proofs.beginning.first_escaping.Given as goal

abbrev pub invariant-loop-left : goal.invariant-loop-left
invariant-loop-left l =
    IsLeft (lets_escape l.world (view_code l.fn.typed.code)) (view_instructions l.fn.typed.code.instructions) (map view_frame l.fn.typed.frames) (view_instructions l.left) (map view_frame l.before)

abbrev pub decreases-loop-left : goal.decreases-loop-left
decreases-loop-left l = length l.left
