use Rattle.std.proofs.Common.{length}
use Rattle.dj_code.specs.MethodCode.{view_typed}
use Rattle.dj_birth_causes.proofs.Misplacing.{IsWalkedIn}
use Rattle.dj_birth_causes.proofs.beginning.first_misplaced.Given as goal

abbrev pub invariant-loop-left : goal.invariant-loop-left
invariant-loop-left l = IsWalkedIn (view_typed l.fn.typed) l.before l.left l.frames

abbrev pub decreases-loop-left : goal.decreases-loop-left
decreases-loop-left l = length l.left
