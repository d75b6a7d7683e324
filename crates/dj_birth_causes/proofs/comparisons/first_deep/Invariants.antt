use Rattle.std.proofs.Common.{length}
use Rattle.dj_instructions.specs.Instructions.{view_instructions}
use Rattle.dj_birth_causes.proofs.Deepening.{IsDeepIn}
use Rattle.dj_birth_causes.proofs.comparisons.first_deep.Given as goal

abbrev pub invariant-loop-left : goal.invariant-loop-left
invariant-loop-left l = IsDeepIn (view_instructions l.fn.instructions) l.count (view_instructions l.left)

abbrev pub decreases-loop-left : goal.decreases-loop-left
decreases-loop-left l = length l.left
