use Rattle.std.proofs.Common.{length, IsTrue}
use Rattle.dj_instructions.specs.Instructions.{view_instructions}
use Rattle.dj_starts.specs.Starts.{in_range}
use Rattle.dj_birth_causes.proofs.Covering.{IsHeldIn}
use Rattle.dj_birth_causes.proofs.beginning.first_covered.Given as goal

abbrev pub invariant-loop-left : goal.invariant-loop-left
invariant-loop-left l = IsHeldIn (λ pc. IsTrue (in_range l.fn.typed.code.handlers pc)) (view_instructions l.fn.typed.code.instructions) (view_instructions l.left)

abbrev pub decreases-loop-left : goal.decreases-loop-left
decreases-loop-left l = length l.left
