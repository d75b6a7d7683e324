use Rattle.std.proofs.Common.{ℕ}
use Rattle.dj_instructions.specs.Instructions.{Instruction, view_instructions}
use Rattle.dj_code.specs.Targets.{JumpsRight}
use Rattle.dj_code.proofs.LeastWrong.{IsLeastSoFar}
use Rattle.dj_code.proofs.targets.wrong_jump.Given as goal

abbrev pub invariant-loop-at : goal.invariant-loop-at
invariant-loop-at l = IsLeastSoFar (λ (at : ℕ × Instruction). at.0) (λ (at : ℕ × Instruction). JumpsRight (view_instructions l.instructions) at.1) (view_instructions l.instructions) l.at-index l.least
