use Rattle.std.proofs.Common.{ℕ, ℤ, ◌<◌, slice_index_or}
use Rattle.dj_instructions.specs.Instructions.{view_instructions}
use Rattle.dj_code.specs.Targets.{IsStart}
use Rattle.dj_code.proofs.targets.are_cases_right.Given as goal

abbrev pub invariant-loop-case : goal.invariant-loop-case
invariant-loop-case l = (k : ℕ) (d : ℤ × ℕ) → k < l.case-index → IsStart (view_instructions l.instructions) (slice_index_or l.cases k d).1
