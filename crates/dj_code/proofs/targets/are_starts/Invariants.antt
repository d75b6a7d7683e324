use Rattle.std.proofs.Common.{ℕ, ◌<◌, slice_index_or}
use Rattle.dj_instructions.specs.Instructions.{view_instructions}
use Rattle.dj_code.specs.Targets.{IsStart}
use Rattle.dj_code.proofs.targets.are_starts.Given as goal

abbrev pub invariant-loop-target : goal.invariant-loop-target
invariant-loop-target l = (k d : ℕ) → k < l.target-index → IsStart (view_instructions l.instructions) (slice_index_or l.targets k d)
