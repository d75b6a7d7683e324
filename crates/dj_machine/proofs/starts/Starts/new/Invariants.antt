use Rattle.std.proofs.Common.{◌≤◌, length}
use Rattle.dj_instructions.specs.Instructions.{view_instructions}
use Rattle.dj_machine.specs.Runs.{AreStartsFrom}
use Rattle.dj_machine.proofs.starts.Starts.new.Given as goal

abbrev pub invariant-loop-from : goal.invariant-loop-from
invariant-loop-from l = AreStartsFrom l.from (view_instructions l.instructions) l.places × (l.from ≤ length l.instructions)

abbrev pub decreases-loop-from : goal.decreases-loop-from
decreases-loop-from l = l.from
