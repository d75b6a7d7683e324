use Rattle.std.proofs.Common.{◌≡◌, ◌≤◌, ◌-◌, [], length}
use Rattle.dj_pending.specs.Stacks.{stacked}
use Rattle.dj_pending.specs.Operands.{operands_of, taken_from}
use Rattle.dj_pending.proofs.operands.take.Given as goal

abbrev pub decreases-operands : goal.decreases-operands
decreases-operands l = l.count - length l.taken

abbrev pub invariant-operands : goal.invariant-operands
invariant-operands l =
    (length l.taken ≤ l.count) × (taken_from (l.count - length l.taken) (operands_of l.taken) (stacked l.stack) ≡ taken_from l.count [] (stacked l.fn.stack))
