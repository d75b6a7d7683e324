use Rattle.std.proofs.Common.{◌≡◌, ◌++◌, map, length}
use Rattle.dj_pending.specs.Entries.{view_entry}
use Rattle.dj_pending.specs.Stacks.{stacked}
use Rattle.dj_pending.proofs.moving.put.Given as goal

abbrev pub decreases-loop-entry : goal.decreases-loop-entry
decreases-loop-entry l = length l.left

abbrev pub invariant-loop-entry : goal.invariant-loop-entry
invariant-loop-entry l = map view_entry l.left ++ stacked l.stack ≡ map view_entry l.fn.entries ++ stacked l.initial.stack
