use Rattle.std.proofs.Common.{◌≡◌, ◌++◌, map, length}
use Rattle.dj_pending.specs.Entries.{view_entry}
use Rattle.dj_pending.specs.Stacks.{stacked}
use Rattle.dj_pending.proofs.built.top_first.Given as goal

abbrev pub decreases-loop-entry : goal.decreases-loop-entry
decreases-loop-entry l = length (stacked l.left)

abbrev pub invariant-loop-entry : goal.invariant-loop-entry
invariant-loop-entry l = map view_entry l.turned ++ stacked l.left ≡ stacked l.fn.stack
