use Rattle.std.proofs.Common.{◌≡◌, Some, map, length}
use Rattle.dj_rebuilding.specs.Pending.{spill}
use Rattle.dj_pending.specs.Assigned.{is_among}
use Rattle.dj_pending.specs.Entries.{view_entry}
use Rattle.dj_pending.specs.Stacks.{stacked}
use Rattle.dj_pending.specs.Building.{view_built}
use Rattle.dj_pending.specs.Spilling.{all_settled, behind}
use Rattle.dj_pending.proofs.built.Built.spill.Given as goal

abbrev pub decreases-loop-entry : goal.decreases-loop-entry
decreases-loop-entry l = length l.left

abbrev pub invariant-loop-entry : goal.invariant-loop-entry
invariant-loop-entry l =
    all_settled (is_among l.assigned) (map view_entry l.left) (Some (view_built l.self))
    ≡ behind (view_built l.fn.self).emitted (spill (is_among l.assigned) l.fn.self.next (stacked l.fn.self.stack))
