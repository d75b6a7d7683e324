use Rattle.std.proofs.Common.{◌≡◌, ◌-◌, ◌++◌, length, replicate, None}
use Rattle.dj_machine.specs.Runs.{view_slots}
use Rattle.dj_machine.proofs.locals.fill.Given as goal

abbrev pub decreases-loop-slots : goal.decreases-loop-slots
decreases-loop-slots l = l.most - length l.slots

abbrev pub invariant-loop-slots : goal.invariant-loop-slots
invariant-loop-slots l = view_slots l.slots ++ replicate (l.most - length l.slots) None ≡ view_slots l.initial.slots ++ replicate (l.most - length l.initial.slots) None
