use Rattle.std.proofs.Common.{◌≡◌, take}
use Rattle.dj_values.proofs.show.Show.copy.Given as goal

abbrev pub invariant-loop-action : goal.invariant-loop-action
invariant-loop-action l = l.actions ≡ take l.action-index l.action-items
