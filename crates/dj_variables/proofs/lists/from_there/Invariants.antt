use Rattle.std.proofs.Common.{◌≡◌, drop}
use Rattle.dj_variables.specs.Lists.{from_there}
use Rattle.dj_variables.proofs.lists.from_there.Given as goal

abbrev pub invariant-loop-one : goal.invariant-loop-one
invariant-loop-one l = (from_there l.at (drop l.one-index l.list) ≡ from_there l.at l.list) × (l.below ≡ l.one-index)
