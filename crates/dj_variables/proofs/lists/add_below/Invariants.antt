use Rattle.std.proofs.Common.{◌≡◌, ◌++◌, drop}
use Rattle.dj_variables.specs.Lists.{lower_part, upper_part}
use Rattle.dj_variables.proofs.lists.add_below.Given as goal

abbrev pub invariant-loop-one : goal.invariant-loop-one
invariant-loop-one l =
    (l.found ++ lower_part l.at (drop l.one-index l.list) ≡ l.fn.found ++ lower_part l.at l.list)
    × (upper_part l.at (drop l.one-index l.list) ≡ upper_part l.at l.list) × (l.below ≡ l.one-index)
