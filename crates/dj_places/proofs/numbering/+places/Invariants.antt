use Rattle.std.proofs.Common.{◌≡◌, ◌+◌, ◌≤◌, drop}
use Rattle.dj_syntax.specs.Trees.{view_exps}
use Rattle.dj_syntax.specs.Weight.{weight_of_exps}
use Rattle.dj_places.specs.Places.{most_place, told}
use Rattle.dj_places.proofs.numbering.+places.Given as goal

abbrev pub invariant-all_places-loop-exp : goal.invariant-all_places-loop-exp
invariant-all_places-loop-exp l =
    (told (l.total + weight_of_exps (view_exps (drop l.exp-index l.list))) ≡ told (weight_of_exps (view_exps l.list))) × (l.total ≤ most_place)
