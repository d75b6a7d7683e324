use Rattle.std.proofs.Common.{◌≡◌, ◌+◌, ◌≤◌, drop}
use Rattle.dj_syntax.specs.Trees.{view_catches, view_groups, view_stms}
use Rattle.dj_syntax.specs.Weight.{most_weight, told_weight, weight_of_catches, weight_of_groups, weight_of_stms}
use Rattle.dj_syntax.proofs.weights.+weight.Given as goal

abbrev pub invariant-weight_list-loop-statement : goal.invariant-weight_list-loop-statement
invariant-weight_list-loop-statement l =
    (told_weight (l.total + weight_of_stms (view_stms (drop l.statement-index l.list))) ≡ told_weight (weight_of_stms (view_stms l.list))) × (l.total ≤ most_weight)

abbrev pub invariant-weight_groups-loop-group : goal.invariant-weight_groups-loop-group
invariant-weight_groups-loop-group l =
    (told_weight (l.total + weight_of_groups (view_groups (drop l.group-index l.list))) ≡ told_weight (weight_of_groups (view_groups l.list))) × (l.total ≤ most_weight)

abbrev pub invariant-weight_catches-loop-catch : goal.invariant-weight_catches-loop-catch
invariant-weight_catches-loop-catch l =
    (told_weight (l.total + weight_of_catches (view_catches (drop l.catch-index l.list))) ≡ told_weight (weight_of_catches (view_catches l.list))) × (l.total ≤ most_weight)
