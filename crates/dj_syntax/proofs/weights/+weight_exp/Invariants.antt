use Rattle.std.proofs.Common.{◌≡◌, ◌+◌, ◌≤◌, drop}
use Rattle.dj_syntax.specs.Trees.{view_exps}
use Rattle.dj_syntax.specs.Weight.{most_weight, told_weight, weight_of_exps}
use Rattle.dj_syntax.proofs.weights.+weight_exp.Given as goal

abbrev pub invariant-weight_exps-loop-exp : goal.invariant-weight_exps-loop-exp
invariant-weight_exps-loop-exp l =
    (told_weight (l.total + weight_of_exps (view_exps (drop l.exp-index l.list))) ≡ told_weight (weight_of_exps (view_exps l.list))) × (l.total ≤ most_weight)
