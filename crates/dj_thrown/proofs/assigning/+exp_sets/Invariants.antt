use Rattle.std.proofs.Common.{◌≡◌, drop}
use Rattle.dj_syntax.specs.Trees.{view_exps}
use Rattle.dj_thrown.specs.Assigning as spec
use Rattle.dj_thrown.proofs.assigning.+exp_sets.Given as goal

abbrev pub invariant-exps_set-loop-exp : goal.invariant-exps_set-loop-exp
invariant-exps_set-loop-exp l = spec.exps_set l.wanted (view_exps (drop l.exp-index l.list)) ≡ spec.exps_set l.wanted (view_exps l.list)
