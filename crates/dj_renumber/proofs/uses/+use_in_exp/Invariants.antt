use Rattle.std.proofs.Common.{◌≡◌, drop}
use Rattle.dj_syntax.specs.Trees.{view_exps}
use Rattle.dj_numbered.specs.Numbering as spec
use Rattle.dj_renumber.specs.Views.{view_used}
use Rattle.dj_renumber.proofs.uses.+use_in_exp.Given as goal

abbrev pub invariant-use_in_exps-loop-exp : goal.invariant-use_in_exps-loop-exp
invariant-use_in_exps-loop-exp l = spec.exps_used (view_exps (drop l.exp-index l.list)) (view_used l.used) ≡ spec.exps_used (view_exps l.list) (view_used l.fn.used)
