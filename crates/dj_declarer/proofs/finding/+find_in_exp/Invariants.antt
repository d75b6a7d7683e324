use Rattle.std.proofs.Common.{◌≡◌, drop}
use Rattle.dj_syntax.specs.Trees.{view_exps}
use Rattle.dj_declaring.specs.Occurring as spec
use Rattle.dj_declarer.proofs.finding.+find_in_exp.Given as goal

abbrev pub invariant-find_in_exps-loop-exp : goal.invariant-find_in_exps-loop-exp
invariant-find_in_exps-loop-exp l = spec.exps_found (view_exps (drop l.exp-index l.list)) l.found ≡ spec.exps_found (view_exps l.list) l.fn.found
