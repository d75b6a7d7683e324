use Rattle.std.proofs.Common.{◌≡◌, ◌++◌, map, drop}
use Rattle.dj_syntax.specs.Trees.{view_exp}
use Rattle.dj_renumber.specs.Views.{names_of}
use Rattle.dj_renumber.proofs.Lists.{exp_by}
use Rattle.dj_renumber.proofs.expressions.+exp_renamed.Given as goal

abbrev pub invariant-exps_renamed-loop-exp : goal.invariant-exps_renamed-loop-exp
invariant-exps_renamed-loop-exp l = map view_exp l.made ++ map (exp_by (names_of l.names)) (drop l.exp-index l.list) ≡ map (exp_by (names_of l.names)) l.list
