use Rattle.std.proofs.Common.{◌↔◌, drop}
use Rattle.dj_syntax.specs.Trees.{view_exps}
use Rattle.dj_syntax.specs.WellFormed.{AreWellFormedExps}
use Rattle.dj_well_formed.proofs.expressions.+expression.Given as goal

abbrev pub invariant-are_well_formed_exps-loop-exp : goal.invariant-are_well_formed_exps-loop-exp
invariant-are_well_formed_exps-loop-exp l =
    AreWellFormedExps (view_exps (drop l.exp-index l.list)) ↔ AreWellFormedExps (view_exps l.list)
