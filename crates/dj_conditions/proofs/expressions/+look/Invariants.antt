use Rattle.std.proofs.Common.{◌≡◌, drop}
use Rattle.dj_syntax.specs.Trees.{view_exps}
use Rattle.dj_places.specs.Surroundings.{surroundings_of}
use Rattle.dj_conditions.specs.Walks as spec
use Rattle.dj_conditions.proofs.expressions.+look.Given as goal

abbrev pub invariant-look_each-loop-exp : goal.invariant-look_each-loop-exp
invariant-look_each-loop-exp l = spec.look_each (surroundings_of l.classes) (view_exps (drop l.exp-index l.list)) l.walk ≡ spec.look_each (surroundings_of l.classes) (view_exps l.list) l.fn.walk
