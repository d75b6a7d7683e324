use Rattle.std.proofs.Common.{◌≡◌, replicate}
use Rattle.dj_names.specs.Types.{Int, view_types}
use Rattle.dj_evaluating.proofs.evaluating.ints.Given as goal

abbrev pub invariant-loop-made : goal.invariant-loop-made
invariant-loop-made l = view_types l.kinds ≡ replicate l._made Int
