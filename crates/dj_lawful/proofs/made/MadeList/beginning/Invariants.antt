use Rattle.std.proofs.Common.{◌≡◌, ◌++◌, map, drop}
use Rattle.dj_syntax.specs.Trees.{view_stm}
use Rattle.dj_declaring.specs.Passes as spec
use Rattle.dj_lawful.specs.PassViews.{view_all_lost}
use Rattle.dj_lawful.proofs.made.MadeList.beginning.Given as goal

abbrev pub invariant-loop-one : goal.invariant-loop-one
invariant-loop-one l =
    map view_stm l.list ++ (spec.beginning (view_all_lost (drop l.one-index l.more))).list ≡ (spec.beginning (view_all_lost l.more)).list
