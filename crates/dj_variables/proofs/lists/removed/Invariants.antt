use Rattle.std.proofs.Common.{◌≡◌, ◌++◌, drop}
use Rattle.dj_variables.specs.Lists.{removed}
use Rattle.dj_variables.proofs.lists.removed.Given as goal

abbrev pub invariant-loop-one : goal.invariant-loop-one
invariant-loop-one l = l.kept ++ removed l.variable (drop l.one-index l.list) ≡ removed l.variable l.list
