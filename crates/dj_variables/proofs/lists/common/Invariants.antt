use Rattle.std.proofs.Common.{◌≡◌, ◌++◌, drop}
use Rattle.dj_variables.specs.Lists.{common}
use Rattle.dj_variables.proofs.lists.common.Given as goal

abbrev pub invariant-loop-one : goal.invariant-loop-one
invariant-loop-one l = l.found ++ common l.rest (drop l.one-index l.second) ≡ common l.first l.second
