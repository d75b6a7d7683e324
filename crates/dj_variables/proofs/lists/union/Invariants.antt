use Rattle.std.proofs.Common.{◌≡◌, ◌++◌, drop}
use Rattle.dj_variables.specs.Lists.{union}
use Rattle.dj_variables.proofs.lists.union.Given as goal

abbrev pub invariant-loop-one : goal.invariant-loop-one
invariant-loop-one l = l.found ++ union l.rest (drop l.one-index l.second) ≡ union l.first l.second
