use Rattle.std.proofs.Common.{◌≡◌, drop}
use Rattle.dj_variables.specs.Lists.{is_among}
use Rattle.dj_variables.proofs.lists.is_among.Given as goal

abbrev pub invariant-loop-one : goal.invariant-loop-one
invariant-loop-one l = is_among l.variable (drop l.one-index l.list) ≡ is_among l.variable l.list
