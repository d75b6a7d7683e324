use Rattle.std.proofs.Common.{◌≡◌, drop}
use Rattle.dj_declaring.specs.Occurring as spec
use Rattle.dj_declarer.proofs.found.is_among.Given as goal

abbrev pub invariant-loop-one : goal.invariant-loop-one
invariant-loop-one l = spec.is_among l.variable (drop l.one-index l.list) ≡ spec.is_among l.variable l.list
