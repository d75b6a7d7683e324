use Rattle.std.proofs.Common.{◌≡◌, ◌++◌, drop}
use Rattle.dj_signatures.specs.Spelled.{spelled_units}
use Rattle.dj_signatures.proofs.spelled.put_units.Given as goal

abbrev pub invariant-loop-unit : goal.invariant-loop-unit
invariant-loop-unit l = l.text.items ++ spelled_units (drop l.unit-index l.units) ≡ l.initial.text.items ++ spelled_units l.units
