use Rattle.std.proofs.Common.{◌≡◌, take}
use Rattle.dj_names.specs.Utf8.{spell_units}
use Rattle.dj_names.proofs.utf8.write_units.Given as goal

abbrev pub invariant-loop-unit : goal.invariant-loop-unit
invariant-loop-unit l = l.bytes.items ≡ spell_units (take l.unit-index l.unit-items)
