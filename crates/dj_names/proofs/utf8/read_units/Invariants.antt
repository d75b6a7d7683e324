use Rattle.std.proofs.Common.{◌≡◌, ◌-◌, ◌≤◌, length, take, All}
use Rattle.dj_names.specs.Utf8.{spell_units, IsUnit}
use Rattle.dj_names.proofs.utf8.read_units.Given as goal

abbrev pub invariant-loop-at : goal.invariant-loop-at
invariant-loop-at l = record {
  within : l.at ≤ length l.bytes;
  units : All IsUnit l.units.items;
  spelled : spell_units l.units.items ≡ take l.at l.bytes;
}

abbrev pub decreases-loop-at : goal.decreases-loop-at
decreases-loop-at l = length l.bytes - l.at
