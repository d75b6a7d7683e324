use Rattle.std.proofs.Common.{◌≡◌, ◌≤◌, ◌*◌, take, length}
use Rattle.dj_names.specs.Shown.{show_units}
use Rattle.dj_report.proofs.putting.put_few_units.Given as goal

abbrev pub invariant-loop-unit : goal.invariant-loop-unit
invariant-loop-unit g l = record {
  shown : l.shown.items ≡ show_units (take l.unit-index l.units);
  short : length l.shown.items ≤ 6 * l.unit-index;
}
