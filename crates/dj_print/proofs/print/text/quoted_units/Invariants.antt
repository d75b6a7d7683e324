use Rattle.std.proofs.Common.{take}
use Rattle.std.specs.List.{flat_map}
use Rattle.dj_syntax.specs.Items.{quoted_unit}
use Rattle.dj_print.proofs.print.text.quoted_units.Given as goal

abbrev pub invariant-loop-unit : goal.invariant-loop-unit
invariant-loop-unit g l = g.O.Out.prints l.initial.out l.out (flat_map quoted_unit (take l.unit-index l.units))
