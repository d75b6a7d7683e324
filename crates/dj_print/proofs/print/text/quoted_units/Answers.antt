use Rattle.std.proofs.Common.{rules, get_or, arith}
use Rattle.std.specs.List.{flat_map}
use Rattle.dj_syntax.specs.Items.{quoted_unit}
use Rattle.dj_print.proofs.ListTexts.{all_done, flat_step, step}
use Rattle.dj_print.proofs.print.text.quoted_units.Goals as goal

pub loop-unit-init : goal.loop-unit-init
loop-unit-init g c = g.met.O.Out.nothing _

pub loop-unit-preserved : goal.loop-unit-preserved
loop-unit-preserved g c =
    step g.O.Out.prints g.met.O.Out.then (flat_map quoted_unit) quoted_unit (flat_step quoted_unit) c.args.units.now c.loop-unit.unit-index (get_or c.args.units.now c.loop-unit.unit-index 0) (omega arith) (search rules) c.loop-unit.invariant c.quoted_unit.ensures.prints

pub returns : goal.returns
returns g c =
    record { prints = all_done g.O.Out.prints (flat_map quoted_unit) c.args.units.now c.loop-unit.unit-index (omega arith) c.loop-unit.invariant }
