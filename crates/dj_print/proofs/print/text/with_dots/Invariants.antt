use Rattle.std.proofs.Common.{take, map}
use Rattle.dj_print.specs.Spelled.{dot}
use Rattle.dj_print.proofs.print.text.with_dots.Given as goal

abbrev pub invariant-loop-unit : goal.invariant-loop-unit
invariant-loop-unit g l = g.O.Out.prints l.initial.out l.out (map dot (take l.unit-index l.name))
