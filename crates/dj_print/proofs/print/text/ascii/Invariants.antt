use Rattle.std.proofs.Common.{take}
use Rattle.dj_print.proofs.print.text.ascii.Given as goal

abbrev pub invariant-loop-unit : goal.invariant-loop-unit
invariant-loop-unit g l = g.O.Out.prints l.initial.out l.out (take l.unit-index l.name)
