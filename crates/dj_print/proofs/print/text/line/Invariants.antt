use Rattle.std.proofs.Common.{◌*◌}
use Rattle.std.specs.Prelude.{replicate}
use Rattle.dj_print.proofs.print.text.line.Given as goal

abbrev pub invariant-loop : goal.invariant-loop
invariant-loop g l = g.O.Out.prints l.initial.out l.out (replicate (4 * l.counter) 32)
