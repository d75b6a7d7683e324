use Rattle.dj_receivers.proofs.Turned.{AreMet}
use Rattle.dj_receivers.proofs.bits.met.Given as goal

abbrev pub invariant-loop-place : goal.invariant-loop-place
invariant-loop-place l = AreMet l.known l.marks l.height l.place l.found
