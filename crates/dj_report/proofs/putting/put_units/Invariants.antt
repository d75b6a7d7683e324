use Rattle.std.proofs.Common.{length}
use Rattle.dj_report.proofs.ShownLemmas.{PutBefore}
use Rattle.dj_report.proofs.putting.put_units.Given as goal

abbrev pub invariant-loop-rest : goal.invariant-loop-rest
invariant-loop-rest g l = PutBefore l.units l.rest (g.S.Sink.taken l.initial.sink) (g.S.Sink.taken l.sink) (g.S.Sink.faults l.initial.sink) (g.S.Sink.faults l.sink)

abbrev pub decreases-loop-rest : goal.decreases-loop-rest
decreases-loop-rest g l = length l.rest
