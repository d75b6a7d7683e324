use Rattle.std.proofs.Common.{take}
use Rattle.dj_starts.specs.Marks.{Visits, IsTarget}
use Rattle.dj_starts.proofs.reach.visit_all.Given as goal

abbrev pub invariant-loop-way : goal.invariant-loop-way
invariant-loop-way l = Visits l.initial.seen l.seen l.initial.pending l.pending (IsTarget (take l.way-index l.ways))
