use Rattle.std.proofs.Common.{take}
use Rattle.std.specs.List.{Contains}
use Rattle.dj_starts.specs.Marks.{MarksMore}
use Rattle.dj_starts.proofs.marks.mark_all.Given as goal

abbrev pub invariant-loop-pc : goal.invariant-loop-pc
invariant-loop-pc l = MarksMore l.initial.marks l.marks (Contains (take l.pc-index l.pcs))
