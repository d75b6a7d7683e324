use Rattle.std.proofs.Common.{◌≡◌, ◌++◌, drop}
use Rattle.dj_assigned.specs.Walks.{others}
use Rattle.dj_assigned.proofs.course.add_others.Given as goal

abbrev pub invariant-loop-one : goal.invariant-loop-one
invariant-loop-one l = l.jumps ++ others l.label (drop l.one-index l.from) ≡ l.fn.jumps ++ others l.label l.from
