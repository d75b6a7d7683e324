use Rattle.std.proofs.Common.{◌≡◌, ◌++◌, drop}
use Rattle.dj_assigned.specs.Walks.{behind_last}
use Rattle.dj_assigned.proofs.course.add_behind.Given as goal

abbrev pub invariant-loop-one : goal.invariant-loop-one
invariant-loop-one l = l.jumps ++ behind_last l.unassigned (drop l.one-index l.from) ≡ l.fn.jumps ++ behind_last l.unassigned l.from
