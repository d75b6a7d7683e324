use Rattle.std.proofs.Common.{◌≡◌, drop}
use Rattle.dj_assigned.specs.Walks.{gathered}
use Rattle.dj_assigned.proofs.course.gather.Given as goal

abbrev pub invariant-loop-one : goal.invariant-loop-one
invariant-loop-one l = gathered l.jump (drop l.one-index l.from) l.list ≡ gathered l.jump l.from l.fn.list
