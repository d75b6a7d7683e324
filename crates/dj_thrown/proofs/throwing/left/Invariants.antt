use Rattle.std.proofs.Common.{◌≡◌, ◌++◌, drop}
use Rattle.dj_thrown.specs.Throws as spec
use Rattle.dj_thrown.proofs.throwing.left.Given as goal

abbrev pub invariant-loop-one : goal.invariant-loop-one
invariant-loop-one l = l.left ++ spec.left l.headers l.class (drop l.one-index l.thrown) ≡ spec.left l.headers l.class l.thrown
