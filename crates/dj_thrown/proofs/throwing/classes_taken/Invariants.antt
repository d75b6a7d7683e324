use Rattle.std.proofs.Common.{◌≡◌, ◌++◌, drop}
use Rattle.dj_thrown.specs.Throws as spec
use Rattle.dj_thrown.proofs.throwing.classes_taken.Given as goal

abbrev pub invariant-loop-one : goal.invariant-loop-one
invariant-loop-one l = l.taken ++ spec.classes_of (spec.taken l.headers l.class (drop l.one-index l.thrown)) ≡ spec.classes_of (spec.taken l.headers l.class l.thrown)
