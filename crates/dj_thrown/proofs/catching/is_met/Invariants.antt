use Rattle.std.proofs.Common.{◌≡◌, drop}
use Rattle.dj_thrown.specs.Catching as spec
use Rattle.dj_thrown.proofs.catching.is_met.Given as goal

abbrev pub invariant-loop-one : goal.invariant-loop-one
invariant-loop-one l = spec.is_met l.headers l.class (drop l.one-index l.thrown) ≡ spec.is_met l.headers l.class l.thrown
