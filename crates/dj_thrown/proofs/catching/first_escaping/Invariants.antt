use Rattle.std.proofs.Common.{◌≡◌, drop}
use Rattle.dj_faults.specs.Faults.{lower}
use Rattle.dj_thrown.specs.Walks.{first_escaping}
use Rattle.dj_thrown.proofs.catching.first_escaping.Given as goal

abbrev pub invariant-loop-one : goal.invariant-loop-one
invariant-loop-one l = lower l.fault (first_escaping l.headers l.declared (drop l.one-index l.thrown)) ≡ first_escaping l.headers l.declared l.thrown
