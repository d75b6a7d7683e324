use Rattle.std.proofs.Common.{◌≡◌}
use Rattle.dj_world.specs.Wanting.{KeepsWanted}
use Rattle.dj_world.proofs.wanted.Wanted.read_on.Given as goal

abbrev pub invariant-loop-at : goal.invariant-loop-at
invariant-loop-at l = record { keeps : KeepsWanted l.headers l.self; next : l.self.read ≡ l.at }
