use Rattle.std.proofs.Common.{length}
use Rattle.dj_pool.specs.PoolTable.{BeginsWithUnits}
use Rattle.dj_pool.proofs.modified_utf8.are_units.Given as goal

abbrev pub invariant-loop-rest : goal.invariant-loop-rest
invariant-loop-rest l = BeginsWithUnits l.bytes l.left

abbrev pub decreases-loop-rest : goal.decreases-loop-rest
decreases-loop-rest l = length l.left
