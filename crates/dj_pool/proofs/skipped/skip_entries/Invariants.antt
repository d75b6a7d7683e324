use Rattle.std.proofs.Common.{Some}
use Rattle.dj_pool.proofs.PoolReading.{IsPoolPassed}
use Rattle.dj_pool.proofs.skipped.skip_entries.Given as goal

abbrev pub invariant-loop-room : goal.invariant-loop-room
invariant-loop-room l = IsPoolPassed (Some l.given) l.count l.bytes l.rest l.room

abbrev pub decreases-loop-room : goal.decreases-loop-room
decreases-loop-room l = l.room
