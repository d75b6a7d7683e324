use Rattle.std.specs.Option.{option_copied}
use Rattle.dj_pool.proofs.PoolReading.{IsPoolRead}
use Rattle.dj_pool.proofs.pools.entries_at.Given as goal

abbrev pub invariant-loop-room : goal.invariant-loop-room
invariant-loop-room l = IsPoolRead (option_copied l.given) l.count l.bytes l.found l.rest l.room

abbrev pub decreases-loop-room : goal.decreases-loop-room
decreases-loop-room l = l.room
