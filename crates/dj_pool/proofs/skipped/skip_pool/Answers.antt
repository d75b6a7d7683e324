use Rattle.std.proofs.Common.{Some}
use Rattle.dj_pool.proofs.PoolReading.{pool_there}
use Rattle.dj_pool.proofs.skipped.skip_pool.Goals as goal

pub returns : goal.returns
returns c = record { reads = pool_there (Some c.args.given.now) c.in_ok-count.count c.args.bytes.now c.in_ok-count.rest.now c.in_ok-rest.rest.now c.in_ok-count.ensures.reads c.in_ok-rest.ensures.reads }
