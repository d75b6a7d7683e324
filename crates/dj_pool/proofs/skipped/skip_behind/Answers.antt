use Rattle.std.proofs.Common.{Some}
use Rattle.dj_pool.proofs.PoolReading.{text_behind}
use Rattle.dj_pool.proofs.skipped.skip_behind.Goals as goal

pub returns-then-tag-eq1 : goal.returns-then-tag-eq1
returns-then-tag-eq1 c = record { reads = text_behind (Some c.args.given.now) c.args.tag c.args.bytes.now c.in_ok-rest.rest.now c.if-tag-eq1.true c.in_ok-rest.ensures.reads }
