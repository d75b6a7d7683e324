use Rattle.std.proofs.Common.{arith}
use Rattle.std.proofs.lemmas.Result.{err_from_is_err_and}
use Rattle.std.specs.Option.{option_copied}
use Rattle.dj_pool.proofs.PoolReading.{pool_more, pool_stop, length_read}
use Rattle.dj_pool.proofs.pools.entries_at.Goals as goal

pub returns-in_err-entry-clause-reads : goal.returns-in_err-entry-clause-reads
returns-in_err-entry-clause-reads c =
    let p = err_from_is_err_and c.from_residual-in_err-entry.result c.from_residual-in_err-entry.ensures.1 in
    rw (p.1, p.2) (pool_stop (option_copied c.args.given) c.args.count c.args.end c.args.bytes.now c.loop-room.rest.now c.loop-room.found c.loop-room.room c.in_err-entry.field-0.0 c.loop-room.invariant c.loop-room-test.true c.in_err-entry.ensures.reads)

pub loop-room-preserved : goal.loop-room-preserved
loop-room-preserved c =
    rw c.in_ok-room.ensures.taken (pool_more (option_copied c.args.given) c.args.count c.args.bytes.now c.loop-room.rest.now c.in_ok-entry.after.now c.loop-room.found c.push_entry.new.found c.loop-room.room c.in_ok-entry.entry c.loop-room.invariant c.loop-room-test.true c.in_ok-entry.ensures.reads c.in_ok-room.ensures.pushed)

pub returns-clause-filled : goal.returns-clause-filled
returns-clause-filled c =
    let long = length_read (option_copied c.args.given) c.args.count c.args.bytes.now c.loop-room.rest.now c.loop-room.found c.loop-room.room c.loop-room.invariant in
    omega (arith, long, c.loop-room-test.false)
