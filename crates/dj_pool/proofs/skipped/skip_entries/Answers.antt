use Rattle.std.proofs.Common.{Some}
use Rattle.std.proofs.lemmas.Result.{err_from_is_err_and}
use Rattle.dj_pool.proofs.PoolReading.{none_passed, passed_more, passed_all, pool_stop}
use Rattle.dj_pool.proofs.skipped.skip_entries.Goals as goal

pub loop-room-init : goal.loop-room-init
loop-room-init c = none_passed (Some c.args.given.now) c.args.count c.args.bytes.now

pub loop-room-preserved : goal.loop-room-preserved
loop-room-preserved c =
    passed_more (Some c.args.given.now) c.args.count c.args.bytes.now c.loop-room.rest.now c.in_ok-taken.after.now c.loop-room.room c.in_ok-taken.taken c.loop-room.invariant c.loop-room-test.true c.in_ok-taken.ensures.reads

pub returns-in_err-taken : goal.returns-in_err-taken
returns-in_err-taken c =
    let p = err_from_is_err_and c.from_residual.result c.from_residual.ensures.1 in
    let r = c.loop-room.invariant in
    rw (p.1, p.2) record { reads = pool_stop (Some c.args.given.now) c.args.count c.args.end c.args.bytes.now c.loop-room.rest.now r.found c.loop-room.room c.in_err-taken.field-0.0 r.read c.loop-room-test.true c.in_err-taken.ensures.reads }

pub returns : goal.returns
returns c = record { reads = passed_all (Some c.args.given.now) c.args.count c.args.bytes.now c.loop-room.rest.now c.loop-room.room c.loop-room.invariant c.loop-room-test.false }
