use Rattle.std.proofs.Common.{length, refl}
use Rattle.std.proofs.lemmas.Result.{err_from_is_err_and}
use Rattle.dj_instructions.specs.Instructions.{view_instruction, view_instructions}
use Rattle.dj_instructions.proofs.ListingReading.{some_left, none_left, front_more, front_stop, front_all, shorter}
use Rattle.dj_instructions.proofs.listing.listed.Goals as goal

pub returns-in_err-instruction : goal.returns-in_err-instruction
returns-in_err-instruction c =
    let p = err_from_is_err_and c.from_residual.result c.from_residual.ensures.1 in
    rw (p.1, p.2) record { reads = front_stop c.args.pool.now c.args.code.now c.loop-rest.rest.now (view_instructions c.loop-rest.found) _ c.in_err-instruction.field-0.0 (some_left c.loop-rest.rest.now c.loop-rest-test.ensures) refl c.loop-rest.invariant c.in_err-instruction.ensures.reads }

pub loop-rest-smaller : goal.loop-rest-smaller
loop-rest-smaller c = shorter c.args.pool.now _ c.loop-rest.rest.now c.in_ok-instruction.after.now (view_instruction c.in_ok-instruction.instruction) c.in_ok-instruction.ensures.reads

pub loop-rest-preserved : goal.loop-rest-preserved
loop-rest-preserved c =
    front_more c.args.pool.now (length c.args.code.now) c.args.code.now c.loop-rest.rest.now c.in_ok-instruction.after.now c.loop-rest.found c.push.new.self _ c.in_ok-instruction.instruction refl (some_left c.loop-rest.rest.now c.loop-rest-test.ensures) refl c.loop-rest.invariant c.in_ok-instruction.ensures.reads c.in_ok-push.ensures.ok

pub returns : goal.returns
returns c = record { reads = front_all c.args.pool.now c.args.code.now c.loop-rest.rest.now (view_instructions c.loop-rest.found) c.loop-rest.invariant (none_left c.loop-rest.rest.now c.loop-rest-test.ensures) }
