use Rattle.std.proofs.lemmas.Result.{err_from_is_err_and}
use Rattle.dj_layout.proofs.Loops.{times_stop}
use Rattle.dj_code.specs.CodeContent.{handler}
use Rattle.dj_pool.proofs.Pushed.{times_pushed}
use Rattle.dj_code.proofs.content.handler_list.Goals as goal

pub returns-in_err-handler : goal.returns-in_err-handler
returns-in_err-handler c =
    let p = err_from_is_err_and c.from_residual.result c.from_residual.ensures.1 in
    rw (p.1, p.2) record { reads = times_stop handler c.loop.counter c.args.count c.args.end c.args.bytes.now c.loop.rest.now c.loop.found c.in_err-handler.field-0.0 c.loop-test.true (c.loop.invariant) c.in_err-handler.ensures.reads }

pub loop-preserved : goal.loop-preserved
loop-preserved c = times_pushed handler c.loop.counter c.args.bytes.now c.loop.rest.now c.in_ok-handler.after.now c.loop.found c.push.new.self c.in_ok-handler.handler c.loop.invariant c.in_ok-handler.ensures.reads c.in_ok-push.ensures.ok
