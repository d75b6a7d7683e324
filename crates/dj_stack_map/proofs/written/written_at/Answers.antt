use Rattle.std.proofs.lemmas.Result.{err_from_is_err_and}
use Rattle.dj_instructions.specs.Instructions.{view_instructions}
use Rattle.dj_frames.specs.Frames.{view_tags}
use Rattle.dj_stack_map.proofs.FrameReading.{locals_stop, stack_stop, frame_read}
use Rattle.dj_stack_map.proofs.written.written_at.Goals as goal

pub returns-in_err-locals : goal.returns-in_err-locals
returns-in_err-locals c =
    let p = err_from_is_err_and c.from_residual-in_err-locals.result c.from_residual-in_err-locals.ensures.1 in
    rw (p.1, p.2) record { reads = locals_stop c.args.pool.now (view_instructions c.args.instructions.now) c.in_ok-kind.kind c.in_ok-delta.delta c.args.end c.form_of-form.result c.args.bytes.now c.in_ok-kind.rest.now c.in_ok-delta.rest.now _ c.form_of-form.ensures.form c.in_ok-kind.ensures.reads c.in_ok-delta.ensures.reads c.in_err-locals.ensures.reads }

pub returns-in_err-stack : goal.returns-in_err-stack
returns-in_err-stack c =
    let p = err_from_is_err_and c.from_residual-in_err-stack.result c.from_residual-in_err-stack.ensures.1 in
    rw (p.1, p.2) record { reads = stack_stop c.args.pool.now (view_instructions c.args.instructions.now) c.in_ok-kind.kind c.in_ok-delta.delta c.args.end c.form_of-form.result c.args.bytes.now c.in_ok-kind.rest.now c.in_ok-delta.rest.now c.in_ok-locals.rest.now (view_tags c.in_ok-locals.locals) _ c.form_of-form.ensures.form c.in_ok-kind.ensures.reads c.in_ok-delta.ensures.reads c.in_ok-locals.ensures.reads c.in_err-stack.ensures.reads }

pub returns : goal.returns
returns c =
    record { reads = frame_read c.args.pool.now (view_instructions c.args.instructions.now) c.in_ok-kind.kind c.in_ok-delta.delta c.form_of-form.result c.args.bytes.now c.in_ok-kind.rest.now c.in_ok-delta.rest.now c.in_ok-locals.rest.now c.in_ok-stack.rest.now (view_tags c.in_ok-locals.locals) (view_tags c.in_ok-stack.stack) c.form_of-form.ensures.form c.in_ok-kind.ensures.reads c.in_ok-delta.ensures.reads c.in_ok-locals.ensures.reads c.in_ok-stack.ensures.reads }
