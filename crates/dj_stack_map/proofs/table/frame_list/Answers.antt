use Rattle.std.proofs.Common.{length}
use Rattle.std.proofs.lemmas.Result.{err_from_is_err_and}
use Rattle.dj_instructions.specs.Instructions.{view_instructions}
use Rattle.dj_frames.specs.Frames.{view_tags}
use Rattle.dj_stack_map.specs.StackMap.{frame_behind, spell_frame}
use Rattle.dj_stack_map.specs.Reading.{IsListedTo}
use Rattle.dj_stack_map.proofs.FrameReading.{spelled_alike}
use Rattle.dj_stack_map.proofs.Turns.{turn_more, turn_stop}
use Rattle.dj_stack_map.proofs.table.frame_list.Goals as goal

pub returns-in_err-after : goal.returns-in_err-after
returns-in_err-after c =
    let i = view_instructions c.args.instructions.now in
    let values = view_tags c.args.entry in
    let p = err_from_is_err_and c.from_residual-in_err-after.result c.from_residual-in_err-after.ensures.1 in
    rw (p.1, p.2) record {
      reads = turn_stop spell_frame (frame_behind c.args.pool.now i (length values)) (IsListedTo c.args.pool.now i values) c.args.count c.loop.counter c.args.end c.args.bytes.now c.loop.rest.now c.loop.listed c.in_err-after.field-0.0
          c.loop.invariant c.loop-test.true (c.in_err-after.ensures.reads values c.loop.invariant.items c.loop.invariant.means);
    }

pub loop-preserved : goal.loop-preserved
loop-preserved c =
    let i = view_instructions c.args.instructions.now in
    let values = view_tags c.args.entry in
    turn_more spell_frame (frame_behind c.args.pool.now i (length values)) (IsListedTo c.args.pool.now i values) c.args.count c.loop.counter c.args.bytes.now c.loop.rest.now c.in_ok-after.after.now c.loop.listed c.frame_at.new.listed
    (λ before x. spelled_alike c.args.pool.now i x) c.loop.invariant c.loop-test.true (c.in_ok-after.ensures.reads values c.loop.invariant.items c.loop.invariant.means)
