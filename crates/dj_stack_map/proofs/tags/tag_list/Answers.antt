use Rattle.std.proofs.Common.{ap, ◌∙◌}
use Rattle.std.specs.List.{AllZip}
use Rattle.std.proofs.lemmas.List.{map_push}
use Rattle.std.proofs.lemmas.Result.{err_from_is_err_and}
use Rattle.dj_layout.proofs.Loops.{as_more, as_stop}
use Rattle.dj_instructions.specs.Instructions.{view_instructions}
use Rattle.dj_stack_map.proofs.FrameReading.{none_as}
use Rattle.dj_frames.specs.Frames.{view_tag, view_tags}
use Rattle.dj_stack_map.specs.StackMap.{IsTagOf, tag}
use Rattle.dj_stack_map.proofs.tags.tag_list.Goals as goal

pub loop-init : goal.loop-init
loop-init c = let i = view_instructions c.args.instructions.now in rw (c.from_vec-found.ensures, c.in_ok-with_capacity.ensures.items) (none_as (tag c.args.pool.now i) (IsTagOf c.args.pool.now i) c.args.bytes.now)

pub loop-preserved : goal.loop-preserved
loop-preserved c =
    let i = view_instructions c.args.instructions.now in
    as_more (tag c.args.pool.now i) (IsTagOf c.args.pool.now i) c.loop.counter c.args.bytes.now c.loop.rest.now c.in_ok-tag.after.now (view_tags c.loop.found) (view_tags c.push.new.self) (view_tag c.in_ok-tag.tag) c.loop.invariant c.in_ok-tag.ensures.reads
    (ap view_tags c.in_ok-push.ensures.ok ∙ map_push view_tag c.loop.found c.in_ok-tag.tag)

pub returns-in_err-tag : goal.returns-in_err-tag
returns-in_err-tag c =
    let i = view_instructions c.args.instructions.now in
    let p = err_from_is_err_and c.from_residual-in_err-tag.result c.from_residual-in_err-tag.ensures.1 in
    rw (p.1, p.2) record { reads = as_stop (tag c.args.pool.now i) (AllZip (IsTagOf c.args.pool.now i)) c.loop.counter c.args.count c.args.end c.args.bytes.now c.loop.rest.now (view_tags c.loop.found) c.in_err-tag.field-0.0 c.loop-test.true c.loop.invariant c.in_err-tag.ensures.reads }
