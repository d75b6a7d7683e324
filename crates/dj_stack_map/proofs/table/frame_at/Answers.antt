use Rattle.std.proofs.Common.{[], ◌∷◌, ◌++◌, length}
use Rattle.dj_layout.specs.Passes.{asked}
use Rattle.dj_instructions.specs.declared.kinds.BadKind.TheVariants as kind
use Rattle.dj_instructions.specs.Instructions.{view_instructions}
use Rattle.dj_stack_map.specs.StackMap.{RawFrame, Follows, frame_with, last_offset, tag}
use Rattle.dj_stack_map.specs.Reading.{IsListedTo}
use Rattle.dj_stack_map.proofs.TableReading.{told_behind, read_told}
use Rattle.dj_stack_map.proofs.table.frame_at.Goals as goal

pub returns-in-Ok : goal.returns-in-Ok
returns-in-Ok c =
    let i = view_instructions c.args.instructions.now in
    record { reads = λ values before h. read_told (asked (frame_with (tag c.args.pool.now i)) (Follows i (length values) before) kind.Frame) (λ (raw : RawFrame) now. IsListedTo c.args.pool.now i values (before ++ raw ∷ []) now) (last_offset before) c.args.bytes.now c.next_at.new.listed c.in-Ok.rest.now (c.in-Ok.ensures.reads values before h) }

pub returns-in-Err-Fault : goal.returns-in-Err-Fault
returns-in-Err-Fault c =
    let i = view_instructions c.args.instructions.now in
    record { reads = λ values before h. told_behind c.args.pool.now i values before c.args.listed.now h c.args.end c.args.bytes.now c.in-Err-Fault.field-0-0 c.fault_behind.result (rw c.in-Err-Fault.field-0-is at (c.in-Err-Fault.ensures.reads values before h)) c.fault_behind.ensures.fault }
