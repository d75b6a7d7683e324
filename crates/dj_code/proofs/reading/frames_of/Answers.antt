use Rattle.std.proofs.Common.{arith}
use Rattle.dj_class.specs.Views.{view_method}
use Rattle.dj_instructions.specs.Instructions.{view_instructions}
use Rattle.dj_frames.specs.Frames.{entry_values}
use Rattle.dj_code.specs.ReadCode.{tables_of}
use Rattle.dj_code.proofs.Bounds.{frame_fault_within}
use Rattle.dj_code.proofs.reading.frames_of.Goals as goal

pub overflow_cast-result : goal.overflow_cast-result
overflow_cast-result c =
    let pool = c.args.class.now.pool in
    let reads = rw c.in-Err-Fault.field-0-is at c.in-Err-Fault.ensures.reads in
    let within = frame_fault_within pool c.args.content.now.code (view_instructions c.args.instructions.now) (entry_values c.args.class.now.this_class (view_method c.args.method.now)) (tables_of pool c.args.content.now) c.in-Err-Fault.fault.offset c.requires.listed c.requires.short (rw c.as_slice.ensures at reads.1) in
    omega arith
