use Rattle.std.proofs.Common.{arith}
use Rattle.dj_code.proofs.Bounds.{bad_within}
use Rattle.dj_code.proofs.reading.instructions_of.Goals as goal

pub overflow_cast-result : goal.overflow_cast-result
overflow_cast-result c =
    let broken = rw c.in-Err-Fault.field-0-is at c.in-Err-Fault.ensures.broken in
    let within = bad_within c.args.pool.now c.args.code.now c.in-Err-Fault.fault broken in
    omega (arith, c.requires.short)
