use Rattle.std.proofs.Common.{arith}
use Rattle.dj_make.proofs.Room.{length_adding}
use Rattle.dj_make.proofs.file.adding.Goals as goal

pub code_content-requires-clause-long : goal.code_content-requires-clause-long
code_content-requires-clause-long c = rw (c.as_slice.ensures.value, c.in_ok-code.ensures.code) (omega (arith, length_adding c.args.k))
