use Rattle.std.proofs.Common.{arith}
use Rattle.dj_core.proofs.TableTests.{row_of}
use Rattle.dj_core.proofs.rows.row_at.Goals as goal

pub returns : goal.returns
returns c = record { row = row_of c.rows.result.now c.args.at _ c.rows.ensures.table (omega arith) }
