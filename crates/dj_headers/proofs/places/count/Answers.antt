use Rattle.std.proofs.Common.{arith}
use Rattle.dj_headers.specs.Table.{count}
use Rattle.dj_headers.proofs.places.count.Goals as goal

pub returns : goal.returns
unfolding count
returns c = record { count = (let first = c.len.ensures.len in let other = c.len-2.ensures.len in omega arith) }
