use Rattle.std.proofs.Common.{arith}
use Rattle.dj_headers.proofs.RowLemmas.{merged}
use Rattle.dj_headers.proofs.rows.merge.Goals as goal

pub returns : goal.returns
returns c = record {
  bits = merged c.args.row.now c.args.more.now c.loop-at.row (λ k below. c.loop-at.invariant.done k (omega arith)) (λ k past. c.loop-at.invariant.left k (omega arith));
}
