use Rattle.std.proofs.Common.{◌≡◌}
use Rattle.dj_headers.specs.Rows.{IsSet, row_at}
use Rattle.dj_headers.proofs.RowLemmas.{both_added}
use Rattle.dj_headers.proofs.rows.join_row.Goals as goal

pub returns : goal.returns
returns c = record {
  bits =
      both_added c.args.up.now c.add_row.new.up c.set_bit.new.row (λ j. IsSet (row_at c.args.rows.now c.args.at) j) (λ j. j ≡ c.args.at) c.in_ok-add_row.ensures.bits c.in_ok-set_bit.ensures.set;
}
