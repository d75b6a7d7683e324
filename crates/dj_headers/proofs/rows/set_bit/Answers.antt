use Rattle.std.proofs.Common.{◌≡◌, arith}
use Rattle.dj_headers.proofs.RowLemmas.{bit_added, kept_added}
use Rattle.dj_headers.proofs.rows.set_bit.Goals as goal

pub returns-clause-set : goal.returns-clause-set
returns-clause-set c =
    kept_added c.args.row.now c.widen.new.row c.set.new.self (λ j. j ≡ c.args.at) c.widen.ensures.bits
    (rw (c.set.ensures, c.as_slice.ensures) (bit_added c.widen.new.row c.args.at (let wide = c.in_ok-widen.ensures.wide in omega arith)))
