use Rattle.std.proofs.Common.{arith}
use Rattle.std.proofs.lemmas.Bool.{ltb-true}
use Rattle.dj_headers.proofs.RowLemmas.{set_test, none_past}
use Rattle.dj_headers.proofs.rows.is_set.Goals as goal

pub returns-then-at-row : goal.returns-then-at-row
returns-then-at-row c = record { set = set_test c.args.row.now c.args.at }

pub returns-else-at-row : goal.returns-else-at-row
returns-else-at-row c = record {
  set = (
    λ is. absurd (let h = ltb-true _ _ is in omega arith),
    λ is. absurd (none_past c.args.row.now c.args.at c.if-at-row.false is),
  );
}
