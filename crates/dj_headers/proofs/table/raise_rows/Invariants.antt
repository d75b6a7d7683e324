use Rattle.std.proofs.Common.{◌≡◌, ◌↔◌, ◌⊎◌, ◌≤◌, ℕ, ◌<◌}
use Rattle.dj_headers.specs.Rows.{IsSet, row_at}
use Rattle.dj_headers.proofs.table.raise_rows.Given as goal

abbrev pub invariant-loop-row : goal.invariant-loop-row
invariant-loop-row l = record {
  done : (i j : ℕ) → i < l.row-index → IsSet (row_at l.rows i) j ↔ (IsSet (row_at l.initial.rows i) j ⊎ (IsSet (row_at l.initial.rows i) l.class × IsSet l.up j));
  left : (i : ℕ) → l.row-index ≤ i → row_at l.rows i ≡ row_at l.initial.rows i;
}
