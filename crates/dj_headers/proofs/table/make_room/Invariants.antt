use Rattle.std.proofs.Common.{◌↔◌, ◌≤◌, ℕ, ◌<◌, length}
use Rattle.dj_headers.specs.Rows.{IsSet, row_at}
use Rattle.dj_headers.proofs.table.make_room.Given as goal

abbrev pub invariant-loop-row : goal.invariant-loop-row
invariant-loop-row l = record {
  bits : (i j : ℕ) → IsSet (row_at l.rows i) j ↔ IsSet (row_at l.initial.rows i) j;
  room : (i : ℕ) → i < l.row-index → IsSet (row_at l.rows i) l.class → l.words ≤ length (row_at l.rows i);
}
