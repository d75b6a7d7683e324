use Rattle.std.proofs.Common.{◌≡◌, ℕ, ◌<◌, ◌≤◌, length, get_or}
use Rattle.std.specs.Prelude.{bit_or}
use Rattle.dj_headers.proofs.rows.merge.Given as goal

abbrev pub invariant-loop-at : goal.invariant-loop-at
invariant-loop-at l = record {
  len : length l.row ≡ length l.initial.row;
  done : (k : ℕ) → k < l.at → get_or l.row k 0 ≡ bit_or (get_or l.initial.row k 0) (get_or l.more k 0);
  left : (k : ℕ) → l.at ≤ k → get_or l.row k 0 ≡ get_or l.initial.row k 0;
}
