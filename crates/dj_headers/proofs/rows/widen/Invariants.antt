use Rattle.std.proofs.Common.{◌≡◌, ℕ, length, get_or}
use Rattle.dj_headers.proofs.rows.widen.Given as goal

abbrev pub invariant-loop : goal.invariant-loop
invariant-loop l = record { len : length l.row ≡ l.counter; words : (k : ℕ) → get_or l.row k 0 ≡ get_or l.initial.row k 0 }
