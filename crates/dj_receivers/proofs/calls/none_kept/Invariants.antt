use Rattle.std.proofs.Common.{◌≡◌, ℕ, length, None}
use Rattle.dj_receivers.specs.Walks.{kept}
use Rattle.dj_receivers.proofs.calls.none_kept.Given as goal

abbrev pub invariant-loop : goal.invariant-loop
invariant-loop l = record { size : length l.table ≡ l.counter; none : (pc : ℕ) → kept l.table pc ≡ None }
