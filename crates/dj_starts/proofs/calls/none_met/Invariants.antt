use Rattle.std.proofs.Common.{◌≡◌, ℕ, length, slice_index_or}
use Rattle.dj_starts.specs.declared.calls.Met.TheVariants.{No}
use Rattle.dj_starts.proofs.calls.none_met.Given as goal

abbrev pub invariant-loop : goal.invariant-loop
invariant-loop l = record { len : length l.calls ≡ l.counter; none : (start : ℕ) → slice_index_or l.calls start No ≡ No }
