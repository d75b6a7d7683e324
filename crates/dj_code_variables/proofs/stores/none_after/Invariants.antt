use Rattle.std.proofs.Common.{◌≡◌, ℕ, None, length}
use Rattle.std.specs.Prelude.{slice_index_or}
use Rattle.dj_code_variables.proofs.stores.none_after.Given as goal

abbrev pub invariant-loop : goal.invariant-loop
invariant-loop l = record { room : length l.after ≡ l.counter; none : (pc : ℕ) → slice_index_or l.after pc None ≡ None }
