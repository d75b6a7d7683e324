use Rattle.std.proofs.Common.{◌≡◌, ℕ, length}
use Rattle.dj_starts.specs.Marks.{IsMarked}
use Rattle.dj_starts.proofs.marks.no_marks.Given as goal

abbrev pub invariant-loop : goal.invariant-loop
invariant-loop l = record { len : length l.marks ≡ l.counter; none : (pc : ℕ) → IsMarked l.marks pc → ⊥ }
