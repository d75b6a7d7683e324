use Rattle.std.proofs.Common.{◌≡◌, ◌<◌, ℕ, length}
use Rattle.dj_starts.specs.Marks.{IsMarked}
use Rattle.dj_receivers.proofs.calls.all_marks.Given as goal

abbrev pub invariant-loop : goal.invariant-loop
invariant-loop l = record { size : length l.marks ≡ l.counter; all : (pc : ℕ) → pc < l.counter → IsMarked l.marks pc }
