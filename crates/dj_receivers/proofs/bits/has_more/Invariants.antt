use Rattle.std.proofs.Common.{ℕ, ◌<◌, reverse}
use Rattle.dj_receivers.specs.Steps.{IsAt, IsHeld}
use Rattle.dj_receivers.proofs.bits.has_more.Given as goal

abbrev pub invariant-loop-depth : goal.invariant-loop-depth
invariant-loop-depth l = (place : ℕ) → place < l.depth → IsAt (reverse l.known) place → IsHeld (reverse l.marks) l.height place
