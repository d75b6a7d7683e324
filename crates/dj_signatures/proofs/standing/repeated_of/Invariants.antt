use Rattle.std.proofs.Common.{ℕ, take}
use Rattle.std.specs.BTreeMap.{get}
use Rattle.dj_signatures.specs.Standing.{pair_cmp, Repeats}
use Rattle.dj_signatures.proofs.standing.repeated_of.Given as goal

abbrev pub invariant-loop-key : goal.invariant-loop-key
invariant-loop-key l = (pair : ℕ × ℕ) → Repeats (take l.key-index l.keys) pair (get pair_cmp l.repeated pair)
