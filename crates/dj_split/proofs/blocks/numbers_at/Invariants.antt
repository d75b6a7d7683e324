use Rattle.std.proofs.Common.{◌≡◌, ◌++◌, length}
use Rattle.dj_split.specs.Ranges.{numbers_at}
use Rattle.dj_split.proofs.blocks.numbers_at.Given as goal

abbrev pub invariant-loop-left : goal.invariant-loop-left
invariant-loop-left l = l.numbers.items ++ numbers_at l.left l.pc ≡ numbers_at l.fn.ranges l.pc

abbrev pub decreases-loop-left : goal.decreases-loop-left
decreases-loop-left l = length l.left
