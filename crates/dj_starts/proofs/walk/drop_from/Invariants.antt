use Rattle.std.proofs.Common.{length}
use Rattle.dj_starts.proofs.Dropping.{IsDropped}
use Rattle.dj_starts.proofs.walk.drop_from.Given as goal

abbrev pub invariant-loop-numbers : goal.invariant-loop-numbers
invariant-loop-numbers l = IsDropped l.low l.initial.numbers l.numbers l.found

abbrev pub decreases-loop-numbers : goal.decreases-loop-numbers
decreases-loop-numbers l = length l.numbers
