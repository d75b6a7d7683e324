use Rattle.std.proofs.Common.{length}
use Rattle.dj_kinds.proofs.types.+are_assignable.Given as goal

abbrev pub decreases-are_assignable : goal.decreases-are_assignable
decreases-are_assignable l = length l.from.now
