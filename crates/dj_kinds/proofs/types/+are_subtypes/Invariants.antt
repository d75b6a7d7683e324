use Rattle.std.proofs.Common.{length}
use Rattle.dj_kinds.proofs.types.+are_subtypes.Given as goal

abbrev pub decreases-are_subtypes : goal.decreases-are_subtypes
decreases-are_subtypes l = length l.from.now
