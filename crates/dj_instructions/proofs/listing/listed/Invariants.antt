use Rattle.std.proofs.Common.{length}
use Rattle.dj_instructions.specs.Instructions.{view_instructions}
use Rattle.dj_instructions.proofs.ListingReading.{IsFront}
use Rattle.dj_instructions.proofs.listing.listed.Given as goal

abbrev pub invariant-loop-rest : goal.invariant-loop-rest
invariant-loop-rest l = IsFront l.pool (length l.code) l.code (view_instructions l.found) l.rest

abbrev pub decreases-loop-rest : goal.decreases-loop-rest
decreases-loop-rest l = length l.rest
