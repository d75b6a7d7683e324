use Rattle.std.proofs.Common.{◌+◌, length}
use Rattle.dj_static.specs.Walks.{unmet}
use Rattle.dj_static.proofs.WalkLemmas.{Walking}
use Rattle.dj_static.proofs.walks.sole_owner.Given as goal

abbrev pub invariant-loop-place : goal.invariant-loop-place
invariant-loop-place l = Walking l.classes.headers.now l.classes.members.now l.class l.name l.walk

abbrev pub decreases-loop-place : goal.decreases-loop-place
decreases-loop-place l = unmet l.walk.met + length l.walk.waiting
