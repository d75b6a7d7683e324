use Rattle.std.proofs.Common.{◌≡◌, length}
use Rattle.dj_syntax.specs.Trees.{view_catches}
use Rattle.dj_reach.specs.Reach.{are_in_order}
use Rattle.dj_reach.proofs.clauses.are_in_order.Given as goal

abbrev pub invariant-loop-rest : goal.invariant-loop-rest
invariant-loop-rest l = are_in_order l.headers (view_catches l.rest) ≡ are_in_order l.headers (view_catches l.catches)

abbrev pub decreases-loop-rest : goal.decreases-loop-rest
decreases-loop-rest l = length l.rest
