use Rattle.std.proofs.Common.{◌≡◌, length}
use Rattle.dj_static.specs.Scopes.{scope_of}
use Rattle.dj_scopes.specs.Keeping.{scope_back}
use Rattle.dj_scopes.proofs.keeping.put_back.Given as goal

abbrev pub invariant-loop-one : goal.invariant-loop-one
invariant-loop-one l = scope_back l.left (scope_of l.scope) ≡ scope_back l.fn.kept (scope_of l.fn.scope)

abbrev pub decreases-loop-one : goal.decreases-loop-one
decreases-loop-one l = length l.left
