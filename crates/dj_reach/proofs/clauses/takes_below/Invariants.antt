use Rattle.std.proofs.Common.{◌≡◌, drop}
use Rattle.dj_syntax.specs.Trees.{view_catches}
use Rattle.dj_reach.specs.Reach.{takes_below}
use Rattle.dj_reach.proofs.clauses.takes_below.Given as goal

abbrev pub invariant-loop-catch : goal.invariant-loop-catch
invariant-loop-catch l = takes_below l.headers l.class (view_catches (drop l.catch-index l.catches)) ≡ takes_below l.headers l.class (view_catches l.catches)
