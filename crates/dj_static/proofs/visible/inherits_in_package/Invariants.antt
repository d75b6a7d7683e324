use Rattle.dj_kinds.proofs.InheritLemmas.{IsWalk}
use Rattle.dj_static.proofs.visible.inherits_in_package.Given as goal

abbrev pub invariant-loop : goal.invariant-loop
invariant-loop l = IsWalk l.headers l.owner l.class l.at l.counter
