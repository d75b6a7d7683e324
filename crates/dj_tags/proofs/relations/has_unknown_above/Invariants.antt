use Rattle.dj_tags.proofs.Superclasses.{IsWalk}
use Rattle.dj_tags.proofs.relations.has_unknown_above.Given as goal

abbrev pub invariant-loop : goal.invariant-loop
invariant-loop l = IsWalk l.headers l.class l.upper l.index
