use Rattle.std.proofs.Common.{refl, sym, subst}
use Rattle.std.proofs.lemmas.Bool.{both_ways}
use Rattle.dj_signatures.specs.Standing.{twin_of, Repeats}
use Rattle.dj_signatures.proofs.RivalLemmas.{twin_by, twin_there}
use Rattle.dj_signatures.proofs.rivals.has_twin.Goals as goal

pub returns-in-Some : goal.returns-in-Some
returns-in-Some c = record {
  twin = λ methods keys at method are repeats is has.
      twin_by methods keys at method c.args.key.now are is has c.in-Some.again
      (subst (Repeats keys (twin_of c.args.key.now)) (sym (rw c.twin_of.ensures.pair at c.in-Some.ensures.value)) (repeats (twin_of c.args.key.now)));
}

pub returns-in-None : goal.returns-in-None
returns-in-None c = record {
  twin = λ methods keys at method are repeats is has. (
    λ yes. absurd (both_ways _ refl yes),
    λ twin. absurd (twin_there methods keys at method c.args.key.now are is has
        (subst (Repeats keys (twin_of c.args.key.now)) (sym (rw c.twin_of.ensures.pair at c.in-None.ensures.value)) (repeats (twin_of c.args.key.now)))),
  );
}
