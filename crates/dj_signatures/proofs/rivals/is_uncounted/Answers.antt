use Rattle.std.proofs.Common.{refl, sym, subst}
use Rattle.std.proofs.lemmas.Bool.{both_ways}
use Rattle.dj_signatures.specs.Standing.{alike_of, Leads}
use Rattle.dj_signatures.proofs.RivalLemmas.{uncounted_by, leader_there}
use Rattle.dj_signatures.proofs.rivals.is_uncounted.Goals as goal

pub returns-in-Some : goal.returns-in-Some
returns-in-Some c = record {
  uncounted = λ methods keys method are leads is has.
      uncounted_by methods keys c.args.at method c.args.key.now are is has c.in-Some.leader.at c.in-Some.leader.plain c.is_elsewhere.result
      (subst (Leads keys (alike_of c.args.key.now)) (sym (rw c.alike_of.ensures.pair at c.in-Some.ensures.value)) (leads (alike_of c.args.key.now))) c.is_elsewhere.ensures.elsewhere;
}

pub returns-in-None : goal.returns-in-None
returns-in-None c = record {
  uncounted = λ methods keys method are leads is has. (
    λ yes. absurd (both_ways _ refl yes),
    λ uncounted. absurd (leader_there methods keys c.args.at method c.args.key.now are is has
        (subst (Leads keys (alike_of c.args.key.now)) (sym (rw c.alike_of.ensures.pair at c.in-None.ensures.value)) (leads (alike_of c.args.key.now)))),
  );
}
