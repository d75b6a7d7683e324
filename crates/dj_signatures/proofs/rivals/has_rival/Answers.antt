use Rattle.std.proofs.Common.{inl, inr}
use Rattle.std.proofs.lemmas.Bool.{both_ways}
use Rattle.dj_signatures.proofs.rivals.has_rival.Goals as goal

pub returns-then-has_twin : goal.returns-then-has_twin
returns-then-has_twin c = record {
  rival = λ methods keys method are repeats leads is has. (
    λ yes. inl ((c.has_twin.ensures.twin methods keys c.args.at method are repeats is has).0 c.if-has_twin.true),
    λ rival. c.if-has_twin.true,
  );
}

pub returns-else-has_twin : goal.returns-else-has_twin
returns-else-has_twin c = record {
  rival = λ methods keys method are repeats leads is has. (
    λ yes. inr ((c.is_uncounted.ensures.uncounted methods keys method are leads is has).0 yes),
    λ rival. elim rival [
      | inl twin ↦ absurd (both_ways c.has_twin.result c.if-has_twin.false ((c.has_twin.ensures.twin methods keys c.args.at method are repeats is has).1 twin))
      | inr uncounted ↦ (c.is_uncounted.ensures.uncounted methods keys method are leads is has).1 uncounted
    ],
  );
}
