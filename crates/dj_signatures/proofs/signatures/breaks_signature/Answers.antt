use Rattle.std.proofs.Common.{inl, inr}
use Rattle.std.proofs.lemmas.Bool.{both_ways}
use Rattle.dj_signatures.proofs.signatures.breaks_signature.Goals as goal

pub returns-then-is_rivalled : goal.returns-then-is_rivalled
returns-then-is_rivalled c = record {
  breaks = (
    λ yes. elim (c.is_rivalled.ensures.rival.0 c.if-is_rivalled.true) [ inl twin ↦ inl twin | inr uncounted ↦ inr (inl uncounted) ],
    λ breaks. c.if-is_rivalled.true,
  );
}

pub returns-else-is_rivalled : goal.returns-else-is_rivalled
returns-else-is_rivalled c = record {
  breaks = (
    λ yes. inr (inr (c.breaks_alone.ensures.breaks.0 yes)),
    λ breaks. elim breaks [
      | inl twin ↦ absurd (both_ways c.is_rivalled.result c.if-is_rivalled.false (c.is_rivalled.ensures.rival.1 (inl twin)))
      | inr other ↦ elim other [
        | inl uncounted ↦ absurd (both_ways c.is_rivalled.result c.if-is_rivalled.false (c.is_rivalled.ensures.rival.1 (inr uncounted)))
        | inr alone ↦ c.breaks_alone.ensures.breaks.1 alone
      ]
    ],
  );
}
