use Rattle.std.proofs.Common.{inl, inr, sym, ap, ◌∙◌}
use Rattle.std.proofs.lemmas.Option.{same_Some}
use Rattle.dj_headers.specs.Table.{place_of}
use Rattle.dj_headers.proofs.PlaceLemmas.{HasPlace-extends}
use Rattle.dj_headers.proofs.places.learn_parents.Goals as goal

pub returns-in_ok-learn-in-Some-clause-known : goal.returns-in_ok-learn-in-Some-clause-known
returns-in_ok-learn-in-Some-clause-known c = λ name parent. elim parent [
  | inl super ↦ record { at = c.in_ok-learn-in-Some.field-0; is = ap (place_of c.learn.new.places) (same_Some name c.in-Some.superclass (sym super ∙ c.in-Some.is)) ∙ c.in_ok-learn-in-Some.ensures.place }
  | inr interface ↦ HasPlace-extends c.learn_all.new.places c.learn.new.places name c.learn.ensures.extends (c.in_ok-learn_all.ensures.known name interface)
]
