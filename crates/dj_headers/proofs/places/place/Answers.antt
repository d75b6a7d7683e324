use Rattle.std.proofs.Common.{nat_eq, Some, None, sym, ap, ◌∙◌}
use Rattle.std.proofs.lemmas.Slice.Eq.{bytes_eq-Decides}
use Rattle.indexmap.specs.IndexMap.{get}
use Rattle.dj_headers.proofs.PlaceLemmas.{place-by, place_by-same, place_by-other, apart_names}
use Rattle.dj_headers.proofs.places.place.Goals as goal

pub returns-then-eq : goal.returns-then-eq
returns-then-eq c =
    let places = c.args.places.now in
    let first = c.in-Some.first.now in
    let is = ap (get nat_eq places.firsts) (sym c.digest.ensures.digest) ∙ sym c.in-Some.ensures.value in
    record { place = sym (place-by places c.args.name.now (Some first) is ∙ place_by-same first c.args.name.now _ ((bytes_eq-Decides _ _).0 (sym c.eq.ensures ∙ c.if-eq.true))) }

pub returns-else-eq : goal.returns-else-eq
returns-else-eq c =
    let places = c.args.places.now in
    let first = c.in-Some.first.now in
    let is = ap (get nat_eq places.firsts) (sym c.digest.ensures.digest) ∙ sym c.in-Some.ensures.value in
    record {
      place = c.copied.ensures ∙ c.get-else-eq.ensures.value
          ∙ sym (place-by places c.args.name.now (Some first) is ∙ place_by-other first c.args.name.now _ (apart_names _ _ c.eq.result c.eq.ensures c.if-eq.false));
    }

pub returns-in-None : goal.returns-in-None
returns-in-None c =
    let places = c.args.places.now in
    let is = ap (get nat_eq places.firsts) (sym c.digest.ensures.digest) ∙ sym c.in-None.ensures.value in
    record { place = c.copied-in-None.ensures ∙ c.get-in-None.ensures.value ∙ sym (place-by places c.args.name.now None is) }
