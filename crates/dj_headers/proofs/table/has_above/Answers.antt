use Rattle.std.proofs.Common.{sym}
use Rattle.std.proofs.lemmas.Bool.{false≢true}
use Rattle.dj_headers.proofs.PlaceLemmas.{apart_names}
use Rattle.dj_headers.proofs.TableLemmas.{marked, no_place_below, no_place_above}
use Rattle.dj_headers.proofs.table.has_above.Goals as goal

pub returns-in-None : goal.returns-in-None
returns-in-None c = record {
  above = λ headers index table. (
    λ no. absurd (false≢true no),
    λ above. absurd (no_place_below headers c.args.places.now c.args.rows.now c.args.lower.now c.args.upper.now table (apart_names _ _ c.eq.result c.eq.ensures c.if-eq.false) (sym c.in-None.ensures.place) above),
  );
}

pub returns-in-None-place : goal.returns-in-None-place
returns-in-None-place c = record {
  above = λ headers index table. (
    λ no. absurd (false≢true no),
    λ above. absurd (no_place_above headers c.args.places.now c.args.rows.now c.args.lower.now c.args.upper.now table (apart_names _ _ c.eq.result c.eq.ensures c.if-eq.false) (sym c.in-None-place.ensures.place) above),
  );
}

pub returns-in-Some-place : goal.returns-in-Some-place
returns-in-Some-place c = record {
  above = λ headers index table.
      let m = marked headers c.args.places.now c.args.rows.now c.args.lower.now c.args.upper.now c.in-Some.from c.in-Some-place.to index table
      (apart_names _ _ c.eq.result c.eq.ensures c.if-eq.false) (sym c.in-Some.ensures.place) (sym c.in-Some-place.ensures.place) in
      (λ yes. m.0 (c.is_above.ensures.set.0 yes), λ above. c.is_above.ensures.set.1 (m.1 above));
}
