use Rattle.std.proofs.Common.{◌≡◌, Some, length, get_or, refl, sym, ap, ◌∙◌, arith}
use Rattle.std.proofs.lemmas.Bool.{both_ways}
use Rattle.std.proofs.lemmas.Option.{slice_get_read, slice_get_within, get_or_from_slice_get, same_Some, none-some}
use Rattle.std.proofs.lemmas.Slice.Eq.{bytes_eq-Decides}
use Rattle.dj_names.specs.declared.header.Header.{Header}
use Rattle.dj_headers.proofs.HeaderLemmas.{named_at, listed_place}
use Rattle.dj_headers.proofs.headers.listed_at.Goals as goal
use Rattle.dj_headers.proofs.headers.listed_at.Goals.{else-at-headers-via-then-at-headers+else-eq, else-at-headers-via-else-at-headers}

pub returns-then-eq-clause-place : goal.returns-then-eq-clause-place
returns-then-eq-clause-place c =
    let header = c.index-headers-at.result in
    named_at c.args.headers.now c.in-Some.at header (slice_get_read c.args.headers.now (length c.args.headers.now) c.in-Some.at header refl c.if-at-headers.true c.index-headers-at.is)
    ∙ ap Some (ap (λ (h : Header). h.name) c.index-headers-at.is ∙ (bytes_eq-Decides _ _).0 (sym c.eq.ensures ∙ c.if-eq.true))

pub returns-else-at-headers-clause-place : goal.returns-else-at-headers-clause-place
returns-else-at-headers-clause-place c = λ there.
    let found = listed_place c.args.headers.now c.args.heads.now c.args.class.now c.requires.places there in
    let same : c.in-Some.at ≡ found.0 = same_Some c.in-Some.at found.0 (c.in-Some.ensures.place ∙ found.4) in
    elim c.else-at-headers.branch [
      | else-at-headers-via-then-at-headers+else-eq w ↦
          let header = w.index-headers-at.result in
          let here : get_or c.args.headers.now c.in-Some.at header ≡ found.1 = ap (λ k. get_or c.args.headers.now k header) same ∙ get_or_from_slice_get c.args.headers.now found.0 found.1 header found.2 in
          both_ways w.eq.result w.if-eq.false (w.eq.ensures ∙ (bytes_eq-Decides _ _).1 (ap (λ (h : Header). h.name) here ∙ found.3))
      | else-at-headers-via-else-at-headers w ↦ (let within = slice_get_within c.args.headers.now found.0 found.1 found.2 in let past = w.if-at-headers.false in omega arith)
    ]

pub returns-in-None-clause-place : goal.returns-in-None-clause-place
returns-in-None-clause-place c = λ there.
    let found = listed_place c.args.headers.now c.args.heads.now c.args.class.now c.requires.places there in
    none-some found.0 (c.in-None.ensures.place ∙ found.4)
