-- The parents of a class are those of its one header.
use Rattle.std.proofs.Common.{◌≡◌, ◌↔◌, ℕ, ◌<◌, List, Some, Contains, length, get_or, slice_get, sym, ap, subst, inl, inr, ◌∙◌}
use Rattle.std.proofs.lemmas.Bool.{cases_lt}
use Rattle.std.proofs.Math.Nat.{le_antisymm}
use Rattle.std.proofs.lemmas.Option.{slice_get-get_or, get_or_from_slice_get}
use Rattle.dj_names.specs.declared.header.Header.{Header}
use Rattle.dj_names.specs.Headers.{Name, names, HasDistinctNames, HasParent}
use Rattle.dj_headers.proofs.HeaderLemmas.{listed_name}
use Rattle.dj_headers.specs.Table.{IsParent}
use Rattle.dj_kinds.proofs.HeaderLemmas.{named_within}

-- a header that stands at a place, read there with another default
other_default : (headers : List Header) (k : ℕ) (header d : Header) → k < length headers → get_or headers k header ≡ header → get_or headers k d ≡ header
other_default headers k header d within is = get_or_from_slice_get headers k header d (slice_get-get_or headers k header within ∙ ap Some is)

module _ (headers : List Header) (at : ℕ) (class : Name) (header : Header) (distinct : HasDistinctNames headers) (listed : slice_get (names headers) at ≡ Some class) (here : header ≡ get_or headers at header) where
  within_here : at < length headers
  within_here = (named_within headers at class header listed).0

  named_here : header.name ≡ class
  named_here = ap (λ (h : Header). h.name) here ∙ (named_within headers at class header listed).1

  one_header : (k : ℕ) (other : Header) → k < length headers → get_or headers k other ≡ other → other.name ≡ class → other ≡ header
  one_header k other within is named =
      let at_k : get_or headers k header ≡ other = other_default headers k other header within is in
      elim (cases_lt k at) [
        | inl below ↦ absurd (distinct k at header below within_here (ap (λ (h : Header). h.name) at_k ∙ named ∙ sym named_here ∙ ap (λ (h : Header). h.name) here))
        | inr from ↦ elim (cases_lt at k) [
          | inl above ↦ absurd (distinct at k header above within (sym (ap (λ (h : Header). h.name) at_k ∙ named ∙ sym named_here ∙ ap (λ (h : Header). h.name) here)))
          | inr to ↦ sym at_k ∙ ap (λ (n : ℕ). get_or headers n header) (le_antisymm to from) ∙ sym here
        ]
      ]

  pub parents_here : (upper : Name) → IsParent header.superclass header.interfaces upper ↔ HasParent headers class upper
  parents_here upper = (
    λ parent. elim parent [
      | inl super ↦ inl (at, header, within_here, sym here, (named_here, super))
      | inr listed_there ↦ inr (at, header, within_here, sym here, (named_here, listed_there))
    ],
    λ has. elim has [
      | inl up ↦ inl (subst (λ (h : Header). h.superclass ≡ Some upper) (one_header up.0 up.1 up.2 up.3 up.4.0) up.4.1)
      | inr up ↦ inr (subst (λ (h : Header). Contains h.interfaces upper) (one_header up.0 up.1 up.2 up.3 up.4.0) up.4.1)
    ],
  )

-- a class without a header has none
pub parents_none : (headers : List Header) (class : Name) → ¬ Contains (names headers) class → (upper : Name) → ¬ HasParent headers class upper
parents_none headers class none upper (inl up) = none (subst (Contains (names headers)) up.4.0 (listed_name headers up.0 up.1 (slice_get-get_or headers up.0 up.1 up.2 ∙ ap Some up.3)))
parents_none headers class none upper (inr up) = none (subst (Contains (names headers)) up.4.0 (listed_name headers up.0 up.1 (slice_get-get_or headers up.0 up.1 up.2 ∙ ap Some up.3)))
