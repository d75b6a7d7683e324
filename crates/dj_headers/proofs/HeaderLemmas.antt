-- Headers by their places in the list.
use Rattle.std.proofs.Common.{◌≡◌, ◌≢◌, ◌⊎◌, ◌↔◌, ℕ, zero, suc, ◌<◌, not, nat_eq, IsTrue, IsBitSet, List, [], ◌∷◌, ◌++◌, length, get_or, take, slice_get, Option, Some, None, IsSomeAnd, Contains, refl, sym, ap, subst, inl, inr, ◌∙◌, arith}
use Rattle.std.specs.Prelude.{option_map}
use Rattle.std.proofs.lemmas.Bool.{cases_Bool, cases_lt, eqb-true, eqb-false, false≢true}
use Rattle.std.proofs.lemmas.List.{length-map, get_or-take, length-take-le}
use Rattle.std.proofs.lemmas.List.Quantifiers.{all_pairs_push}
use Rattle.std.proofs.lemmas.Option.{slice_get-map, slice_get_within, slice_get-get_or, get_or_from_slice_get, same_Some, none-some}
use Rattle.dj_names.specs.declared.header.Header.{Header}
use Rattle.dj_names.specs.Headers.{Name, names, HasDistinctNames, IsInterface}
use Rattle.dj_headers.specs.declared.roots.Roots.{Roots}
use Rattle.dj_headers.specs.Roots.{AreRoots, KnowsRoots}
use Rattle.dj_headers.specs.declared.places.Places.{Places}
use Rattle.dj_headers.specs.Table.{place_of, Keeps, Gains, HasPlaces, AreTables, KeepsTables}

-- a header at a place, with its name
record IsAt (headers : List Header) (name : Name) : Type 0 where
  at : ℕ
  header : Header
  is : slice_get headers at ≡ Some header
  named : header.name ≡ name

pub named_at : (headers : List Header) (at : ℕ) (header : Header) → slice_get headers at ≡ Some header → slice_get (names headers) at ≡ Some header.name
named_at headers at header is = slice_get-map (λ (h : Header). h.name) headers at ∙ ap (option_map (λ (h : Header). h.name)) is

header_at : (headers : List Header) (name : Name) → Contains (names headers) name → IsAt headers name
header_at headers name (at, within, is) =
    let inside : at < length headers = omega (arith, length-map headers (λ (h : Header). h.name)) in
    at_place headers name at inside is
  where
    at_place : (headers : List Header) (name : Name) (at : ℕ) → at < length headers → get_or (names headers) at name ≡ name → IsAt headers name
    at_place [] name at within is = absurd (omega arith)
    at_place (h ∷ headers) name zero within is = record { at = 0; header = h; is = refl; named = is }
    at_place (h ∷ headers) name (suc at) within is =
        let found = at_place headers name at (omega arith) is in
        record { at = suc found.at; header = found.header; is = found.is; named = found.named }

pub listed_name : (headers : List Header) (at : ℕ) (header : Header) → slice_get headers at ≡ Some header → Contains (names headers) header.name
listed_name headers at header is =
    (at, omega (arith, slice_get_within headers at header is, length-map headers (λ (h : Header). h.name)), get_or_from_slice_get (names headers) at header.name header.name (named_at headers at header is))

-- the place of a name that is listed
pub listed_place : (headers : List Header) (heads : Places) (name : Name) → HasPlaces headers heads → Contains (names headers) name
    → (at : ℕ) × (header : Header) × (slice_get headers at ≡ Some header) × (header.name ≡ name) × (place_of heads name ≡ Some at)
listed_place headers heads name places there =
    let found = header_at headers name there in
    (found.at, found.header, found.is, found.named, ap (place_of heads) (sym found.named) ∙ places.each found.at found.header found.is)

slice_get-push_cases : {A : Type 0} (xs : List A) (y : A) (at : ℕ) (z : A) → slice_get (xs ++ y ∷ []) at ≡ Some z → (slice_get xs at ≡ Some z) ⊎ ((at ≡ length xs) × (y ≡ z))
slice_get-push_cases [] y zero z is = inr (refl, same_Some y z is)
slice_get-push_cases [] y (suc at) z is = absurd (none-some z is)
slice_get-push_cases (x ∷ xs) y zero z is = inl is
slice_get-push_cases (x ∷ xs) y (suc at) z is = elim (slice_get-push_cases xs y at z is) [ inl before ↦ inl before | inr last ↦ inr (ap suc last.0, last.1) ]

-- a place for a name that isn't listed changes none of those that are
pub HasPlaces-gains : (headers : List Header) (old new : Places) (name : Name) (at : ℕ) → ¬ Contains (names headers) name → Gains old new name at → HasPlaces headers old → HasPlaces headers new
HasPlaces-gains headers old new name at fresh given places = record {
  each = λ i header is.
      given.apart header.name (λ same. fresh (subst (λ (n : Name). Contains (names headers) n) (sym same) (listed_name headers i header is))) ∙ places.each i header is;
}

pub HasPlaces-push : (headers : List Header) (header : Header) (old new : Places) → ¬ Contains (names headers) header.name → Gains old new header.name (length headers) → HasPlaces headers old → HasPlaces (headers ++ header ∷ []) new
HasPlaces-push headers header old new fresh given places = record {
  each = λ at other is. elim (slice_get-push_cases headers header at other is) [
    | inl before ↦ (HasPlaces-gains headers old new header.name (length headers) fresh given places).each at other before
    | inr last ↦ ap (λ (h : Header). place_of new h.name) (sym last.1) ∙ given.here ∙ ap Some (sym last.0)
  ];
}

pub HasPlaces-keeps : (headers : List Header) (old new : Places) → Keeps old new → HasPlaces headers old → HasPlaces headers new
HasPlaces-keeps headers old new keeps places = record { each = λ at header is. keeps.places header.name ∙ places.each at header is }

-- ---- distinct names

pub HasDistinctNames-push : (headers : List Header) (header : Header) → HasDistinctNames headers → ¬ Contains (names headers) header.name → HasDistinctNames (headers ++ header ∷ [])
HasDistinctNames-push headers header distinct fresh =
    all_pairs_push (λ (first second : Header). first.name ≢ second.name) headers header distinct
    (λ k d within same. fresh (subst (λ (n : Name). Contains (names headers) n) same (listed_name headers k (get_or headers k d) (slice_get-get_or headers k d within))))

-- no header before a header has its name
pub none_before : (headers : List Header) (i : ℕ) (header : Header) → HasDistinctNames headers → i < length headers → header ≡ get_or headers i header → ¬ Contains (names (take i headers)) header.name
none_before headers i header distinct within is there =
    let found = header_at (take i headers) header.name there in
    let low : found.at < i = omega (arith, slice_get_within (take i headers) found.at found.header found.is, length-take-le i headers (omega arith)) in
    let earlier : get_or headers found.at header ≡ found.header = sym (get_or-take i headers found.at header low) ∙ get_or_from_slice_get (take i headers) found.at found.header header found.is in
    distinct found.at i header low within (ap (λ (h : Header). h.name) earlier ∙ found.named ∙ ap (λ (h : Header). h.name) is)

-- ---- interfaces

pub bit_set : (bits : ℕ) → IsTrue (not (nat_eq bits 0)) ↔ (bits ≢ 0)
bit_set bits = elim (cases_Bool (nat_eq bits 0)) [
  | inl is ↦ (λ yes. absurd (false≢true (sym (ap not is) ∙ yes)), λ ne. absurd (ne (eqb-true bits 0 is)))
  | inr isnt ↦ (λ yes same. eqb-false bits 0 isnt same, λ ne. ap not isnt)
]

pub interface_listed : (headers : List Header) (class : Name) → IsInterface headers class → Contains (names headers) class
interface_listed headers class any =
    subst (λ (n : Name). Contains (names headers) n) any.4.0 (listed_name headers any.0 any.1 (slice_get-get_or headers any.0 any.1 any.2 ∙ ap Some any.3))

-- the header at a class's place tells whether it is an interface
module _ (headers : List Header) (class : Name) (at : ℕ) (header : Header) (distinct : HasDistinctNames headers) (listed : slice_get (names headers) at ≡ Some class) (within : at < length headers)
    (here : header ≡ get_or headers at header) where
  header_is : slice_get headers at ≡ Some header
  header_is = slice_get-get_or headers at header within ∙ ap Some (sym here)

  name_is : header.name ≡ class
  name_is = same_Some header.name class (sym (named_at headers at header header_is) ∙ listed)

  same_header : (i : ℕ) (other : Header) → slice_get headers i ≡ Some other → other.name ≡ class → other ≡ header
  same_header i other is named =
      let inside = slice_get_within headers i other is in
      let there : get_or headers i header ≡ other = get_or_from_slice_get headers i other header is in
      elim (cases_lt i at) [
        | inl low ↦ absurd (distinct i at header low within (ap (λ (h : Header). h.name) there ∙ named ∙ sym name_is ∙ ap (λ (h : Header). h.name) here))
        | inr high ↦ elim (cases_lt at i) [
          | inl above ↦ absurd (distinct at i header above inside (ap (λ (h : Header). h.name) (sym here) ∙ name_is ∙ sym named ∙ ap (λ (h : Header). h.name) (sym there)))
          | inr below ↦ (let same : i ≡ at = omega (arith, high, below) in same_Some other header (sym is ∙ ap (slice_get headers) same ∙ header_is))
        ]
      ]

  pub interface_at : IsInterface headers class ↔ IsBitSet header.flags 9
  interface_at = (
    λ any. subst (λ (h : Header). IsBitSet h.flags 9) (same_header any.0 any.1 (slice_get-get_or headers any.0 any.1 any.2 ∙ ap Some any.3) any.4.0) any.4.1,
    λ bit. (at, header, within, sym here, (name_is, bit)),
  )

-- ---- a push

knows_some : (headers : List Header) (roots : Option Roots) → IsSomeAnd roots AreRoots → KnowsRoots headers roots
knows_some headers None none = absurd none
knows_some headers (Some roots) known = known

module _ (headers : List Header) (header : Header) (old new : Places) (name : Name) (at : ℕ) (fresh : ¬ Contains (names headers) header.name) (same : name ≡ header.name)
    (gains : Gains old new name at) where
  given : Gains old new header.name at
  given = subst (λ (n : Name). Gains old new n at) same gains

  pub KeepsTables-stays : (places : Places) (above lines : List (List ℕ)) (roots : Option Roots) → HasDistinctNames headers → HasPlaces headers old → AreTables headers places above lines → KnowsRoots headers roots → KeepsTables headers new places above lines roots
  KeepsTables-stays places above lines roots distinct in_list tables known =
      record { distinct = distinct; in_list = HasPlaces-gains headers old new header.name at fresh given in_list; tables = tables; known = known }

  pub KeepsTables-push : (places : Places) (above lines : List (List ℕ)) (roots roots' : Option Roots) → at ≡ length headers → HasDistinctNames headers → HasPlaces headers old → AreTables (headers ++ header ∷ []) places above lines
      → IsSomeAnd roots AreRoots → roots' ≡ roots → KeepsTables (headers ++ header ∷ []) new places above lines roots'
  KeepsTables-push places above lines roots roots' last distinct in_list tables known same = record {
    distinct = HasDistinctNames-push headers header distinct fresh;
    in_list = HasPlaces-push headers header old new fresh (subst (Gains old new header.name) last given) in_list;
    tables = tables;
    known = rw same (knows_some (headers ++ header ∷ []) roots known);
  }
