-- The header of a class by its place.
use Rattle.std.proofs.Common.{◌≡◌, ◌≢◌, ℕ, zero, suc, ◌<◌, List, [], ◌∷◌, Some, None, Bool, true, false, bytes_eq, if◌then◌else◌, Contains, slice_get, length, get_or, refl, sym, ◌∙◌, arith}
use Rattle.std.proofs.lemmas.Bool.{both_ways}
use Rattle.std.proofs.lemmas.Option.{same_Some, none-some}
use Rattle.std.proofs.lemmas.Slice.Eq.{bytes_eq-Decides}
use Rattle.dj_names.specs.declared.header.Header.{Header}
use Rattle.dj_names.specs.Headers.{Name, names, HasDistinctNames}
use Rattle.dj_kinds.specs.Search.{header_of}

none_by : (header : Header) (headers : List Header) (class : Name) (b : Bool) → bytes_eq header.name class ≡ b → ¬ Contains (names (header ∷ headers)) class → header_of headers class ≡ None
    → (if b then Some header else header_of headers class) ≡ None
none_by header headers class true is none rest = absurd (none (0, omega arith, (bytes_eq-Decides header.name class).0 is))
none_by header headers class false is none rest = rest

-- a class without a header
pub header_of-none : (headers : List Header) (class : Name) → ¬ Contains (names headers) class → header_of headers class ≡ None
header_of-none [] class none = refl
header_of-none (header ∷ headers) class none =
    none_by header headers class (bytes_eq header.name class) refl none (header_of-none headers class (λ there. none (suc there.0, omega (arith, there.1), there.2)))

at_by : (header : Header) (headers : List Header) (class : Name) (at : ℕ) (b : Bool) → bytes_eq header.name class ≡ b → header.name ≢ class → header_of headers class ≡ slice_get headers at
    → (if b then Some header else header_of headers class) ≡ slice_get headers at
at_by header headers class at true is other rest = absurd (other ((bytes_eq-Decides header.name class).0 is))
at_by header headers class at false is other rest = rest

here_by : (header : Header) (headers : List Header) (class : Name) (b : Bool) → bytes_eq header.name class ≡ b → header.name ≡ class → (if b then Some header else header_of headers class) ≡ Some header
here_by header headers class true is same = refl
here_by header headers class false is same = absurd (both_ways (bytes_eq header.name class) is ((bytes_eq-Decides header.name class).1 same))

pub named_within : (headers : List Header) (at : ℕ) (class : Name) (d : Header) → slice_get (names headers) at ≡ Some class → (at < length headers) × ((get_or headers at d).name ≡ class)
named_within [] zero class d is = absurd (none-some class is)
named_within [] (suc at) class d is = absurd (none-some class is)
named_within (header ∷ headers) zero class d is = (omega arith, same_Some header.name class is)
named_within (header ∷ headers) (suc at) class d is = let rest = named_within headers at class d is in (omega (arith, rest.0), rest.1)

-- a class whose header stands at a place
pub header_of-at : (headers : List Header) (at : ℕ) (class : Name) → HasDistinctNames headers → slice_get (names headers) at ≡ Some class → header_of headers class ≡ slice_get headers at
header_of-at [] zero class distinct is = absurd (none-some class is)
header_of-at [] (suc at) class distinct is = absurd (none-some class is)
header_of-at (header ∷ headers) zero class distinct is = here_by header headers class (bytes_eq header.name class) refl (same_Some header.name class is)
header_of-at (header ∷ headers) (suc at) class distinct is =
    let found = named_within headers at class header is in
    at_by header headers class at (bytes_eq header.name class) refl
    (λ same. distinct 0 (suc at) header (omega arith) (omega (arith, found.0)) (same ∙ sym found.1))
    (header_of-at headers at class (λ i j d below within. distinct (suc i) (suc j) d (omega (arith, below)) (omega (arith, within))) is)
