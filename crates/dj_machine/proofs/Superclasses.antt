-- The superclass that the header of a class names.
use Rattle.std.proofs.Common.{◌≡◌, ℕ, zero, suc, ◌<◌, true, List, [], ◌∷◌, Contains, length, get_or, slice_get, Some, None, refl, sym, ap, ◌∙◌, arith}
use Rattle.std.specs.Prelude.{false}
use Rattle.std.proofs.lemmas.Bool.{false_from_ne_true}
use Rattle.std.proofs.lemmas.Option.{same_Some}
use Rattle.std.proofs.lemmas.Slice.Eq.{bytes_eq-Decides}
use Rattle.dj_names.specs.declared.header.Header.{Header}
use Rattle.dj_names.specs.Headers.{Name, names, HasDistinctNames}
use Rattle.dj_values.specs.Deciding.{is_name}
use Rattle.dj_bytecode.specs.Objects.{superclass_in}

same_names : (first second : Name) → first ≡ second → is_name first second ≡ true
same_names first second same = (bytes_eq-Decides first second).1 same

other_names : (first second : Name) → (first ≡ second → ⊥) → is_name first second ≡ false
other_names first second other = false_from_ne_true (is_name first second) (λ is. other ((bytes_eq-Decides first second).0 is))

-- the first header of the class is at this place
first_at : (headers : List Header) (class : Name) (place : ℕ) (d : Header) → slice_get (names headers) place ≡ Some class → ((at : ℕ) → at < place → slice_get (names headers) at ≡ Some class → ⊥) → superclass_in headers class ≡ (get_or headers place d).superclass
first_at [] class zero d is before = absurd (cc)
first_at [] class (suc place) d is before = absurd (cc)
first_at (header ∷ rest) class zero d is before = rw (same_names header.name class (same_Some header.name class is)) refl
first_at (header ∷ rest) class (suc place) d is before =
    rw (other_names header.name class (λ same. before 0 (omega arith) (ap Some same))) (first_at rest class place d is (λ at less is_at. before (suc at) (omega arith) is_at))

named_at : (headers : List Header) (class : Name) (place : ℕ) (d : Header) → slice_get (names headers) place ≡ Some class → (get_or headers place d).name ≡ class
named_at [] class zero d is = absurd (cc)
named_at [] class (suc place) d is = absurd (cc)
named_at (header ∷ rest) class zero d is = same_Some header.name class is
named_at (header ∷ rest) class (suc place) d is = named_at rest class place d is

pub within_headers : (headers : List Header) (class : Name) (place : ℕ) → slice_get (names headers) place ≡ Some class → place < length headers
within_headers [] class zero is = absurd (cc)
within_headers [] class (suc place) is = absurd (cc)
within_headers (header ∷ rest) class zero is = omega arith
within_headers (header ∷ rest) class (suc place) is = let less = within_headers rest class place is in omega arith

pub superclass_at : (headers : List Header) (class : Name) (place : ℕ) (header : Header) → HasDistinctNames headers → slice_get (names headers) place ≡ Some class → (get_or headers place header).superclass ≡ superclass_in headers class
superclass_at headers class place header distinct is =
    sym (first_at headers class place header is (λ at less is_at. distinct at place header less (within_headers headers class place is) (named_at headers class at header is_at ∙ sym (named_at headers class place header is))))

pub no_superclass : (headers : List Header) (class : Name) → ¬ Contains (names headers) class → None ≡ superclass_in headers class
no_superclass [] class none = refl
no_superclass (header ∷ rest) class none =
    rw (other_names header.name class (λ same. none (0, omega arith, same))) (no_superclass rest class (λ there. let less = there.1 in none (suc there.0, omega arith, there.2)))
