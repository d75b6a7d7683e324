-- Whether one item of a list passes a test, found by going through the list.
use Rattle.std.proofs.Common.{◌≡◌, ℕ, zero, suc, ◌+◌, ◌<◌, ◌≤◌, Bool, true, false, List, [], ◌∷◌, length, drop, get_or, refl, sym, ap, ◌∙◌, arith}
use Rattle.std.specs.List.{list_any}
use Rattle.std.proofs.lemmas.List.{drop_all}

from_item : {X : Type 0} (xs : List X) (i : ℕ) (x : X) → i < length xs → x ≡ get_or xs i x → drop i xs ≡ x ∷ drop (i + 1) xs
from_item [] i x within is = absurd (omega arith)
from_item {X} (y ∷ xs) zero x within is = ap (λ (z : X). z ∷ xs) (sym is)
from_item (y ∷ xs) (suc i) x within is = let next : suc i + 1 ≡ suc (i + 1) = omega arith in rw next (from_item xs i x (omega arith) is)

module _ {X : Type 0} (test : X → Bool) (all : List X) (i : ℕ) (same : list_any test (drop i all) ≡ list_any test all) where
  pub any_here : (x : X) → i < length all → x ≡ get_or all i x → test x ≡ true → true ≡ list_any test all
  any_here x within is passes = sym (ap (λ (list : List X). list_any test list) (from_item all i x within is) ∙ rw passes refl) ∙ same

  pub any_next : (x : X) → i < length all → x ≡ get_or all i x → test x ≡ false → list_any test (drop (i + 1) all) ≡ list_any test all
  any_next x within is none = sym (ap (λ (list : List X). list_any test list) (from_item all i x within is) ∙ rw none refl) ∙ same

  pub any_end : length all ≤ i → false ≡ list_any test all
  any_end past = sym (ap (λ (list : List X). list_any test list) (drop_all i all past)) ∙ same
