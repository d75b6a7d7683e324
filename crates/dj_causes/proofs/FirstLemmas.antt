-- The first item of which something holds, found by going through a list.
use Rattle.std.proofs.Common.{◌≡◌, ◌↔◌, ℕ, ◌+◌, ◌<◌, ◌≤◌, List, [], ◌∷◌, Option, Some, None, MatchOption, map, drop, get_or, length, refl, sym, ap, subst, inl, inr, ◌∙◌}
use Rattle.std.proofs.lemmas.List.{drop_more, drop_all}
use Rattle.dj_names.specs.Headers.{Name}
use Rattle.dj_causes.specs.Firsts.{IsFirstWith}

-- what is first in the rest from a place on is first in all
pub record IsFoundFrom {A : Type 0} (P : A → Type 0) (xs : List A) (i : ℕ) : Type 0 where
  pub each : (found : A) → IsFirstWith P (drop i xs) found ↔ IsFirstWith P xs found

module _ {A : Type 0} (P : A → Type 0) (xs : List A) where
  pub found_from_start : IsFoundFrom P xs 0
  found_from_start = record { each = λ found. (λ first. first, λ first. first) }

  module _ (i : ℕ) (x : A) (within : i < length xs) (is : x ≡ get_or xs i x) (from : IsFoundFrom P xs i) where
    rest_is : drop i xs ≡ x ∷ drop (i + 1) xs
    rest_is = drop_more xs i x within ∙ ap (λ y. y ∷ drop (i + 1) xs) (sym is)

    pub found_behind : ¬ P x → IsFoundFrom P xs (i + 1)
    found_behind none = record {
      each = λ found. (
        λ first. (from.each found).0 (subst (λ ys. IsFirstWith P ys found) (sym rest_is) (inr (none, first))),
        λ first. elim (subst (λ ys. IsFirstWith P ys found) rest_is ((from.each found).1 first)) [ inl here ↦ absurd (none here.0) | inr behind ↦ behind.1 ],
      );
    }

    pub found_here : P x → IsFirstWith P xs x
    found_here holds = (from.each x).0 (subst (λ ys. IsFirstWith P ys x) (sym rest_is) (inl (holds, refl)))

  pub found_nowhere : (i : ℕ) → length xs ≤ i → IsFoundFrom P xs i → (found : A) → ¬ IsFirstWith P xs found
  found_nowhere i all from found first = subst (λ ys. IsFirstWith P ys found) (drop_all i xs all) ((from.each found).1 first)

-- ---- lists and what they are seen as

module _ {A B : Type 0} (view : A → B) (P : B → Type 0) where
  pub first_viewed : (xs : List A) (found : A) → IsFirstWith (λ x. P (view x)) xs found → IsFirstWith P (map view xs) (view found)
  first_viewed [] found none = none
  first_viewed (x ∷ xs) found (inl here) = inl (here.0, ap view here.1)
  first_viewed (x ∷ xs) found (inr behind) = inr (behind.0, first_viewed xs found behind.1)

  pub none_viewed : (xs : List A) → ((found : A) → ¬ IsFirstWith (λ x. P (view x)) xs found) → (found : B) → ¬ IsFirstWith P (map view xs) found
  none_viewed [] none found first = first
  none_viewed (x ∷ xs) none found (inl here) = none x (inl (here.0, refl))
  none_viewed (x ∷ xs) none found (inr behind) = none_viewed xs (λ other first. none other (inr (behind.0, first))) found behind.1

-- ---- what is found, and what is asked besides

pub with_premise : {X : Type 0} (B : Type 0) (P : Name → Type 0) (name_of : X → Name) (found : Option X) → B → MatchOption found ((name : Name) → ¬ P name) (λ x. P (name_of x))
    → MatchOption found ((name : Name) → ¬ (B × P name)) (λ x. B × P (name_of x))
with_premise B P name_of None premise none = λ name both. none name both.1
with_premise B P name_of (Some x) premise holds = (premise, holds)

-- one more name in front, of which it doesn't hold
pub first_of_more : {A : Type 0} (P : A → Type 0) (x : A) (xs : List A) (found : Option A) → ¬ P x → MatchOption found ((y : A) → ¬ IsFirstWith P xs y) (IsFirstWith P xs)
    → MatchOption found ((y : A) → ¬ IsFirstWith P (x ∷ xs) y) (IsFirstWith P (x ∷ xs))
first_of_more P x xs None none rest = λ y first. elim first [ inl here ↦ none here.0 | inr behind ↦ rest y behind.1 ]
first_of_more P x xs (Some y) none first = inr (none, first)
