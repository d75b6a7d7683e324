-- Helpers' names of different numbers differ, so one of the first is free.
use Rattle.std.proofs.Common.{◌≡◌, ◌≢◌, ℕ, zero, suc, ◌+◌, ◌<◌, ◌≤◌, ◌^◌, List, [], ◌∷◌, ◌++◌, All, AllPairs, Contains, map, length, get_or, codes, refl, sym, ap, subst, inl, inr, ◌∙◌, arith}
use Rattle.std.specs.Fmt.{decimal}
use Rattle.std.specs.Str.Parse.{digits_value}
use Rattle.std.proofs.lemmas.Fmt.{decimal_is_IsNumeral}
use Rattle.std.proofs.lemmas.List.Kept.{AllPairs-cons}
use Rattle.std.proofs.lemmas.Bool.{cases_lt}
use Rattle.std.proofs.Math.Nat.{le_antisymm}
use Rattle.std.proofs.lemmas.List.Elements.{Contains-get_or}
use Rattle.std.proofs.lemmas.List.{length-map}
use Rattle.dj_names.specs.Headers.{Name}
use Rattle.dj_class.specs.declared.method.Method.{Method}
use Rattle.dj_class.specs.Described.{MethodOf}
use Rattle.dj_class.specs.Views.{view_method}
use Rattle.dj_signatures.specs.Signatures.{method_names}
use Rattle.dj_sayable.proofs.ClimbLemmas.{distinct_within}
use Rattle.dj_class_text.specs.Helpers.{helper_name, IsFreeNumber}

prefix_cancel : (xs ys zs : List ℕ) → xs ++ ys ≡ xs ++ zs → ys ≡ zs
prefix_cancel [] ys zs same = same
prefix_cancel (x ∷ xs) ys zs same = prefix_cancel xs ys zs (cc)

one_number : (m n : ℕ) → m < 2 ^ 64 → n < 2 ^ 64 → helper_name m ≡ helper_name n → m ≡ n
one_number m n fits_m fits_n same =
    sym (decimal_is_IsNumeral m fits_m).1 ∙ ap (digits_value 10) (prefix_cancel (codes "rethrow$") (decimal m) (decimal n) same) ∙ (decimal_is_IsNumeral n fits_n).1

-- the names of the numbers below
unfoldable helpers_below : ℕ → List Name
helpers_below zero = []
helpers_below (suc n) = helper_name n ∷ helpers_below n

length_helpers : (n : ℕ) → length (helpers_below n) ≡ n
unfolding helpers_below
length_helpers zero = refl
length_helpers (suc n) = ap suc (length_helpers n)

record IsBelow (n : ℕ) (name : Name) : Type 0 where
  lower : ℕ
  below : lower < n
  is : name ≡ helper_name lower

helper_at : (n : ℕ) (name : Name) → Contains (helpers_below n) name → IsBelow n name
unfolding helpers_below
helper_at zero name has = absurd (let w = has.1 in omega arith)
helper_at (suc n) name (zero, within, is) = record { lower = n; below = omega arith; is = sym is }
helper_at (suc n) name (suc k, within, is) =
    let found = helper_at n name (k, omega arith, is) in
    record { lower = found.lower; below = omega (arith, found.below); is = found.is }

apart_from_helpers : (n : ℕ) → n < 2 ^ 64 → All (λ name. helper_name n ≢ name) (helpers_below n)
apart_from_helpers n fits = λ k d within same.
    let found = helper_at n (get_or (helpers_below n) k d) (Contains-get_or (helpers_below n) k d within) in
    absurd (let one = one_number n found.lower fits (omega (arith, found.below)) (same ∙ found.is) in omega (arith, found.below))

distinct_helpers : (n : ℕ) → n ≤ 2 ^ 64 → AllPairs (λ first second. first ≢ second) (helpers_below n)
unfolding helpers_below
distinct_helpers zero fits = λ i j d below within. absurd (omega arith)
distinct_helpers (suc n) fits = AllPairs-cons (λ first second. first ≢ second) (helper_name n) (helpers_below n) (apart_from_helpers n (omega arith)) (distinct_helpers n (omega arith))

-- names that have the helpers of all lower numbers are at least as many
pub taken_room : (names : List Name) (n : ℕ) → n ≤ 2 ^ 64 → ((lower : ℕ) → lower < n → Contains names (helper_name lower)) → n ≤ length names
taken_room names n fits taken =
    let within = distinct_within (helpers_below n) names (distinct_helpers n fits) (λ name has. (let found = helper_at n name has in subst (Contains names) (sym found.is) (taken found.lower found.below))) in
    omega (arith, within, length_helpers n)

-- none is taken of none
pub taken_none : (names : List Name) (lower : ℕ) → lower < 0 → Contains names (helper_name lower)
taken_none names lower below = absurd (omega arith)

-- one more is taken
pub taken_more : (names : List Name) (n : ℕ) → ((lower : ℕ) → lower < n → Contains names (helper_name lower)) → Contains names (helper_name n) → (lower : ℕ) → lower < n + 1 → Contains names (helper_name lower)
taken_more names n taken here lower below = elim (cases_lt lower n) [
  | inl under ↦ taken lower under
  | inr from ↦ subst (λ (m : ℕ). Contains names (helper_name m)) (le_antisymm from (omega arith)) here
]

-- there are as many names as methods
pub length_names : (methods : List Method) → length (method_names (map view_method methods)) ≤ length methods
length_names methods = omega (arith, length-map (map view_method methods) (λ (method : MethodOf). method.name), length-map methods view_method)

-- where as many are taken as there are names, the next is free
pub free_past : (names : List Name) (n : ℕ) → length names ≤ n → n < 2 ^ 64 → ((lower : ℕ) → lower < n → Contains names (helper_name lower)) → IsFreeNumber names n
free_past names n all fits taken = record {
  free = λ has. (let more = taken_room names (n + 1) (omega arith) (λ lower below. elim (cases_lt lower n) [
    | inl under ↦ taken lower under
    | inr from ↦ subst (λ (m : ℕ). Contains names (helper_name m)) (le_antisymm from (omega arith)) has
  ]) in omega (arith, more));
  least = taken;
}
