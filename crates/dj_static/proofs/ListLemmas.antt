-- What lists have, and items that stand once in them.
use Rattle.std.proofs.Common.{◌≡◌, ◌≢◌, ◌⊎◌, ℕ, zero, suc, Bool, true, false, Decides, if◌then◌else◌, List, [], ◌∷◌, ◌++◌, map, Option, Some, None, slice_get, refl, sym, ap, subst, ◌∙◌, inl, inr}
use Rattle.std.specs.Prelude.{filter, filter_map, flat_map}
use Rattle.std.specs.List.{list_any, list_all, cons_option}
use Rattle.std.proofs.lemmas.Bool.{false≢true, and_parts, and_from, or_cases, or_left, or_right}
use Rattle.std.proofs.lemmas.Option.{none-some, same_Some}

-- an item is in a list
abbrev pub In : {A : Type 0} → A → List A → Type 0
In x [] = ⊥
In x (y ∷ ys) = (x ≡ y) ⊎ In x ys

-- no two items are alike by what is asked of them
abbrev pub ApartBy : {A B : Type 0} → (A → B) → List A → Type 0
ApartBy f [] = Unit {0}
ApartBy {A} f (x ∷ xs) = ((y : A) → In y xs → f x ≢ f y) × ApartBy f xs

-- ---- filter

in_by : {A : Type 0} (test : A → Bool) (x y : A) (ys : List A) (b : Bool) → test y ≡ b → In x (if b then y ∷ filter test ys else filter test ys) → (In x (filter test ys) → In x ys × (test x ≡ true)) → In x (y ∷ ys) × (test x ≡ true)
in_by test x y ys true is (inl same) rest = (inl same, ap test same ∙ is)
in_by test x y ys true is (inr later) rest = let r = rest later in (inr r.0, r.1)
in_by test x y ys false is found rest = let r = rest found in (inr r.0, r.1)

pub in_filter : {A : Type 0} (test : A → Bool) (x : A) (xs : List A) → In x (filter test xs) → In x xs × (test x ≡ true)
in_filter test x [] found = absurd found
in_filter test x (y ∷ ys) found = in_by test x y ys (test y) refl found (in_filter test x ys)

kept_by : {A : Type 0} (test : A → Bool) (x y : A) (ys : List A) (b : Bool) → test y ≡ b → test x ≡ true → In x (y ∷ ys) → (In x ys → In x (filter test ys)) → In x (if b then y ∷ filter test ys else filter test ys)
kept_by test x y ys true is passes (inl same) rest = inl same
kept_by test x y ys true is passes (inr later) rest = inr (rest later)
kept_by test x y ys false is passes (inl same) rest = absurd (false≢true (sym is ∙ ap test (sym same) ∙ passes))
kept_by test x y ys false is passes (inr later) rest = rest later

pub filter_has : {A : Type 0} (test : A → Bool) (x : A) (xs : List A) → In x xs → test x ≡ true → In x (filter test xs)
filter_has test x [] found passes = absurd found
filter_has test x (y ∷ ys) found passes = kept_by test x y ys (test y) refl passes found (λ later. filter_has test x ys later passes)

apart_by : {A B : Type 0} (f : A → B) (test : A → Bool) (x : A) (xs : List A) (b : Bool) → ApartBy f (x ∷ xs) → ApartBy f (filter test xs) → ApartBy f (if b then x ∷ filter test xs else filter test xs)
apart_by f test x xs true apart rest = (λ y found. apart.0 y (in_filter test y xs found).0, rest)
apart_by f test x xs false apart rest = rest

pub filter_apart : {A B : Type 0} (f : A → B) (test : A → Bool) (xs : List A) → ApartBy f xs → ApartBy f (filter test xs)
filter_apart f test [] apart = tt
filter_apart f test (x ∷ xs) apart = apart_by f test x xs (test x) apart (filter_apart f test xs apart.1)

-- ---- filter_map

-- an item comes from one of a list
pub record ComesFrom {A B : Type 0} (h : A → Option B) (y : B) (xs : List A) : Type 0 where
  pub item : A
  pub there : In item xs
  pub gives : h item ≡ Some y

module _ {A B : Type 0} (h : A → Option B) where
  from_by : (y : B) (x : A) (xs : List A) (found : Option B) → h x ≡ found → In y (cons_option found (filter_map h xs)) → (In y (filter_map h xs) → ComesFrom h y xs) → ComesFrom h y (x ∷ xs)
  from_by y x xs None is there rest = let r = rest there in record { item = r.item; there = inr r.there; gives = r.gives }
  from_by y x xs (Some z) is (inl same) rest = record { item = x; there = inl refl; gives = is ∙ ap Some (sym same) }
  from_by y x xs (Some z) is (inr later) rest = let r = rest later in record { item = r.item; there = inr r.there; gives = r.gives }

  pub in_filter_map : (y : B) (xs : List A) → In y (filter_map h xs) → ComesFrom h y xs
  in_filter_map y [] there = absurd there
  in_filter_map y (x ∷ xs) there = from_by y x xs (h x) refl there (in_filter_map y xs)

  has_by : (x : A) (y : B) (z : A) (zs : List A) (found : Option B) → h z ≡ found → h x ≡ Some y → In x (z ∷ zs) → (In x zs → In y (filter_map h zs)) → In y (cons_option found (filter_map h zs))
  has_by x y z zs None is gives (inl same) rest = absurd (none-some y (sym is ∙ ap h (sym same) ∙ gives))
  has_by x y z zs None is gives (inr later) rest = rest later
  has_by x y z zs (Some w) is gives (inl same) rest = inl (same_Some y w (sym gives ∙ ap h same ∙ is))
  has_by x y z zs (Some w) is gives (inr later) rest = inr (rest later)

  pub filter_map_has : (x : A) (y : B) (xs : List A) → In x xs → h x ≡ Some y → In y (filter_map h xs)
  filter_map_has x y [] there gives = absurd there
  filter_map_has x y (z ∷ zs) there gives = has_by x y z zs (h z) refl gives there (λ later. filter_map_has x y zs later gives)

  module _ (f : B → A) (back : (x : A) (y : B) → h x ≡ Some y → f y ≡ x) where
    map_apart_by : (x : A) (xs : List A) (found : Option B) → h x ≡ found → ApartBy (λ (a : A). a) (x ∷ xs) → ApartBy f (filter_map h xs) → ApartBy f (cons_option found (filter_map h xs))
    map_apart_by x xs None is apart rest = rest
    map_apart_by x xs (Some y) is apart rest =
        (λ z found same. (let from = in_filter_map z xs found in apart.0 from.item from.there (sym (back x y is) ∙ same ∙ back from.item z from.gives)), rest)

    pub filter_map_apart : (xs : List A) → ApartBy (λ (a : A). a) xs → ApartBy f (filter_map h xs)
    filter_map_apart [] apart = tt
    filter_map_apart (x ∷ xs) apart = map_apart_by x xs (h x) refl apart (filter_map_apart xs apart.1)

-- ---- maps and lists joined

pub in_left : {A : Type 0} (x : A) (xs ys : List A) → In x xs → In x (xs ++ ys)
in_left x [] ys there = absurd there
in_left x (y ∷ xs) ys (inl same) = inl same
in_left x (y ∷ xs) ys (inr later) = inr (in_left x xs ys later)

pub in_right : {A : Type 0} (x : A) (xs ys : List A) → In x ys → In x (xs ++ ys)
in_right x [] ys there = there
in_right x (y ∷ xs) ys there = inr (in_right x xs ys there)

pub in_append : {A : Type 0} (x : A) (xs ys : List A) → In x (xs ++ ys) → In x xs ⊎ In x ys
in_append x [] ys there = inr there
in_append x (y ∷ xs) ys (inl same) = inl (inl same)
in_append x (y ∷ xs) ys (inr later) = elim (in_append x xs ys later) [ inl first ↦ inl (inr first) | inr second ↦ inr second ]

pub map_has : {A B : Type 0} (f : A → B) (x : A) (xs : List A) → In x xs → In (f x) (map f xs)
map_has f x [] there = absurd there
map_has f x (y ∷ ys) (inl same) = inl (ap f same)
map_has f x (y ∷ ys) (inr later) = inr (map_has f x ys later)

pub at_in : {A : Type 0} (xs : List A) (k : ℕ) (x : A) → slice_get xs k ≡ Some x → In x xs
at_in [] zero x is = absurd (none-some x is)
at_in [] (suc k) x is = absurd (none-some x is)
at_in (y ∷ ys) zero x is = inl (sym (same_Some y x is))
at_in (y ∷ ys) (suc k) x is = inr (at_in ys k x is)

pub flat_map_has : {A B : Type 0} (f : A → List B) (x : A) (y : B) (xs : List A) → In x xs → In y (f x) → In y (flat_map f xs)
flat_map_has f x y [] there has = absurd there
flat_map_has f x y (z ∷ zs) (inl same) has = in_left y (f z) (flat_map f zs) (subst (λ a. In y (f a)) same has)
flat_map_has f x y (z ∷ zs) (inr later) has = in_right y (f z) (flat_map f zs) (flat_map_has f x y zs later has)

-- ---- each item

pub each_in : {A : Type 0} (test : A → Bool) (xs : List A) → list_all test xs ≡ true → (x : A) → In x xs → test x ≡ true
each_in test [] all x there = absurd there
each_in test (y ∷ ys) all x (inl same) = ap test same ∙ (and_parts (test y) (list_all test ys) all).0
each_in test (y ∷ ys) all x (inr later) = each_in test ys (and_parts (test y) (list_all test ys) all).1 x later

pub all_in : {A : Type 0} (test : A → Bool) (xs : List A) → ((x : A) → In x xs → test x ≡ true) → list_all test xs ≡ true
all_in test [] each = refl
all_in test (y ∷ ys) each = and_from (test y) (list_all test ys) (each y (inl refl)) (all_in test ys (λ x later. each x (inr later)))

-- an item comes from what a list's items give
pub record IsGiven {A B : Type 0} (f : A → List B) (y : B) (xs : List A) : Type 0 where
  pub item : A
  pub there : In item xs
  pub gives : In y (f item)

pub in_flat_map : {A B : Type 0} (f : A → List B) (y : B) (xs : List A) → In y (flat_map f xs) → IsGiven f y xs
in_flat_map f y [] there = absurd there
in_flat_map f y (x ∷ xs) there =
    elim (in_append y (f x) (flat_map f xs) there) [
      | inl here ↦ record { item = x; there = inl refl; gives = here }
      | inr later ↦ (let rest = in_flat_map f y xs later in record { item = rest.item; there = inr rest.there; gives = rest.gives })
    ]

-- ---- items, each once

-- each item once, by a test of two of them
abbrev each_once : {A : Type 0} → (A → A → Bool) → List A → List A
each_once same [] = []
each_once same (first ∷ rest) = if list_any (same first) rest then each_once same rest else first ∷ each_once same rest

module _ {A : Type 0} (same : A → A → Bool) (decides : (x y : A) → Decides (same x y) (x ≡ y)) where
  once_by : (x first : A) (rest : List A) (b : Bool) → In x (if b then each_once same rest else first ∷ each_once same rest) → (In x (each_once same rest) → In x rest) → In x (first ∷ rest)
  once_by x first rest true there later = inr (later there)
  once_by x first rest false (inl equal) later = inl equal
  once_by x first rest false (inr there) later = inr (later there)

  pub in_once : (x : A) (xs : List A) → In x (each_once same xs) → In x xs
  in_once x [] there = absurd there
  in_once x (first ∷ rest) there = once_by x first rest (list_any (same first) rest) there (in_once x rest)

  any_in : (first : A) (rest : List A) → list_any (same first) rest ≡ true → In first rest
  any_in first [] any = absurd (false≢true any)
  any_in first (one ∷ rest) any =
      elim (or_cases (same first one) (list_any (same first) rest) any) [ inl here ↦ inl ((decides first one).0 here) | inr later ↦ inr (any_in first rest later) ]

  in_any : (first : A) (rest : List A) → In first rest → list_any (same first) rest ≡ true
  in_any first [] there = absurd there
  in_any first (one ∷ rest) (inl equal) = or_left _ _ ((decides first one).1 equal)
  in_any first (one ∷ rest) (inr later) = or_right (same first one) _ (in_any first rest later)

  once_has_by : (x first : A) (rest : List A) (b : Bool) → list_any (same first) rest ≡ b → In x (first ∷ rest) → (In x rest → In x (each_once same rest)) → In x (if b then each_once same rest else first ∷ each_once same rest)
  once_has_by x first rest true is (inl equal) later = later (subst (λ l. In l rest) (sym equal) (any_in first rest is))
  once_has_by x first rest true is (inr there) later = later there
  once_has_by x first rest false is (inl equal) later = inl equal
  once_has_by x first rest false is (inr there) later = inr (later there)

  pub once_has : (x : A) (xs : List A) → In x xs → In x (each_once same xs)
  once_has x [] there = absurd there
  once_has x (first ∷ rest) there = once_has_by x first rest (list_any (same first) rest) refl there (once_has x rest)

  once_apart_by : (first : A) (rest : List A) (b : Bool) → list_any (same first) rest ≡ b → ApartBy (λ (a : A). a) (each_once same rest) → ApartBy (λ (a : A). a) (if b then each_once same rest else first ∷ each_once same rest)
  once_apart_by first rest true is apart = apart
  once_apart_by first rest false is apart = (λ y there equal. false≢true (sym is ∙ in_any first rest (subst (λ l. In l rest) (sym equal) (in_once y rest there))), apart)

  pub once_apart : (xs : List A) → ApartBy (λ (a : A). a) (each_once same xs)
  once_apart [] = tt
  once_apart (first ∷ rest) = once_apart_by first rest (list_any (same first) rest) refl (once_apart rest)
