-- No other method can be found through a class just where no class in the order of search has one.
use Rattle.std.proofs.Common.{◌≡◌, ◌⊎◌, Bool, true, false, not, ◌&&◌, ◌||◌, if◌then◌else◌, length, List, [], ◌∷◌, map, Option, Some, None, refl, sym, ap, subst, ◌∙◌, inl, inr}
use Rattle.std.specs.Prelude.{◌==◌, filter, find, flat_map}
use Rattle.std.specs.List.{list_any}
use Rattle.std.proofs.lemmas.Bool.{false≢true, true≢false, cases_Bool}
use Rattle.dj_names.specs.declared.header.Header.{Header}
use Rattle.dj_names.specs.Headers.{Name}
use Rattle.dj_names.specs.Types.{JType}
use Rattle.dj_kinds.specs.Search.{method_order}
use Rattle.dj_values.specs.Deciding.{is_type}
use Rattle.dj_meaning.specs.Members.{Method, Members, parameters, is_bridge}
use Rattle.dj_meaning.specs.Calls.{MethodIn, all_pairs, counting, named_in, first_with, distinct}
use Rattle.dj_static.proofs.ListLemmas.{In, in_filter, filter_has, in_filter_map, filter_map_has, map_has, flat_map_has, each_in, all_in, once_has}
use Rattle.dj_static.proofs.TypeLemmas.{Decides-types}
use Rattle.dj_members_shown.specs.Alone.{found_methods, is_apart_or_same, is_alone}
use Rattle.dj_alone.specs.Rivals.{differs, has}

-- ---- lists

-- an item that passes, where one does
pub record Passes {A : Type 0} (test : A → Bool) (xs : List A) : Type 0 where
  pub item : A
  pub there : In item xs
  pub passes : test item ≡ true

any_passes : {A : Type 0} (test : A → Bool) (xs : List A) → list_any test xs ≡ true → Passes test xs
any_passes test [] is = absurd (false≢true is)
any_passes test (x ∷ xs) is = by (test x) refl is (any_passes test xs)
  where
    by : (b : Bool) → test x ≡ b → b || list_any test xs ≡ true → (list_any test xs ≡ true → Passes test xs) → Passes test (x ∷ xs)
    by true at is rest = record { item = x; there = inl refl; passes = at }
    by false at is rest = let one = rest is in record { item = one.item; there = inr one.there; passes = one.passes }

none_passes : {A : Type 0} (test : A → Bool) (xs : List A) → list_any test xs ≡ false → (x : A) → In x xs → test x ≡ false
none_passes test [] is x there = absurd there
none_passes test (y ∷ ys) is x there = by (test y) refl is there (λ none later. none_passes test ys none x later)
  where
    by : (b : Bool) → test y ≡ b → b || list_any test ys ≡ false → In x (y ∷ ys) → (list_any test ys ≡ false → In x ys → test x ≡ false) → test x ≡ false
    by true at is there rest = absurd (true≢false is)
    by false at is (inl same) rest = ap test same ∙ at
    by false at is (inr later) rest = rest is later

found_in : {A : Type 0} (test : A → Bool) (xs : List A) (x : A) → find test xs ≡ Some x → In x xs
found_in test [] x is = absurd (cc)
found_in test (y ∷ ys) x is = by (test y) is (found_in test ys x)
  where
    by : (b : Bool) → (if b then Some y else find test ys) ≡ Some x → (find test ys ≡ Some x → In x ys) → In x (y ∷ ys)
    by true at rest = let same : y ≡ x = cc in inl (sym same)
    by false at rest = inr (rest at)

-- ---- the one that counts

counted_in : (methods : List Method) (method : Method) → counting methods ≡ Some method → In method methods
counted_in methods method is = by (find (λ (one : Method). not (is_bridge one.flags)) methods) refl
  where
    by : (first : Option Method) → find (λ (one : Method). not (is_bridge one.flags)) methods ≡ first → In method methods
    by None at = let other : find (λ one. true) methods ≡ Some method = rw at at is in found_in (λ one. true) methods method other
    by (Some one) at = let same : Some one ≡ Some method = rw at at is in found_in (λ (one : Method). not (is_bridge one.flags)) methods method (at ∙ same)

-- a method that counts
record Counts (methods : List Method) : Type 0 where
  one : Method
  is : counting methods ≡ Some one

some_counts : (methods : List Method) (method : Method) → In method methods → Counts methods
some_counts [] method there = absurd there
some_counts (first ∷ rest) method there = by (find (λ (one : Method). not (is_bridge one.flags)) (first ∷ rest)) refl
  where
    by : (found : Option Method) → find (λ (one : Method). not (is_bridge one.flags)) (first ∷ rest) ≡ found → Counts (first ∷ rest)
    by None at = record { one = first; is = rw at refl }
    by (Some one) at = record { one = one; is = rw at refl }

-- ---- the first in some classes

-- where a method that is found first stands, and what it takes
record IsFirst (methods : Name → List Method) (wanted : List JType) (classes : List Name) (one : MethodIn) : Type 0 where
  owner : In one.owner classes
  method : In one.method (methods one.owner)
  takes : parameters one.method ≡ wanted

abbrev taking : List JType → Method → Bool
taking wanted method = all_pairs is_type (parameters method) wanted

first_is : (methods : Name → List Method) (wanted : List JType) (classes : List Name) (one : MethodIn) → first_with methods wanted classes ≡ Some one → IsFirst methods wanted classes one
first_is methods wanted [] one found = absurd (cc)
first_is methods wanted (class ∷ classes) one found = by (counting (filter (taking wanted) (methods class))) refl (first_is methods wanted classes one)
  where
    by : (own : Option Method) → counting (filter (taking wanted) (methods class)) ≡ own → (first_with methods wanted classes ≡ Some one → IsFirst methods wanted classes one) → IsFirst methods wanted (class ∷ classes) one
    by None at further =
        let other : first_with methods wanted classes ≡ Some one = rw at at found in
        let rest = further other in
        record { owner = inr rest.owner; method = rest.method; takes = rest.takes }
    by (Some method) at further =
        let same : Some (record { owner = class; method = method }) ≡ Some one = rw at at found in
        let one_is : record { owner = class; method = method } ≡ one = cc in
        let kept = in_filter (taking wanted) method (methods class) (counted_in (filter (taking wanted) (methods class)) method at) in
        subst (IsFirst methods wanted (class ∷ classes)) one_is (record { owner = inl refl; method = kept.0; takes = (Decides-types (parameters method) wanted).0 kept.1 })

-- one is found first where a class has one
record Finds (methods : Name → List Method) (wanted : List JType) (classes : List Name) : Type 0 where
  one : MethodIn
  is : first_with methods wanted classes ≡ Some one

finds : (methods : Name → List Method) (wanted : List JType) (classes : List Name) (class : Name) (method : Method) → In class classes → In method (methods class) → parameters method ≡ wanted → Finds methods wanted classes
finds methods wanted [] class method there in_class takes = absurd there
finds methods wanted (first ∷ rest) class method there in_class takes = by (counting (filter (taking wanted) (methods first))) refl there (λ later. finds methods wanted rest class method later in_class takes)
  where
    by : (own : Option Method) → counting (filter (taking wanted) (methods first)) ≡ own → In class (first ∷ rest) → (In class rest → Finds methods wanted rest) → Finds methods wanted (first ∷ rest)
    by (Some one) at there further = record { one = record { owner = first; method = one }; is = rw at refl }
    by None at (inl same) further =
        let kept = filter_has (taking wanted) method (methods first) (subst (λ one. In method (methods one)) same in_class) ((Decides-types (parameters method) wanted).1 takes) in
        let some = some_counts (filter (taking wanted) (methods first)) method kept in
        let none : None ≡ Some some.one = sym at ∙ some.is in absurd (cc)
    by None at (inr later) further = let found = further later in record { one = found.one; is = rw at found.is }

-- ---- the two tests

module _ (headers : List Header) (members : List Members) (class name : Name) (types : List JType) where
  abbrev classes : List Name
  classes = method_order headers name class

  abbrev methods : Name → List Method
  methods = named_in headers members class name

  abbrev lists : List (List JType)
  lists = flat_map (λ class. map parameters (methods class)) classes

  abbrev apart : List JType → Bool
  apart own = not (length own == length types) || all_pairs is_type own types

  -- a method that differs isn't apart or the same
  told : (method : Method) → differs types method ≡ not (apart (parameters method))
  told method = by (length (parameters method) == length types)
    where
      by : (many : Bool) → many && not (all_pairs is_type (parameters method) types) ≡ not (not many || all_pairs is_type (parameters method) types)
      by true = refl
      by false = refl

  rivals_told : list_any (has headers members class name types) classes ≡ true → is_alone headers members name class types ≡ false
  rivals_told rivals =
      let one = any_passes (has headers members class name types) classes rivals in
      let method = any_passes (differs types) (methods one.item) one.passes in
      let found = finds methods (parameters method.item) classes one.item method.item one.there method.there refl in
      let first = first_is methods (parameters method.item) classes found.one found.is in
      let listed = once_has (all_pairs is_type) Decides-types (parameters method.item) lists (flat_map_has (λ class. map parameters (methods class)) one.item (parameters method.item) classes one.there (map_has parameters method.item (methods one.item) method.there)) in
      let there = filter_map_has (λ wanted. first_with methods wanted classes) (parameters method.item) found.one (distinct lists) listed found.is in
      fails found.one there (ap apart first.takes ∙ not_so (apart (parameters method.item)) (sym (told method.item) ∙ method.passes)) (cases_Bool (is_alone headers members name class types))
    where
      not_so : (test : Bool) → not test ≡ true → test ≡ false
      not_so true e = absurd (false≢true e)
      not_so false e = refl

      fails : (one : MethodIn) → In one (found_methods headers members name class) → apart (parameters one.method) ≡ false → (is_alone headers members name class types ≡ true) ⊎ (is_alone headers members name class types ≡ false) → is_alone headers members name class types ≡ false
      fails one there failed (inl all) = absurd (false≢true (sym failed ∙ each_in (is_apart_or_same types) (found_methods headers members name class) all one there))
      fails one there failed (inr is) = is

  alone_told : list_any (has headers members class name types) classes ≡ false → is_alone headers members name class types ≡ true
  alone_told none = all_in (is_apart_or_same types) (found_methods headers members name class) each
    where
      so : (test : Bool) → not test ≡ false → test ≡ true
      so true e = refl
      so false e = absurd (true≢false e)

      each : (one : MethodIn) → In one (found_methods headers members name class) → is_apart_or_same types one ≡ true
      each one there =
          let from = in_filter_map (λ wanted. first_with methods wanted classes) one (distinct lists) there in
          let first = first_is methods from.item classes one from.gives in
          let quiet = none_passes (has headers members class name types) classes none one.owner first.owner in
          so (apart (parameters one.method)) (sym (told one.method) ∙ none_passes (differs types) (methods one.owner) quiet one.method first.method)

  pub alone-is : is_alone headers members name class types ≡ not (list_any (has headers members class name types) classes)
  alone-is = by (cases_Bool (list_any (has headers members class name types) classes))
    where
      by : (list_any (has headers members class name types) classes ≡ true) ⊎ (list_any (has headers members class name types) classes ≡ false) → is_alone headers members name class types ≡ not (list_any (has headers members class name types) classes)
      by (inl rivals) = rivals_told rivals ∙ ap not (sym rivals)
      by (inr none) = alone_told none ∙ ap not (sym none)
