-- The method that a call means from classes and types that a world has whole is meant where other classes run beside its own.
use Rattle.std.proofs.Common.{◌≡◌, ◌≤◌, Bool, true, false, not, ◌&&◌, ◌||◌, if◌then◌else◌, length, List, [], ◌∷◌, map, filter, find, filter_map, flat_map, Option, Some, None, refl, sym, ap, subst, ◌∙◌, inl, inr, ◌⊎◌}
use mathlib.Core.Path.{fun_ext}
use Rattle.std.specs.List.{list_any, list_all, cons_option}
use Rattle.std.proofs.lemmas.Bool.{false≢true, and_parts, and_from, or_parts, cases_Bool}
use Rattle.dj_names.specs.declared.header.Header.{Header}
use Rattle.dj_names.specs.Headers.{Name}
use Rattle.dj_names.specs.Types.{JType}
use Rattle.dj_names.specs.Assignable.{object_name}
use Rattle.dj_kinds.specs.Search.{method_order}
use Rattle.dj_kinds.specs.Own.{is_false_constructor}
use Rattle.dj_kinds.specs.Choice.{Call}
use Rattle.dj_values.specs.Deciding.{is_name, is_type, is_some_and, is_array_clone}
use Rattle.dj_meaning.specs.Members.{Method, Members, parameters, is_public, is_private, is_of_class, is_bridge}
use Rattle.dj_meaning.specs.Visible.{members_of, methods_in, is_inherited}
use Rattle.dj_meaning.specs.Fields.{sole}
use Rattle.dj_meaning.specs.Calls.{MethodIn, all_pairs, is_assignable, is_seen, counting, named_in, first_with, distinct, may_call, is_candidate, candidates, is_more_specific, chosen}
use Rattle.dj_static.proofs.TypeLemmas.{Decides-types}
use Rattle.dj_widened.specs.Widens.{Widens}
use Rattle.dj_widened.specs.Meant.{IsThroughWhole, AreAllWhole}
use Rattle.dj_widened.proofs.Paths.{In, all_at, HasHeader, IsWhole, above_itself, interface_same, inherited_same}
use Rattle.dj_widened.proofs.Orders.{order_same}
use Rattle.dj_widened.proofs.Types.{all_assignable_same, all_subtypes_true, all_apart}
use Rattle.dj_widened.proofs.Members.{members_same, owner_header, allows_same}

-- ---- lists

pub in_filter : {A : Type 0} (test : A → Bool) (xs : List A) (x : A) → In x (filter test xs) → (test x ≡ true) × In x xs
in_filter test [] x none = absurd none
in_filter test (y ∷ ys) x there = by (test y) refl there (in_filter test ys x)
  where
    by : (b : Bool) → test y ≡ b → In x (if b then y ∷ filter test ys else filter test ys) → (In x (filter test ys) → (test x ≡ true) × In x ys) → (test x ≡ true) × In x (y ∷ ys)
    by true is (inl same) further = (subst (λ z. test z ≡ true) (sym same) is, inl same)
    by true is (inr later) further = let found = further later in (found.0, inr found.1)
    by false is later further = let found = further later in (found.0, inr found.1)

pub in_found : {A : Type 0} (test : A → Bool) (xs : List A) (x : A) → find test xs ≡ Some x → (test x ≡ true) × In x xs
in_found test [] x found = absurd cc
in_found test (y ∷ ys) x found = by (test y) refl found (in_found test ys x)
  where
    by : (b : Bool) → test y ≡ b → (if b then Some y else find test ys) ≡ Some x → (find test ys ≡ Some x → (test x ≡ true) × In x ys) → (test x ≡ true) × In x (y ∷ ys)
    by true is found further = let same : x ≡ y = cc in (subst (λ z. test z ≡ true) (sym same) is, inl same)
    by false is found further = let rest = further found in (rest.0, inr rest.1)

in_cons : {A : Type 0} (found : Option A) (xs : List A) (y : A) → In y (cons_option found xs) → (found ≡ Some y) ⊎ In y xs
in_cons None xs y there = inr there
in_cons (Some x) xs y (inl same) = inl (ap Some (sym same))
in_cons (Some x) xs y (inr later) = inr later

in_filter_map : {A B : Type 0} (f : A → Option B) (xs : List A) (y : B) → In y (filter_map f xs) → (x : A) × In x xs × (f x ≡ Some y)
in_filter_map f [] y none = absurd none
in_filter_map f (x ∷ xs) y there =
    elim (in_cons (f x) (filter_map f xs) y there) [
      | inl here ↦ (x, inl refl, here)
      | inr later ↦ let found = in_filter_map f xs y later in (found.0, inr found.1, found.2)
    ]

-- the only item is one of them
pub in_sole : {A : Type 0} (xs : List A) (x : A) → sole xs ≡ Some x → In x xs
in_sole [] x is = absurd cc
in_sole (y ∷ []) x is = inl (let same : x ≡ y = cc in same)
in_sole (y ∷ z ∷ xs) x is = absurd cc

-- ---- items that a key tells apart

-- no two of these are equal
abbrev AllApart : {A : Type 0} → List A → Type 0
AllApart [] = Unit {0}
AllApart {A = A} (x ∷ xs) = ((y : A) → In y xs → ¬ (x ≡ y)) × AllApart xs

module _ {A B : Type 0} (key : A → B) where
  -- no two of these have one key
  abbrev pub AreApart : List A → Type 0
  AreApart [] = Unit {0}
  AreApart (x ∷ xs) = ((y : A) → In y xs → ¬ (key x ≡ key y)) × AreApart xs

  none_pass : (test : A → Bool) (xs : List A) → ((x : A) → In x xs → test x ≡ false) → filter test xs ≡ []
  none_pass test [] fails = refl
  none_pass test (x ∷ xs) fails = ap (λ b. if b then x ∷ filter test xs else filter test xs) (fails x (inl refl)) ∙ none_pass test xs (λ y there. fails y (inr there))

  -- of items that pass only where they have the key of one, that one alone passes
  one_passes : (test : A → Bool) (xs : List A) (one : A) → AreApart xs → In one xs → test one ≡ true → ((x : A) → In x xs → test x ≡ true → key x ≡ key one) → filter test xs ≡ one ∷ []
  one_passes test [] one apart none passes only = absurd none
  one_passes test (x ∷ xs) one apart (inl is) passes only =
      ap (λ b. if b then x ∷ filter test xs else filter test xs) (subst (λ y. test y ≡ true) is passes)
      ∙ ap (λ rest. x ∷ rest) (none_pass test xs (λ y there. fails y there (cases_Bool (test y))))
      ∙ ap (λ y. y ∷ []) (sym is)
    where
      fails : (y : A) → In y xs → (test y ≡ true) ⊎ (test y ≡ false) → test y ≡ false
      fails y there (inl passed) = absurd (apart.0 y there (ap key (sym is) ∙ sym (only y (inr there) passed)))
      fails y there (inr failed) = failed
  one_passes test (x ∷ xs) one apart (inr later) passes only =
      ap (λ b. if b then x ∷ filter test xs else filter test xs) (fails (cases_Bool (test x)))
      ∙ one_passes test xs one apart.1 later passes (λ y there. only y (inr there))
    where
      fails : (test x ≡ true) ⊎ (test x ≡ false) → test x ≡ false
      fails (inl passed) = absurd (apart.0 one later (only x (inl refl) passed))
      fails (inr failed) = failed

  apart_filter : (test : A → Bool) (xs : List A) → AreApart xs → AreApart (filter test xs)
  apart_filter test [] apart = tt
  apart_filter test (x ∷ xs) apart = by (test x) (apart_filter test xs apart.1)
    where
      by : (b : Bool) → AreApart (filter test xs) → AreApart (if b then x ∷ filter test xs else filter test xs)
      by true rest = (λ y there. apart.0 y (in_filter test xs y there).1, rest)
      by false rest = rest

  -- of what a function gives of items that differ no two have one key, where the key tells the item
  apart_filter_map : {C : Type 0} (f : C → Option A) (tells : B → C) (xs : List C) → ((x : C) (y : A) → f x ≡ Some y → tells (key y) ≡ x) → AllApart xs → AreApart (filter_map f xs)
  apart_filter_map f tells [] told apart = tt
  apart_filter_map f tells (x ∷ xs) told apart = by (f x) refl (apart_filter_map f tells xs told apart.1)
    where
      by : (found : Option A) → f x ≡ found → AreApart (filter_map f xs) → AreApart (cons_option found (filter_map f xs))
      by None is rest = rest
      by (Some y) is rest = (λ z there same. (let from = in_filter_map f xs z there in apart.0 from.0 from.1 (sym (told x y is) ∙ ap tells same ∙ told from.0 z from.2)), rest)

-- ---- lists of types, each once

in_distinct : (lists : List (List JType)) (x : List JType) → In x (distinct lists) → In x lists
in_distinct [] x none = absurd none
in_distinct (first ∷ rest) x there = by (list_any (all_pairs is_type first) rest) there (in_distinct rest x)
  where
    by : (b : Bool) → In x (if b then distinct rest else first ∷ distinct rest) → (In x (distinct rest) → In x rest) → In x (first ∷ rest)
    by true later further = inr (further later)
    by false (inl same) further = inl same
    by false (inr later) further = inr (further later)

not_among : (first : List JType) (rest : List (List JType)) → list_any (all_pairs is_type first) rest ≡ false → (x : List JType) → In x rest → ¬ (first ≡ x)
not_among first [] none x absent same = absent
not_among first (y ∷ rest) none x (inl is) same = false≢true (sym (or_parts (all_pairs is_type first y) (list_any (all_pairs is_type first) rest) none).0 ∙ (Decides-types first y).1 (same ∙ is))
not_among first (y ∷ rest) none x (inr later) same = not_among first rest (or_parts (all_pairs is_type first y) (list_any (all_pairs is_type first) rest) none).1 x later same

distinct_apart : (lists : List (List JType)) → AllApart (distinct lists)
distinct_apart [] = tt
distinct_apart (first ∷ rest) = by (list_any (all_pairs is_type first) rest) refl (distinct_apart rest)
  where
    by : (b : Bool) → list_any (all_pairs is_type first) rest ≡ b → AllApart (distinct rest) → AllApart (if b then distinct rest else first ∷ distinct rest)
    by true is apart = apart
    by false is apart = (λ x there. not_among first rest is x (in_distinct rest x there), apart)

-- ---- the candidates

counted_in : (methods : List Method) (method : Method) → counting methods ≡ Some method → In method methods
counted_in methods method found = by (find (λ (method : Method). not (is_bridge method.flags)) methods) refl
  where
    by : (first : Option Method) → find (λ (method : Method). not (is_bridge method.flags)) methods ≡ first → In method methods
    by None is = let other : find (λ method. true) methods ≡ Some method = rw is at found in (in_found (λ method. true) methods method other).1
    by (Some one) is = let same : Some one ≡ Some method = rw is at found in (in_found (λ (method : Method). not (is_bridge method.flags)) methods method (is ∙ same)).1

-- a method that is found first: which class has it, and with which parameters
record IsFirst (methods : Name → List Method) (wanted : List JType) (classes : List Name) (one : MethodIn) : Type 0 where
  owner : In one.owner classes
  method : In one.method (methods one.owner)
  parameters : parameters one.method ≡ wanted

first_is : (methods : Name → List Method) (wanted : List JType) (classes : List Name) (one : MethodIn) → first_with methods wanted classes ≡ Some one → IsFirst methods wanted classes one
first_is methods wanted [] one found = absurd cc
first_is methods wanted (class ∷ classes) one found = by (counting (filter (λ (method : Method). all_pairs is_type (parameters method) wanted) (methods class))) refl (first_is methods wanted classes one)
  where
    by : (own : Option Method) → counting (filter (λ (method : Method). all_pairs is_type (parameters method) wanted) (methods class)) ≡ own
        → (first_with methods wanted classes ≡ Some one → IsFirst methods wanted classes one) → IsFirst methods wanted (class ∷ classes) one
    by None is further =
        let rest = further (rw is at found) in
        record { owner = inr rest.owner; method = rest.method; parameters = rest.parameters }
    by (Some method) is further =
        let same : Some (record { owner = class; method = method }) ≡ Some one = rw is at found in
        let one_is : record { owner = class; method = method } ≡ one = cc in
        let kept = in_filter (λ (method : Method). all_pairs is_type (parameters method) wanted) (methods class) method (counted_in (filter (λ (method : Method). all_pairs is_type (parameters method) wanted) (methods class)) method is) in
        subst (IsFirst methods wanted (class ∷ classes)) one_is (record { owner = inl refl; method = kept.1; parameters = (Decides-types (parameters method) wanted).0 kept.0 })

module _ (headers : List Header) (members : List Members) (call : Call) where
  -- a candidate is a method that its class declares, which the search comes to
  pub record IsFound (one : MethodIn) : Type 0 where
    pub owner : In one.owner (method_order headers call.name call.class)
    pub method : In one.method (named_in headers members call.class call.name one.owner)
    pub takes : all_pairs (is_assignable headers) call.arguments (parameters one.method) ≡ true

  abbrev classes : List Name
  classes = method_order headers call.name call.class

  abbrev methods : Name → List Method
  methods = named_in headers members call.class call.name

  abbrev lists : List (List JType)
  lists = distinct (flat_map (λ class. map parameters (methods class)) classes)

  candidate_found : (one : MethodIn) → In one (candidates headers members call) → IsFound one
  candidate_found one there =
      let kept = in_filter (is_candidate headers call) (filter_map (λ wanted. first_with methods wanted classes) lists) one there in
      let from = in_filter_map (λ wanted. first_with methods wanted classes) lists one kept.1 in
      let first = first_is methods from.0 classes one from.2 in
      let takes = all_pairs (is_assignable headers) call.arguments (parameters one.method) in
      let inherited = is_inherited headers call.class one.owner one.method.flags in
      record { owner = first.owner; method = first.method; takes = (and_parts takes inherited (and_parts (takes && inherited) (may_call headers call.from call.through one) kept.0).0).0 }

  candidates_apart : AreApart (λ (one : MethodIn). parameters one.method) (candidates headers members call)
  candidates_apart =
      apart_filter (λ (one : MethodIn). parameters one.method) (is_candidate headers call) (filter_map (λ wanted. first_with methods wanted classes) lists)
      (apart_filter_map (λ (one : MethodIn). parameters one.method) (λ wanted. first_with methods wanted classes) (λ types. types) lists
      (λ wanted one found. (first_is methods wanted classes one found).parameters) (distinct_apart (flat_map (λ class. map parameters (methods class)) classes)))

  pub chosen_found : (one : MethodIn) → chosen headers members call ≡ Some one → IsFound one
  chosen_found one is =
      candidate_found one
      (in_filter (λ one. list_all (is_more_specific headers one) (candidates headers members call)) (candidates headers members call) one
      (in_sole (filter (λ one. list_all (is_more_specific headers one) (candidates headers members call)) (candidates headers members call)) one is)).1

  pub found_header : (one : MethodIn) → IsFound one → HasHeader headers one.owner
  found_header one found = by (members_of headers members one.owner) refl (in_filter (λ (method : Method). is_name method.name call.name && is_seen headers call.class one.owner method) (methods_in (members_of headers members one.owner)) one.method found.method).1
    where
      by : (own : Option Members) → members_of headers members one.owner ≡ own → In one.method (methods_in (members_of headers members one.owner)) → HasHeader headers one.owner
      by None is there = absurd (subst (λ found. In one.method (methods_in found)) is there)
      by (Some own) is there = owner_header headers members one.owner own is

-- ---- the same candidates, and the same choice

list_all_more : {A : Type 0} (first second : A → Bool) (xs : List A) → ((x : A) → first x ≡ true → second x ≡ true) → list_all first xs ≡ true → list_all second xs ≡ true
list_all_more first second [] more all = refl
list_all_more first second (x ∷ xs) more all =
    let both = and_parts (first x) (list_all first xs) all in
    and_from (second x) (list_all second xs) (more x both.0) (list_all_more first second xs more both.1)

module _ (world headers : List Header) (wide : Widens world headers) (members : List Members) (paired : length members ≤ length world) where
  named_same : (start name : Name) → HasHeader world start → named_in headers members start name ≡ named_in world members start name
  named_same start name has = fun_ext (λ class. ap (λ own. filter (λ (method : Method). is_name method.name name && is_seen headers start class method) (methods_in own)) (members_same world headers wide members class paired) ∙ by class (members_of world members class) refl)
    where
      by : (class : Name) (own : Option Members) → members_of world members class ≡ own
          → filter (λ (method : Method). is_name method.name name && is_seen headers start class method) (methods_in (members_of world members class))
          ≡ filter (λ (method : Method). is_name method.name name && is_seen world start class method) (methods_in (members_of world members class))
      by class None is =
          subst (λ own. filter (λ (method : Method). is_name method.name name && is_seen headers start class method) (methods_in own)
          ≡ filter (λ (method : Method). is_name method.name name && is_seen world start class method) (methods_in own)) (sym is) refl
      by class (Some own) is =
          let first = interface_same world headers wide class (owner_header world members class own is) in
          let second = interface_same world headers wide start has in
          λ i. filter (λ (method : Method). is_name method.name name
          && ((is_name start class || not (first i) || not (is_of_class method.flags || is_private method.flags))
          && (not (second i) || first i || (is_public method.flags && not (is_of_class method.flags)))
          && not (is_false_constructor method.name method.descriptor))) (methods_in (members_of world members class))

  module _ (call : Call) (from : IsWhole world call.from) (class : IsWhole world call.class) (through : IsThroughWhole world call.through) (arguments : AreAllWhole world call.arguments) where
    candidate_same : is_candidate headers call ≡ is_candidate world call
    candidate_same = λ i one.
        all_assignable_same world headers wide call.arguments arguments i (parameters one.method)
        && inherited_same world headers wide call.class one.owner one.method.flags class i
        && (allows_same world headers wide call.from one.owner one.method.flags call.through from through i
        || (is_name one.owner object_name && is_some_and call.through (λ type. is_array_clone type one.method.name (parameters one.method))))

    candidates_same : candidates headers members call ≡ candidates world members call
    candidates_same = λ i.
        let classes = order_same world headers wide call.name call.class class i in
        let methods = named_same call.class call.name (class call.class (above_itself world call.class)) i in
        filter (candidate_same i) (filter_map (λ wanted. first_with methods wanted classes) (distinct (flat_map (λ class. map parameters (methods class)) classes)))

    -- what is chosen in the world is chosen
    pub chosen_kept : (one : MethodIn) → chosen world members call ≡ Some one → chosen headers members call ≡ Some one
    chosen_kept one is =
        let all = candidates world members call in
        let best = in_filter (λ one. list_all (is_more_specific world one) all) all one (in_sole (filter (λ one. list_all (is_more_specific world one) all) all) one is) in
        let passes = list_all_more (is_more_specific world one) (is_more_specific headers one) all (λ other. all_subtypes_true world headers wide (parameters one.method) (parameters other.method)) best.0 in
        ap (λ all. sole (filter (λ one. list_all (is_more_specific headers one) all) all)) candidates_same
        ∙ ap sole (one_passes (λ (one : MethodIn). parameters one.method) (λ one. list_all (is_more_specific headers one) all) all one (candidates_apart world members call) best.1 passes (λ other there goes.
        all_apart world headers wide (parameters other.method) (parameters one.method)
        (all_at (is_more_specific headers other) all one goes best.1) (all_at (is_more_specific headers one) all other passes there)))
