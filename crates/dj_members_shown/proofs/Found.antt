-- The method that source means is found by its descriptor.
use Rattle.std.proofs.Common.{◌≡◌, ◌⊎◌, inl, inr, Bool, true, false, List, [], ◌∷◌, Option, Some, None, cond, filter, find, filter_map, flat_map, map, refl, sym, ap, subst, ◌∙◌}
use Rattle.std.specs.Prelude.{not}
use Rattle.std.specs.List.{list_all, cons_option}
use Rattle.dj_names.specs.Headers.{Name}
use Rattle.dj_names.specs.Types.{JType, Descriptor, parameters_of}
use Rattle.dj_kinds.specs.Search.{method_order}
use Rattle.dj_values.specs.Deciding.{is_type}
use Rattle.dj_meaning.specs.Members.{Method, parameters, is_bridge}
use Rattle.dj_meaning.specs.Fields.{sole}
use Rattle.dj_meaning.specs.Calls.{MethodIn, all_pairs, counting, named_in, first_with, distinct, is_candidate, candidates, is_more_specific}
use Rattle.dj_members_shown.specs.Found.{HasOne, IsFoundIn, MeantIsFound}

-- one of these
abbrev In : {A : Type 0} → A → List A → Type 0
In one [] = ⊥
In one (first ∷ rest) = (first ≡ one) ⊎ In one rest

in-sole : {A : Type 0} (list : List A) (one : A) → sole list ≡ Some one → In one list
in-sole [] one e = absurd (cc)
in-sole (first ∷ []) one e = inl (let same : first ≡ one = cc in same)
in-sole (first ∷ second ∷ rest) one e = absurd (cc)

in-filter : {A : Type 0} (test : A → Bool) (list : List A) (one : A) → In one (filter test list) → (test one ≡ true) × In one list
in-filter test [] one h = absurd h
in-filter test (first ∷ rest) one h = by (test first) refl h (λ k. let found = in-filter test rest one k in (found.0, inr found.1))
  where
    by : (passes : Bool) → test first ≡ passes → In one (cond passes (first ∷ filter test rest) (filter test rest)) → (In one (filter test rest) → (test one ≡ true) × In one (first ∷ rest)) → (test one ≡ true) × In one (first ∷ rest)
    by true e (inl same) more = (ap test (sym same) ∙ e, inl same)
    by true e (inr k) more = more k
    by false e k more = more k

in-find : {A : Type 0} (test : A → Bool) (list : List A) (one : A) → find test list ≡ Some one → In one list
in-find test [] one e = absurd (cc)
in-find test (first ∷ rest) one e = by (test first) e (in-find test rest one)
  where
    by : (passes : Bool) → cond passes (Some first) (find test rest) ≡ Some one → (find test rest ≡ Some one → In one rest) → In one (first ∷ rest)
    by true f further = inl (let same : first ≡ one = cc in same)
    by false f further = inr (further f)

-- a choice among the methods of a class
in-counting : (list : List Method) (one : Method) → counting list ≡ Some one → In one list
in-counting list one e = by (find (λ (method : Method). not (is_bridge method.flags)) list) refl e
  where
    first_of : Option Method → Option Method
    first_of None = find (λ method. true) list
    first_of (Some method) = Some method

    by : (plain : Option Method) → find (λ (method : Method). not (is_bridge method.flags)) list ≡ plain → first_of plain ≡ Some one → In one list
    by None p f = in-find (λ method. true) list one f
    by (Some method) p f = in-find (λ (method : Method). not (is_bridge method.flags)) list one (p ∙ f)

-- none is chosen where there is none
none-counting : (list : List Method) → counting list ≡ None → list ≡ []
none-counting [] e = refl
none-counting (first ∷ rest) e = by (find (λ (method : Method). not (is_bridge method.flags)) (first ∷ rest)) refl e
  where
    first_of : Option Method → Option Method
    first_of None = find (λ method. true) (first ∷ rest)
    first_of (Some method) = Some method

    by : (plain : Option Method) → find (λ (method : Method). not (is_bridge method.flags)) (first ∷ rest) ≡ plain → first_of plain ≡ None → first ∷ rest ≡ []
    by None p f = absurd (cc)
    by (Some method) p f = absurd (cc)

-- ---- the first class

module _ (methods : Name → List Method) (wanted : List JType) where
  abbrev Alike : Method → Bool
  Alike method = all_pairs is_type (parameters method) wanted

  -- one of a descriptor with these parameters is among them
  has-one : (list : List Method) (one : Method) → In one list → HasOne one.descriptor list
  has-one [] one h = absurd h
  has-one (first ∷ rest) one (inl same) = inl (ap (λ (method : Method). method.descriptor) same)
  has-one (first ∷ rest) one (inr h) = inr (has-one rest one h)

  -- where none has these parameters, none has a descriptor with them
  none-has : (list : List Method) (descriptor : Descriptor) → all_pairs is_type (parameters_of descriptor) wanted ≡ true → filter Alike list ≡ [] → ¬ HasOne descriptor list
  none-has [] descriptor fits e h = absurd h
  none-has (first ∷ rest) descriptor fits e (inl same) = empty (sym (ap (λ test. cond test (first ∷ filter Alike rest) (filter Alike rest)) (ap (λ one. all_pairs is_type (parameters_of one) wanted) same ∙ fits)) ∙ e)
    where
      empty : first ∷ filter Alike rest ≡ [] → ⊥
      empty f = absurd (cc)
  none-has (first ∷ rest) descriptor fits e (inr h) = none-has rest descriptor fits (by (Alike first) e) h
    where
      by : (test : Bool) → cond test (first ∷ filter Alike rest) (filter Alike rest) ≡ [] → filter Alike rest ≡ []
      by true f = absurd (cc)
      by false f = f

  -- what is found has these parameters, and its class is the first that has its descriptor
  pub first-found : (classes : List Name) (one : MethodIn) → first_with methods wanted classes ≡ Some one → (Alike one.method ≡ true) × IsFoundIn methods one.method.descriptor classes one.owner
  first-found [] one e = absurd (cc)
  first-found (class ∷ classes) one e = by (counting (filter Alike (methods class))) refl e (first-found classes one)
    where
      by_own : Option Method → Option MethodIn → Option MethodIn
      by_own None others = others
      by_own (Some method) others = Some (record { owner = class; method = method })

      by : (own : Option Method) → counting (filter Alike (methods class)) ≡ own → by_own own (first_with methods wanted classes) ≡ Some one → (first_with methods wanted classes ≡ Some one → (Alike one.method ≡ true) × IsFoundIn methods one.method.descriptor classes one.owner)
          → (Alike one.method ≡ true) × IsFoundIn methods one.method.descriptor (class ∷ classes) one.owner
      by None c f further =
          let found = further f in
          (found.0, inr (none-has (methods class) one.method.descriptor found.0 (none-counting (filter Alike (methods class)) c), found.1))
      by (Some method) c f further =
          let same : record { owner = class; method = method } ≡ one = cc in
          let there = in-filter Alike (methods class) method (in-counting (filter Alike (methods class)) method c) in
          subst (λ (found : MethodIn). (Alike found.method ≡ true) × IsFoundIn methods found.method.descriptor (class ∷ classes) found.owner) same
          (there.0, inl (refl, has-one (methods class) method there.1))

-- what is made of some is made of one
record IsMade {A B : Type 0} (make : A → Option B) (one : B) : Type 0 where
  from : A
  is : make from ≡ Some one

in-filter-map : {A B : Type 0} (make : A → Option B) (list : List A) (one : B) → In one (filter_map make list) → IsMade make one
in-filter-map make [] one h = absurd h
in-filter-map {B = B} make (first ∷ rest) one h = by (make first) refl h (in-filter-map make rest one)
  where
    by : (found : Option B) → make first ≡ found → In one (cons_option found (filter_map make rest)) → (In one (filter_map make rest) → IsMade make one) → IsMade make one
    by None e k further = further k
    by (Some other) e (inl same) further = record { from = first; is = e ∙ ap Some same }
    by (Some other) e (inr k) further = further k

pub meant-is-found : MeantIsFound
meant-is-found headers members call one e =
    let all = candidates headers members call in
    let specific = in-filter (λ one. list_all (is_more_specific headers one) all) all one (in-sole (filter (λ one. list_all (is_more_specific headers one) all) all) one e) in
    let methods = named_in headers members call.class call.name in
    let classes = method_order headers call.name call.class in
    let types = distinct (flat_map (λ class. map parameters (methods class)) classes) in
    let candidate = in-filter (is_candidate headers call) (filter_map (λ wanted. first_with methods wanted classes) types) one specific.1 in
    let made = in-filter-map (λ wanted. first_with methods wanted classes) types one candidate.1 in
    (first-found methods made.from classes one made.is).1
