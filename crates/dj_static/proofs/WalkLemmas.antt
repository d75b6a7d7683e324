-- A walk up the classes that have no field of a name finds each class whose field the name may mean.
use Rattle.std.proofs.Common.{◌≡◌, ◌≢◌, ◌⊎◌, ℕ, zero, suc, ◌+◌, ◌<◌, ◌-◌, take, drop, Bool, true, false, not, ◌&&◌, if◌then◌else◌, length, List, [], ◌∷◌, ◌++◌, map, Any, Contains, Option, Some, None, slice_get, get_or, refl, sym, ap, subst, ◌∙◌, inl, inr, arith}
use Rattle.std.specs.Prelude.{filter, find, flat_map, is_some, option_map, option_and_then, option_to_list, slice_set, MatchOption, ◌==◌, replicate, ⊤}
use Rattle.std.specs.List.{list_all}
use Rattle.std.proofs.lemmas.Bool.{false≢true, true≢false, eqb-true, eq-eqb, cases_eq, false_from_ne_true}
use Rattle.std.proofs.lemmas.List.{length-append, length-map, at_drop_more, take_rest}
use Rattle.std.proofs.lemmas.Option.{none-some, same_Some, slice_get-map, slice_get_within, get_or_from_slice_get, slice_get-get_or}
use Rattle.dj_names.specs.declared.header.Header.{Header}
use Rattle.dj_names.specs.declared.members.ClassMembers.{ClassMembers}
use Rattle.dj_names.specs.declared.members.Field.{Field}
use Rattle.dj_names.specs.Headers.{Name, names, HasDistinctNames, HasParent, IsPath}
use Rattle.dj_names.proofs.PathLemmas.{short_implements}
use Rattle.dj_values.specs.Deciding.{is_name, is_some_and, parents_of}
use Rattle.dj_values.proofs.Deciding.{Decides-name}
use Rattle.dj_kinds.specs.Search.{enough}
use Rattle.dj_kinds.proofs.HeaderLemmas.{header_of-none, header_of-at}
use Rattle.dj_kinds.proofs.OwnLemmas.{one_place}
use Rattle.dj_meaning.specs.Members as plain
use Rattle.dj_meaning.specs.Members.{Members, view_field, view_members}
use Rattle.dj_meaning.specs.Visible.{members_of, fields_in, parents, is_inherited}
use Rattle.dj_meaning.specs.Fields.{own_field, field_owners, has_from, once, sole}
use Rattle.dj_members.specs.Picks.{IsFirstPick}
use Rattle.dj_static.specs.declared.walks.Walk.{Walk}
use Rattle.dj_static.specs.Walks.{place_of, own_at, meet, meet_named, meet_all, look, only, unmet, IsSole, owners_of}
use Rattle.dj_static.proofs.ListLemmas.{In, ApartBy, in_filter, filter_has, filter_apart, in_append, in_left, in_right, flat_map_has, in_flat_map, each_in, in_once, once_has, once_apart}
use Rattle.dj_static.proofs.VisibleLemmas.{any_from_map, any_to_map, kept_some, some_kept}
use Rattle.dj_static.proofs.HeldLemmas.{Sought, no_members, members_at, sought}

-- ---- places

abbrev pub Named : List Header → ℕ → Name → Type 0
Named headers place class = slice_get (names headers) place ≡ Some class

place_by : (header : Header) (headers : List Header) (class : Name) (at : ℕ) (b : Bool) → is_name header.name class ≡ b → (if b then Some 0 else option_map suc (place_of headers class)) ≡ Some at
    → ((other : ℕ) → place_of headers class ≡ Some other → Named headers other class) → Named (header ∷ headers) at class
place_by header headers class at true is found rest = subst (λ k. Named (header ∷ headers) k class) (same_Some 0 at found) (ap Some ((Decides-name header.name class).0 is))
place_by header headers class at false is found rest = next (place_of headers class) refl found
  where
    next : (o : Option ℕ) → place_of headers class ≡ o → option_map suc o ≡ Some at → Named (header ∷ headers) at class
    next None none found_at = absurd (none-some at found_at)
    next (Some other) some found_at = subst (λ k. Named (header ∷ headers) k class) (same_Some (suc other) at found_at) (rest other some)

pub place_named : (headers : List Header) (class : Name) (at : ℕ) → place_of headers class ≡ Some at → Named headers at class
place_named [] class at found = absurd (none-some at found)
place_named (header ∷ headers) class at found = place_by header headers class at (is_name header.name class) refl found (place_named headers class)

none_by : (header : Header) (headers : List Header) (class : Name) (at : ℕ) (b : Bool) → is_name header.name class ≡ b → (if b then Some 0 else option_map suc (place_of headers class)) ≡ None
    → (place_of headers class ≡ None → (other : ℕ) → ¬ Named headers other class) → ¬ Named (header ∷ headers) at class
none_by header headers class at true is found rest named = none-some 0 (sym found)
none_by header headers class zero false is found rest named = false≢true (sym is ∙ (Decides-name header.name class).1 (same_Some header.name class named))
none_by header headers class (suc at) false is found rest named = rest (next (place_of headers class) found) at named
  where
    next : (o : Option ℕ) → option_map suc o ≡ None → o ≡ None
    next None is_none = refl
    next (Some k) is_none = absurd (none-some (suc k) (sym is_none))

pub no_place : (headers : List Header) (class : Name) → place_of headers class ≡ None → (at : ℕ) → ¬ Named headers at class
no_place [] class found zero named = none-some class named
no_place [] class found (suc at) named = none-some class named
no_place (header ∷ headers) class found at named = none_by header headers class at (is_name header.name class) refl found (no_place headers class) named

contains_at : (xs : List Name) (k : ℕ) (x : Name) → slice_get xs k ≡ Some x → Contains xs x
contains_at xs k x is = (k, slice_get_within xs k x is, get_or_from_slice_get xs k x x is)

-- the place that a table of places tells
pub place_is : (headers : List Header) (class : Name) (found : Option ℕ) → HasDistinctNames headers
    → MatchOption found (¬ Contains (names headers) class) (λ at. Named headers at class) → found ≡ place_of headers class
place_is headers class found distinct told = by_place (place_of headers class) refl found told
  where
    by_place : (o : Option ℕ) → place_of headers class ≡ o → (found : Option ℕ) → MatchOption found (¬ Contains (names headers) class) (λ at. Named headers at class) → found ≡ o
    by_place None is None told = refl
    by_place None is (Some at) told = absurd (no_place headers class is at told)
    by_place (Some at) is None told = absurd (told (contains_at (names headers) at class (place_named headers class at is)))
    by_place (Some at) is (Some other) told = ap Some (one_place headers class distinct other at told (place_named headers class at is))

place_within : (headers : List Header) (at : ℕ) (class : Name) → Named headers at class → at < length headers
place_within [] zero class named = absurd (none-some class named)
place_within [] (suc at) class named = absurd (none-some class named)
place_within (header ∷ headers) zero class named = omega arith
place_within (header ∷ headers) (suc at) class named = let rest = place_within headers at class named in omega (arith, rest)

-- ---- marks

get_set : (xs : List Bool) (at : ℕ) → slice_get xs at ≡ Some false → slice_get (slice_set xs at true) at ≡ Some true
get_set [] zero is = absurd (none-some false is)
get_set [] (suc at) is = absurd (none-some false is)
get_set (x ∷ xs) zero is = refl
get_set (x ∷ xs) (suc at) is = get_set xs at is

get_other : (xs : List Bool) (at other : ℕ) → at ≢ other → slice_get (slice_set xs at true) other ≡ slice_get xs other
get_other [] at other apart = refl
get_other (x ∷ xs) zero zero apart = absurd (apart refl)
get_other (x ∷ xs) zero (suc other) apart = refl
get_other (x ∷ xs) (suc at) zero apart = refl
get_other (x ∷ xs) (suc at) (suc other) apart = get_other xs at other (λ same. apart (ap suc same))

size_set : (xs : List Bool) (at : ℕ) → length (slice_set xs at true) ≡ length xs
size_set [] at = refl
size_set (x ∷ xs) zero = refl
size_set (x ∷ xs) (suc at) = ap suc (size_set xs at)

unmet_set : (xs : List Bool) (at : ℕ) → slice_get xs at ≡ Some false → suc (unmet (slice_set xs at true)) ≡ unmet xs
unmet_set [] zero is = absurd (none-some false is)
unmet_set [] (suc at) is = absurd (none-some false is)
unmet_set (true ∷ xs) zero is = absurd (true≢false (same_Some true false is))
unmet_set (false ∷ xs) zero is = refl
unmet_set (true ∷ xs) (suc at) is = unmet_set xs at is
unmet_set (false ∷ xs) (suc at) is = ap suc (unmet_set xs at is)

there_at : (xs : List Bool) (k n : ℕ) → length xs ≡ n → k < n → slice_get xs k ≢ None
there_at [] k n size below none = absurd (omega (arith, size, below))
there_at (x ∷ xs) zero n size below none = none-some x (sym none)
there_at (x ∷ xs) (suc k) n size below none = there_at xs k (length xs) refl (omega (arith, size, below)) none

-- ---- what is met

abbrev pub Met : Walk → ℕ → Type 0
Met walk place = slice_get walk.met place ≡ Some true

-- the place of one of these classes
pub record IsPlaceOf (headers : List Header) (classes : List Name) (place : ℕ) : Type 0 where
  class : Name
  among : In class classes
  named : Named headers place class

-- what a walk does that meets the places of classes
pub record Meets (headers : List Header) (classes : List Name) (before after : Walk) : Type 0 where
  size : length after.met ≡ length before.met
  grows : (p : ℕ) → Met before p → Met after p
  all_met : (class : Name) → In class classes → (p : ℕ) → Named headers p class → Met after p
  new : (p : ℕ) → Met after p → Met before p ⊎ (In p after.waiting × IsPlaceOf headers classes p)
  kept : (p : ℕ) → In p before.waiting → In p after.waiting
  waits : ((p : ℕ) → In p before.waiting → Met before p) → (p : ℕ) → In p after.waiting → Met after p
  owners : after.owners ≡ before.owners
  rest : unmet after.met + length after.waiting ≡ unmet before.met + length before.waiting

module _ (headers : List Header) (distinct : HasDistinctNames headers) where
  meets_none : (walk : Walk) (classes : List Name) → ((class : Name) → In class classes → (p : ℕ) → Named headers p class → Met walk p) → Meets headers classes walk walk
  meets_none walk classes met = record { size = refl; grows = λ p is. is; all_met = met; new = λ p is. inl is; kept = λ p is. is; waits = λ old. old; owners = refl; rest = refl }

  meet_known : (at : ℕ) (walk : Walk) → slice_get walk.met at ≡ Some true → meet at walk ≡ walk
  meet_known at walk is = rw is refl

  met_one : ℕ → Walk → Walk
  met_one at walk = record { met = slice_set walk.met at true; waiting = walk.waiting ++ at ∷ []; owners = walk.owners }

  meet_new : (at : ℕ) (walk : Walk) → slice_get walk.met at ≡ Some false → meet at walk ≡ met_one at walk
  unfolding met_one
  meet_new at walk is = rw is refl

  only_named : (class : Name) (at : ℕ) → Named headers at class → (other : Name) → In other (class ∷ []) → (p : ℕ) → Named headers p other → at ≡ p
  only_named class at named other (inl same) p other_named = one_place headers class distinct at p named (subst (λ n. Named headers p n) same other_named)
  only_named class at named other (inr none) p other_named = absurd none

  one_met : (class : Name) (at : ℕ) (walk : Walk) → Named headers at class → slice_get walk.met at ≡ Some false → Meets headers (class ∷ []) walk (met_one at walk)
  unfolding met_one
  one_met class at walk named is = record {
    size = size_set walk.met at;
    grows = grows;
    all_met = λ other among p other_named. subst (λ k. slice_get (slice_set walk.met at true) k ≡ Some true) (only_named class at named other among p other_named) (get_set walk.met at is);
    new = new;
    kept = λ p there. in_left p walk.waiting (at ∷ []) there;
    waits = λ old p there. elim (in_append p walk.waiting (at ∷ []) there) [
      | inl before ↦ grows p (old p before)
      | inr here ↦ elim here [ inl same ↦ subst (λ k. slice_get (slice_set walk.met at true) k ≡ Some true) (sym same) (get_set walk.met at is) | inr none ↦ absurd none ]
    ];
    owners = refl;
    rest = (let e = unmet_set walk.met at is in omega (arith, e, length-append walk.waiting (at ∷ [])));
  }
    where
      grows : (p : ℕ) → Met walk p → slice_get (slice_set walk.met at true) p ≡ Some true
      grows p met = elim (cases_eq at p) [
        | inl same ↦ subst (λ k. slice_get (slice_set walk.met at true) k ≡ Some true) same (get_set walk.met at is)
        | inr apart ↦ get_other walk.met at p apart ∙ met
      ]

      new : (p : ℕ) → slice_get (slice_set walk.met at true) p ≡ Some true → Met walk p ⊎ (In p (walk.waiting ++ at ∷ []) × IsPlaceOf headers (class ∷ []) p)
      new p met = elim (cases_eq at p) [
        | inl same ↦ inr (in_right p walk.waiting (at ∷ []) (inl (sym same)), record { class = class; among = inl refl; named = subst (λ k. Named headers k class) same named })
        | inr apart ↦ inl (sym (get_other walk.met at p apart) ∙ met)
      ]

  meets_place : (class : Name) (at : ℕ) (walk : Walk) → length walk.met ≡ length headers → Named headers at class → (mark : Option Bool) → slice_get walk.met at ≡ mark → Meets headers (class ∷ []) walk (meet at walk)
  meets_place class at walk size named None is = absurd (there_at walk.met at (length headers) size (place_within headers at class named) is)
  meets_place class at walk size named (Some true) is =
      subst (Meets headers (class ∷ []) walk) (sym (meet_known at walk is))
      (meets_none walk (class ∷ []) (λ other among p other_named. subst (λ k. Met walk k) (only_named class at named other among p other_named) is))
  meets_place class at walk size named (Some false) is = subst (Meets headers (class ∷ []) walk) (sym (meet_new at walk is)) (one_met class at walk named is)

  meets_named : (class : Name) (walk : Walk) → length walk.met ≡ length headers → (place : Option ℕ) → place_of headers class ≡ place → Meets headers (class ∷ []) walk (meet_named headers class walk)
  meets_named class walk size None is =
      subst (Meets headers (class ∷ []) walk) (rw is refl)
      (meets_none walk (class ∷ []) (λ other among p named. absurd (elim among [ inl same ↦ no_place headers class is p (subst (λ n. Named headers p n) same named) | inr none ↦ absurd none ])))
  meets_named class walk size (Some at) is =
      subst (Meets headers (class ∷ []) walk) (let e : meet at walk ≡ meet_named headers class walk = rw is refl in e)
      (meets_place class at walk size (place_named headers class at is) (slice_get walk.met at) refl)

  meets_then : (class : Name) (classes : List Name) (first second third : Walk) → Meets headers (class ∷ []) first second → Meets headers classes second third → Meets headers (class ∷ classes) first third
  meets_then class classes first second third a b = record {
    size = b.size ∙ a.size;
    grows = λ p met. b.grows p (a.grows p met);
    all_met = all_met;
    new = new;
    kept = λ p there. b.kept p (a.kept p there);
    waits = λ old p there. b.waits (a.waits old) p there;
    owners = b.owners ∙ a.owners;
    rest = b.rest ∙ a.rest;
  }
    where
      all_met : (other : Name) → In other (class ∷ classes) → (p : ℕ) → Named headers p other → Met third p
      all_met other (inl same) p named = b.grows p (a.all_met other (inl same) p named)
      all_met other (inr later) p named = b.all_met other later p named

      new : (p : ℕ) → Met third p → Met first p ⊎ (In p third.waiting × IsPlaceOf headers (class ∷ classes) p)
      new p met = elim (b.new p met) [
        | inl before ↦ elim (a.new p before) [
          | inl old ↦ inl old
          | inr one ↦ inr (b.kept p one.0, (let it = one.1 in record { class = it.class; among = elim it.among [ inl same ↦ inl same | inr none ↦ absurd none ]; named = it.named }))
        ]
        | inr later ↦ inr (later.0, (let it = later.1 in record { class = it.class; among = inr it.among; named = it.named }))
      ]

  meets_all : (classes : List Name) (walk : Walk) → length walk.met ≡ length headers → Meets headers classes walk (meet_all headers classes walk)
  meets_all [] walk size = meets_none walk [] (λ class among p named. absurd among)
  meets_all (class ∷ classes) walk size =
      let first = meets_named class walk size (place_of headers class) refl in
      meets_then class classes walk (meet_named headers class walk) (meet_all headers classes (meet_named headers class walk)) first (meets_all classes (meet_named headers class walk) (first.size ∙ size))

-- ---- fields by places

find_by : {A B : Type 0} (test : B → Bool) (view : A → B) (x : A) (rest : Option B) (others : Option A) (b : Bool) → rest ≡ option_map view others
    → (if b then Some (view x) else rest) ≡ option_map view (if b then Some x else others)
find_by test view x rest others true same = refl
find_by test view x rest others false same = same

find-map : {A B : Type 0} (test : B → Bool) (view : A → B) (xs : List A) → find test (map view xs) ≡ option_map view (find (λ x. test (view x)) xs)
find-map test view [] = refl
find-map test view (x ∷ xs) = find_by test view x (find test (map view xs)) (find (λ y. test (view y)) xs) (test (view x)) (find-map test view xs)

module _ (headers : List Header) (members : List ClassMembers) (class name : Name) where
  abbrev pub own : Name → Option plain.Field
  own = own_field headers (map view_members members) name

  abbrev is_field : plain.Field → Bool
  is_field field = is_name field.name name

  abbrev pub above : Name → List Name
  above = parents headers

  -- a step up from a class that has no field of the name itself
  abbrev pub Step : Name → Name → Type 0
  Step lower upper = (own lower ≡ None) × In upper (above lower)

  pub record IsReached (at : Name) : Type 0 where
    path : List Name
    is_path : IsPath Step class path at

  -- an owner's place
  pub record IsOwner (place : ℕ) : Type 0 where
    at : Name
    named : Named headers place at
    reached : IsReached at
    has : has_from headers (map view_members members) name class at ≡ true

  -- what a walk keeps
  pub record Walking (walk : Walk) : Type 0 where
    size : length walk.met ≡ length headers
    start : (p : ℕ) → Named headers p class → Met walk p
    waits : (p : ℕ) → In p walk.waiting → Met walk p
    reached : (p : ℕ) (at : Name) → Met walk p → Named headers p at → IsReached at
    closed : (p : ℕ) (at : Name) → Met walk p → ¬ In p walk.waiting → Named headers p at → own at ≡ None → (next : Name) → In next (above at) → (q : ℕ) → Named headers q next → Met walk q
    sound : (p : ℕ) → In p walk.owners → IsOwner p
    complete : (p : ℕ) (at : Name) → Met walk p → ¬ In p walk.waiting → Named headers p at → has_from headers (map view_members members) name class at ≡ true → In p walk.owners

  module _ (distinct : HasDistinctNames headers) where
    own_none : (place : ℕ) (declared : Option ClassMembers) → slice_get members place ≡ declared → ((there : ClassMembers) → declared ≢ Some there) → None ≡ option_map view_field (own_at members name place)
    own_none place None is nothing = rw is refl
    own_none place (Some declared) is nothing = absurd (nothing declared refl)

    own_by : (place : ℕ) (at : Name) → Named headers place at → (found : Option Members) → Sought headers members at found → find is_field (fields_in found) ≡ option_map view_field (own_at members name place)
    own_by place at named _ (no_members nowhere) = own_none place (slice_get members place) refl (λ declared is. nowhere place declared (record { named = named; there = is }))
    own_by place at named _ (members_at other declared is) =
        let there : slice_get members place ≡ Some declared = ap (λ k. slice_get members k) (one_place headers at distinct place other named is.named) ∙ is.there in
        find-map is_field view_field declared.fields ∙ (rw there refl)

    -- the field of a class that stands at a place
    pub own_is : (place : ℕ) (at : Name) → Named headers place at → own at ≡ option_map view_field (own_at members name place)
    own_is place at named = own_by place at named (members_of headers (map view_members members) at) (sought headers members at)

    own_nowhere : (at : Name) (found : Option Members) → Sought headers members at found → place_of headers at ≡ None → find is_field (fields_in found) ≡ None
    own_nowhere at _ (no_members nowhere) none = refl
    own_nowhere at _ (members_at place declared is) none = absurd (no_place headers at none place is.named)

    pub own_without : (at : Name) → place_of headers at ≡ None → own at ≡ None
    own_without at none = own_nowhere at (members_of headers (map view_members members) at) (sought headers members at) none

    -- ---- the classes right above one

    not_contained : (at : Name) → place_of headers at ≡ None → ¬ Contains (names headers) at
    not_contained at none (k, within, is) = no_place headers at none k (slice_get-get_or (names headers) k at within ∙ ap Some is)

    pub above_none : (at : Name) → place_of headers at ≡ None → above at ≡ []
    above_none at none = rw (header_of-none headers at (not_contained at none)) refl

    pub above_is : (place : ℕ) (at : Name) (header : Header) → Named headers place at → slice_get headers place ≡ Some header → above at ≡ parents_of header
    above_is place at header named is = rw (header_of-at headers place at distinct named ∙ is) refl

    pub named_header : (place : ℕ) (header : Header) → slice_get headers place ≡ Some header → Named headers place header.name
    named_header place header is = slice_get-map (λ (h : Header). h.name) headers place ∙ ap (option_map (λ (h : Header). h.name)) is

    header_there : (place : ℕ) (at : Name) (found : Option Header) → slice_get headers place ≡ found → Named headers place at → (header : Header) × (slice_get headers place ≡ Some header) × (header.name ≡ at)
    header_there place at None is named = absurd (none-some at (ap (option_map (λ (h : Header). h.name)) (sym is) ∙ sym (slice_get-map (λ (h : Header). h.name) headers place) ∙ named))
    header_there place at (Some header) is named = (header, is, same_Some header.name at (sym (named_header place header is) ∙ named))

    -- ---- the walk

    join : (lower : Name) (path : List Name) (middle upper : Name) → IsPath Step lower path middle → Step middle upper → IsPath Step lower (path ++ upper ∷ []) upper
    join lower [] middle upper same step = (subst (λ n. Step n upper) (sym same) step, refl)
    join lower (next ∷ path) middle upper steps step = (steps.0, join next path middle upper steps.1 step)

    module _ (walk before after : Walk) (rest : List ℕ) (place : ℕ) (walking : Walking walk) (popped : walk.waiting ≡ rest ++ place ∷ [])
        (before_met : before.met ≡ walk.met) (before_waiting : before.waiting ≡ rest) (before_owners : before.owners ≡ walk.owners) where
      place_waits : In place walk.waiting
      place_waits = subst (In place) (sym popped) (in_right place rest (place ∷ []) (inl refl))

      met_before : (p : ℕ) → Met walk p → Met before p
      met_before p met = subst (λ m. slice_get m p ≡ Some true) (sym before_met) met

      met_walk : (p : ℕ) → Met before p → Met walk p
      met_walk p met = subst (λ m. slice_get m p ≡ Some true) before_met met

      waits_still : (p : ℕ) → place ≢ p → In p walk.waiting → In p before.waiting
      waits_still p apart there =
          subst (In p) (sym before_waiting)
          (elim (in_append p rest (place ∷ []) (subst (In p) popped there)) [ inl first ↦ first | inr last ↦ elim last [ inl same ↦ absurd (apart (sym same)) | inr none ↦ absurd none ] ])

      waits_before : (p : ℕ) → In p before.waiting → Met before p
      waits_before p there = met_before p (walking.waits p (subst (In p) (sym popped) (in_left p rest (place ∷ []) (subst (In p) before_waiting there))))

      -- a place without the field whose parents were met
      pub step_up : (at : Name) → Named headers place at → own at ≡ None → Meets headers (above at) before after → Walking after
      step_up at named none meets = record {
        size = meets.size ∙ ap length before_met ∙ walking.size;
        start = λ p is. meets.grows p (met_before p (walking.start p is));
        waits = meets.waits waits_before;
        reached = reached;
        closed = closed;
        sound = λ p there. walking.sound p (subst (In p) (meets.owners ∙ before_owners) there);
        complete = complete;
      }
        where
          reached : (p : ℕ) (other : Name) → Met after p → Named headers p other → IsReached other
          reached p other met is = elim (meets.new p met) [
            | inl old ↦ walking.reached p other (met_walk p old) is
            | inr new ↦ (
                let it = new.1 in
                let from = walking.reached place at (walking.waits place place_waits) named in
                let same : it.class ≡ other = same_Some it.class other (sym it.named ∙ is) in
                subst IsReached same (record { path = from.path ++ it.class ∷ []; is_path = join class from.path at it.class from.is_path (none, it.among) }))
          ]

          closed : (p : ℕ) (other : Name) → Met after p → ¬ In p after.waiting → Named headers p other → own other ≡ None → (next : Name) → In next (above other) → (q : ℕ) → Named headers q next → Met after q
          closed p other met done is nothing next there q next_is = elim (meets.new p met) [
            | inl old ↦ elim (cases_eq place p) [
              | inl same ↦ (
                  let same_name : at ≡ other = same_Some at other (sym named ∙ subst (λ k. Named headers k other) (sym same) is) in
                  meets.all_met next (subst (λ n. In next (above n)) (sym same_name) there) q next_is)
              | inr apart ↦ meets.grows q (met_before q (walking.closed p other (met_walk p old) (λ waiting. done (meets.kept p (waits_still p apart waiting))) is nothing next there q next_is))
            ]
            | inr new ↦ absurd (done new.0)
          ]

          complete : (p : ℕ) (other : Name) → Met after p → ¬ In p after.waiting → Named headers p other → has_from headers (map view_members members) name class other ≡ true → In p after.owners
          complete p other met done is has = elim (meets.new p met) [
            | inl old ↦ elim (cases_eq place p) [
              | inl same ↦ (
                  let same_name : at ≡ other = same_Some at other (sym named ∙ subst (λ k. Named headers k other) (sym same) is) in
                  absurd (false≢true (ap (λ o. is_some_and o (λ (field : plain.Field). is_inherited headers class other field.flags)) (sym none ∙ ap own same_name) ∙ has)))
              | inr apart ↦ subst (In p) (sym (meets.owners ∙ before_owners)) (walking.complete p other (met_walk p old) (λ waiting. done (meets.kept p (waits_still p apart waiting))) is has)
            ]
            | inr new ↦ absurd (done new.0)
          ]

      -- a place with the field, which is an owner's or isn't
      pub step_owner : (at : Name) → (Named headers place at → own at ≢ None) → Named headers place at ⊎ ((other : Name) → ¬ Named headers place other) → after.met ≡ walk.met → after.waiting ≡ rest
          → ((p : ℕ) → In p after.owners → IsOwner p) → ((p : ℕ) → In p walk.owners → In p after.owners)
          → (Named headers place at → has_from headers (map view_members members) name class at ≡ true → In place after.owners) → Walking after
      step_owner at some there after_met after_waiting sound grows owner = record {
        size = ap length after_met ∙ walking.size;
        start = λ p is. met_after p (walking.start p is);
        waits = λ p waiting. met_after p (walking.waits p (subst (In p) (sym popped) (in_left p rest (place ∷ []) (subst (In p) after_waiting waiting))));
        reached = λ p other met is. walking.reached p other (met_here p met) is;
        closed = closed;
        sound = sound;
        complete = complete;
      }
        where
          met_after : (p : ℕ) → Met walk p → Met after p
          met_after p met = subst (λ m. slice_get m p ≡ Some true) (sym after_met) met

          met_here : (p : ℕ) → Met after p → Met walk p
          met_here p met = subst (λ m. slice_get m p ≡ Some true) after_met met

          not_waiting : (p : ℕ) → place ≢ p → ¬ In p after.waiting → ¬ In p walk.waiting
          not_waiting p apart done waiting = done (subst (In p) (before_waiting ∙ sym after_waiting) (waits_still p apart waiting))

          same_name : (p : ℕ) (other : Name) → place ≡ p → Named headers p other → Named headers place at × (at ≡ other)
          same_name p other same is =
              let here : Named headers place other = subst (λ k. Named headers k other) (sym same) is in
              elim there [ inl named ↦ (named, same_Some at other (sym named ∙ here)) | inr nothing ↦ absurd (nothing other here) ]

          closed : (p : ℕ) (other : Name) → Met after p → ¬ In p after.waiting → Named headers p other → own other ≡ None → (next : Name) → In next (above other) → (q : ℕ) → Named headers q next → Met after q
          closed p other met done is nothing next above_is q next_is = elim (cases_eq place p) [
            | inl same ↦ (let both = same_name p other same is in absurd (some both.0 (ap own both.1 ∙ nothing)))
            | inr apart ↦ met_after q (walking.closed p other (met_here p met) (not_waiting p apart done) is nothing next above_is q next_is)
          ]

          complete : (p : ℕ) (other : Name) → Met after p → ¬ In p after.waiting → Named headers p other → has_from headers (map view_members members) name class other ≡ true → In p after.owners
          complete p other met done is has = elim (cases_eq place p) [
            | inl same ↦ (
                let both = same_name p other same is in
                subst (λ k. In k after.owners) same (owner both.0 (subst (λ n. has_from headers (map view_members members) name class n ≡ true) (sym both.1) has)))
            | inr apart ↦ grows p (walking.complete p other (met_here p met) (not_waiting p apart done) is has)
          ]

      -- ---- a step of the walk

      look_nothing : slice_get headers place ≡ None → look headers members class name place before ≡ before
      look_nothing is = rw is refl

      look_up : (header : Header) → slice_get headers place ≡ Some header → own_at members name place ≡ None → look headers members class name place before ≡ meet_all headers (parents_of header) before
      look_up header is none = rw (is, none) refl

      look_found : (header : Header) (field : Field) → slice_get headers place ≡ Some header → own_at members name place ≡ Some field → (b : Bool) → is_inherited headers class header.name field.flags ≡ b
          → look headers members class name place before ≡ (if b then record { met = before.met; waiting = before.waiting; owners = before.owners ++ place ∷ [] } else before)
      look_found header field is found true inherits = rw (is, found, inherits) refl
      look_found header field is found false inherits = rw (is, found, inherits) refl

module _ (headers : List Header) (members : List ClassMembers) (class name : Name) (distinct : HasDistinctNames headers) where
  -- what a step keeps: what a walk keeps, and how many places are left
  pub record Steps (before after : Walk) : Type 0 where
    pub walking : Walking headers members class name after
    pub rest : unmet after.met + length after.waiting ≡ unmet before.met + length before.waiting

  module _ (walk before : Walk) (rest : List ℕ) (place : ℕ) (walking : Walking headers members class name walk) (popped : walk.waiting ≡ rest ++ place ∷ [])
      (before_met : before.met ≡ walk.met) (before_waiting : before.waiting ≡ rest) (before_owners : before.owners ≡ walk.owners) where
    abbrev found_at : Name → Bool
    found_at at = has_from headers (map view_members members) name class at

    abbrev is_own : Name → Option plain.Field
    is_own = own headers members class name

    still : (at : Name) → (Named headers place at → is_own at ≢ None) → Named headers place at ⊎ ((other : Name) → ¬ Named headers place other) → (Named headers place at → found_at at ≡ false) → Steps before before
    still at some there not_found = record {
      walking = step_owner headers members class name distinct walk before before rest place walking popped before_met before_waiting before_owners at some there before_met before_waiting
          (λ p is. walking.sound p (subst (In p) before_owners is)) (λ p is. subst (In p) (sym before_owners) is) (λ named found. absurd (false≢true (sym (not_found named) ∙ found)));
      rest = refl;
    }

    found_by : (header : Header) (field : Field) → slice_get headers place ≡ Some header → own_at members name place ≡ Some field → (b : Bool) → is_inherited headers class header.name field.flags ≡ b
        → Steps before (if b then record { met = before.met; waiting = before.waiting; owners = before.owners ++ place ∷ [] } else before)
    found_by header field is field_is false inherits =
        let named = named_header headers members class name distinct place header is in
        let own_field_is = own_is headers members class name distinct place header.name named ∙ ap (option_map view_field) field_is in
        still header.name (λ at none. none-some (view_field field) (sym none ∙ own_field_is)) (inl named)
        (λ at. ap (λ o. is_some_and o (λ (f : plain.Field). is_inherited headers class header.name f.flags)) own_field_is ∙ inherits)
    found_by header field is field_is true inherits =
        let named = named_header headers members class name distinct place header is in
        let own_field_is = own_is headers members class name distinct place header.name named ∙ ap (option_map view_field) field_is in
        let has : found_at header.name ≡ true = ap (λ o. is_some_and o (λ (f : plain.Field). is_inherited headers class header.name f.flags)) own_field_is ∙ inherits in
        let reached = walking.reached place header.name (walking.waits place (place_waits headers members class name distinct walk before before rest place walking popped before_met before_waiting before_owners)) named in
        let after : Walk = record { met = before.met; waiting = before.waiting; owners = before.owners ++ place ∷ [] } in
        record {
          walking = step_owner headers members class name distinct walk before after rest place walking popped before_met before_waiting before_owners header.name
              (λ at none. none-some (view_field field) (sym none ∙ own_field_is)) (inl named) before_met before_waiting
              (λ p there. elim (in_append p before.owners (place ∷ []) there) [
                | inl old ↦ walking.sound p (subst (In p) before_owners old)
                | inr new ↦ elim new [
                  | inl same ↦ record { at = header.name; named = subst (λ k. Named headers k header.name) (sym same) named; reached = reached; has = has }
                  | inr none ↦ absurd none
                ]
              ])
              (λ p is_there. in_left p before.owners (place ∷ []) (subst (In p) (sym before_owners) is_there)) (λ at found. in_right place before.owners (place ∷ []) (inl refl));
          rest = refl;
        }

    step_by : (found : Option Header) → slice_get headers place ≡ found → (declared : Option Field) → own_at members name place ≡ declared → Steps before (look headers members class name place before)
    step_by None is declared own_is_declared =
        subst (Steps before) (sym (look_nothing headers members class name distinct walk before before rest place walking popped before_met before_waiting before_owners is))
        (still class (λ named. absurd (nowhere class named)) (inr nowhere) (λ named. absurd (nowhere class named)))
      where
        nowhere : (other : Name) → ¬ Named headers place other
        nowhere other named = let it = header_there headers members class name distinct place other (slice_get headers place) refl named in none-some it.0 (sym is ∙ it.1)
    step_by (Some header) is None none =
        let named = named_header headers members class name distinct place header is in
        let own_none_is = own_is headers members class name distinct place header.name named ∙ ap (option_map view_field) none in
        let meets = subst (λ l. Meets headers l before (meet_all headers (parents_of header) before)) (sym (above_is headers members class name distinct place header.name header named is))
        (meets_all headers distinct (parents_of header) before (ap length before_met ∙ walking.size)) in
        subst (Steps before) (sym (look_up headers members class name distinct walk before before rest place walking popped before_met before_waiting before_owners header is none))
        (record {
          walking = step_up headers members class name distinct walk before (meet_all headers (parents_of header) before) rest place walking popped before_met before_waiting before_owners header.name named own_none_is meets;
          rest = meets.rest;
        })
    step_by (Some header) is (Some field) field_is =
        subst (Steps before) (sym (look_found headers members class name distinct walk before before rest place walking popped before_met before_waiting before_owners header field is field_is (is_inherited headers class header.name field.flags) refl))
        (found_by header field is field_is (is_inherited headers class header.name field.flags) refl)

    -- a step of the walk
    pub stepped : Steps before (look headers members class name place before)
    stepped = step_by (slice_get headers place) refl (own_at members name place) refl

  -- a walk as it begins
  pub started : (walk : Walk) → length walk.met ≡ length headers → ((p : ℕ) → ¬ Met walk p) → walk.waiting ≡ [] → walk.owners ≡ [] → Walking headers members class name (meet_named headers class walk)
  started walk size unmet_all waiting owners =
      let meets = meets_named headers distinct class walk size (place_of headers class) refl in
      record {
        size = meets.size ∙ size;
        start = λ p is. meets.all_met class (inl refl) p is;
        waits = meets.waits (λ p there. absurd (subst (In p) waiting there));
        reached = λ p at met is. elim (meets.new p met) [
          | inl old ↦ absurd (unmet_all p old)
          | inr new ↦ (
              let it = new.1 in
              let same : class ≡ at = elim it.among [ inl here ↦ sym here ∙ same_Some it.class at (sym it.named ∙ is) | inr none ↦ absurd none ] in
              record { path = []; is_path = same })
        ];
        closed = λ p at met done is none next there q next_is. absurd (elim (meets.new p met) [ inl old ↦ unmet_all p old | inr new ↦ done new.0 ]);
        sound = λ p there. absurd (subst (In p) (meets.owners ∙ owners) there);
        complete = λ p at met done is has. absurd (elim (meets.new p met) [ inl old ↦ unmet_all p old | inr new ↦ done new.0 ]);
      }

  -- ---- paths that are short

  abbrev owner_of : Name → Option plain.Field
  owner_of = own_field headers (map view_members members) name

  -- a header that names classes above its own only where that has no field of the name itself
  abbrev without_field : Header → Header
  without_field header = record {
    name = header.name;
    superclass = if not (is_some (owner_of header.name)) then header.superclass else None;
    interfaces = if not (is_some (owner_of header.name)) then header.interfaces else [];
    flags = header.flags;
  }

  abbrev cut : List Header
  cut = map without_field headers

  no_owner : (found : Option plain.Field) → not (is_some found) ≡ true → found ≡ None
  no_owner None is = refl
  no_owner (Some field) is = absurd (false≢true is)

  any_at : {A : Type 0} (P : A → Type 0) (xs : List A) (k : ℕ) (x : A) → slice_get xs k ≡ Some x → P x → Any P xs
  any_at P xs k x is h = (k, x, slice_get_within xs k x is, get_or_from_slice_get xs k x x is, h)

  contains_in : (xs : List Name) (x : Name) → Contains xs x → In x xs
  contains_in [] x (k, within, is) = absurd (omega arith)
  contains_in (y ∷ ys) x (zero, within, is) = inl (sym is)
  contains_in (y ∷ ys) x (suc k, within, is) = inr (contains_in ys x (k, omega arith, is))

  in_contains : (xs : List Name) (x : Name) → In x xs → Contains xs x
  in_contains [] x there = absurd there
  in_contains (y ∷ ys) x (inl same) = (0, omega arith, sym same)
  in_contains (y ∷ ys) x (inr later) = let rest = in_contains ys x later in (suc rest.0, omega (arith, rest.1), rest.2)

  some_in : (found : Option Name) (x : Name) → In x (option_to_list found) → found ≡ Some x
  some_in None x there = absurd there
  some_in (Some y) x (inl same) = ap Some (sym same)
  some_in (Some y) x (inr none) = absurd none

  in_some : (found : Option Name) (x : Name) → found ≡ Some x → In x (option_to_list found)
  in_some None x is = absurd (none-some x is)
  in_some (Some y) x is = inl (sym (same_Some y x is))

  kept_list : (b : Bool) (xs : List Name) (x : Name) → In x (if b then xs else []) → (b ≡ true) × In x xs
  kept_list true xs x there = (refl, there)
  kept_list false xs x there = absurd there

  list_kept : (b : Bool) (xs : List Name) (x : Name) → b ≡ true → In x xs → In x (if b then xs else [])
  list_kept true xs x holds there = there
  list_kept false xs x holds there = absurd (false≢true holds)

  step_to : (lower upper : Name) → Step headers members class name lower upper → HasParent cut lower upper
  step_to lower upper step = by_place (place_of headers lower) refl
    where
      up : (place : ℕ) (header : Header) → slice_get headers place ≡ Some header → header.name ≡ lower → HasParent cut lower upper
      up place header is named =
          let there : Named headers place lower = named_header headers members class name distinct place header is ∙ ap Some named in
          let among = subst (In upper) (above_is headers members class name distinct place lower header there is) step.1 in
          let free : not (is_some (owner_of header.name)) ≡ true = ap (λ n. not (is_some (owner_of n))) named ∙ ap (λ o. not (is_some o)) step.0 in
          elim (in_append upper (option_to_list header.superclass) header.interfaces among) [
            | inl above_it ↦ inl (any_to_map (λ (h : Header). (h.name ≡ lower) × (h.superclass ≡ Some upper)) without_field headers
                (any_at (λ (h : Header). ((without_field h).name ≡ lower) × ((without_field h).superclass ≡ Some upper)) headers place header is
                (named, some_kept (not (is_some (owner_of header.name))) header.superclass upper free (some_in header.superclass upper above_it))))
            | inr beside_it ↦ inr (any_to_map (λ (h : Header). (h.name ≡ lower) × Contains h.interfaces upper) without_field headers
                (any_at (λ (h : Header). ((without_field h).name ≡ lower) × Contains (without_field h).interfaces upper) headers place header is
                (named, in_contains (if not (is_some (owner_of header.name)) then header.interfaces else []) upper (list_kept (not (is_some (owner_of header.name))) header.interfaces upper free beside_it))))
          ]

      by_place : (found : Option ℕ) → place_of headers lower ≡ found → HasParent cut lower upper
      by_place None none = absurd (subst (In upper) (above_none headers members class name distinct lower none) step.1)
      by_place (Some place) is =
          let it = header_there headers members class name distinct place lower (slice_get headers place) refl (place_named headers lower place is) in
          up place it.0 it.1 it.2

  up_step : (k : ℕ) (header : Header) (lower upper : Name) → k < length headers → get_or headers k header ≡ header → header.name ≡ lower → not (is_some (owner_of header.name)) ≡ true
      → In upper (parents_of header) → Step headers members class name lower upper
  up_step k header lower upper within is named free among =
      let there : slice_get headers k ≡ Some header = slice_get-get_or headers k header within ∙ ap Some is in
      let place : Named headers k lower = named_header headers members class name distinct k header there ∙ ap Some named in
      (ap owner_of (sym named) ∙ no_owner (owner_of header.name) free, subst (In upper) (sym (above_is headers members class name distinct k lower header place there)) among)

  step_back : (lower upper : Name) → HasParent cut lower upper → Step headers members class name lower upper
  step_back lower upper (inl super) =
      let found = any_from_map (λ (h : Header). (h.name ≡ lower) × (h.superclass ≡ Some upper)) without_field headers super in
      let kept = kept_some (not (is_some (owner_of found.1.name))) found.1.superclass upper found.4.1 in
      up_step found.0 found.1 lower upper found.2 found.3 found.4.0 kept.0 (in_left upper (option_to_list found.1.superclass) found.1.interfaces (in_some found.1.superclass upper kept.1))
  step_back lower upper (inr interface) =
      let found = any_from_map (λ (h : Header). (h.name ≡ lower) × Contains h.interfaces upper) without_field headers interface in
      let kept = kept_list (not (is_some (owner_of found.1.name))) found.1.interfaces upper (contains_in (if not (is_some (owner_of found.1.name)) then found.1.interfaces else []) upper found.4.1) in
      up_step found.0 found.1 lower upper found.2 found.3 found.4.0 kept.0 (in_right upper (option_to_list found.1.superclass) found.1.interfaces kept.1)

  path_to : (lower : Name) (path : List Name) (upper : Name) → IsPath (Step headers members class name) lower path upper → IsPath (HasParent cut) lower path upper
  path_to lower [] upper same = same
  path_to lower (next ∷ path) upper steps = (step_to lower next steps.0, path_to next path upper steps.1)

  path_back : (lower : Name) (path : List Name) (upper : Name) → IsPath (HasParent cut) lower path upper → IsPath (Step headers members class name) lower path upper
  path_back lower [] upper same = same
  path_back lower (next ∷ path) upper steps = (step_back lower next steps.0, path_back next path upper steps.1)

  -- ---- the owners of the definition

  abbrev owners_within : ℕ → Name → List Name
  owners_within most at = field_owners most headers (map view_members members) name at

  owners_here : (most : ℕ) (at : Name) → is_some (owner_of at) ≡ true → owners_within (suc most) at ≡ at ∷ []
  owners_here most at is = rw is refl

  owners_up : (most : ℕ) (at : Name) → is_some (owner_of at) ≡ false → owners_within (suc most) at ≡ flat_map (owners_within most) (parents headers at)
  owners_up most at is = rw is refl

  in_owners : (most : ℕ) (lower : Name) (path : List Name) (upper : Name) → length path < most → IsPath (Step headers members class name) lower path upper → is_some (owner_of upper) ≡ true → In upper (owners_within most lower)
  in_owners zero lower path upper short steps has = absurd (omega arith)
  in_owners (suc most) lower [] upper short same has =
      subst (In upper) (sym (owners_here most lower (subst (λ n. is_some (owner_of n) ≡ true) (sym same) has))) (inl (sym same))
  in_owners (suc most) lower (next ∷ path) upper short steps has =
      subst (In upper) (sym (owners_up most lower (ap is_some steps.0.0)))
      (flat_map_has (owners_within most) next upper (parents headers lower) steps.0.1 (in_owners most next path upper (omega arith) steps.1 has))

  -- each owner is met
  record IsMet (walk : Walk) (at : Name) : Type 0 where
    place : ℕ
    named : Named headers place at
    met : Met walk place

  module _ (walk : Walk) (walking : Walking headers members class name walk) (over : walk.waiting ≡ []) where
    met_by : (most : ℕ) (at upper : Name) → ((p : ℕ) → Named headers p at → Met walk p) → In upper (owners_within most at) → IsMet walk upper
    met_by zero at upper met there = absurd there
    met_by (suc most) at upper met there = by_place (λ q met_q there_q. met_by most q upper met_q there_q) (place_of headers at) refl
      where
        here : ((q : Name) → ((p : ℕ) → Named headers p q → Met walk p) → In upper (owners_within most q) → IsMet walk upper) → (place : ℕ) → Named headers place at → (b : Bool) → is_some (owner_of at) ≡ b → IsMet walk upper
        here again place named true is =
            let same : upper ≡ at = elim (subst (In upper) (owners_here most at is) there) [ inl same ↦ same | inr none ↦ absurd none ] in
            record { place = place; named = subst (Named headers place) (sym same) named; met = met place named }
        here again place named false is =
            let given = in_flat_map (owners_within most) upper (parents headers at) (subst (In upper) (owners_up most at is) there) in
            again given.item
            (λ q next. walking.closed place at (met place named) (λ waiting. subst (In place) over waiting) named (no_owner (owner_of at) (ap not is)) given.item given.there q next) given.gives

        by_place : ((q : Name) → ((p : ℕ) → Named headers p q → Met walk p) → In upper (owners_within most q) → IsMet walk upper) → (found : Option ℕ) → place_of headers at ≡ found → IsMet walk upper
        by_place again None none =
            let nothing = own_without headers members class name distinct at none in
            absurd (subst (In upper) (owners_up most at (ap is_some nothing) ∙ ap (flat_map (owners_within most)) (above_none headers members class name distinct at none)) there)
        by_place again (Some place) is = here again place (place_named headers at place is) (is_some (owner_of at)) refl

    abbrev has : Name → Bool
    has = has_from headers (map view_members members) name class

    abbrev owners_all : List Name
    owners_all = filter has (once (owners_within (enough headers) class))

    has_own : (found : Option plain.Field) (test : plain.Field → Bool) → is_some_and found test ≡ true → is_some found ≡ true
    has_own None test is = absurd (false≢true is)
    has_own (Some field) test is = refl

    -- each place that the walk found is of an owner
    pub owner_in : (place : ℕ) → In place walk.owners → (at : Name) × Named headers place at × In at owners_all
    owner_in place there =
        let it = walking.sound place there in
        let short = short_implements cut class it.at (record { path = it.reached.path; is_path = path_to class it.reached.path it.at it.reached.is_path }) in
        let found = in_owners (enough headers) class short.path it.at (let s = short.short in omega (arith, s, length-map headers without_field)) (path_back class short.path it.at short.is_path)
        (has_own (owner_of it.at) (λ (field : plain.Field). is_inherited headers class it.at field.flags) it.has) in
        (it.at, it.named, filter_has has it.at (once (owners_within (enough headers) class)) (once_has is_name Decides-name it.at (owners_within (enough headers) class) found) it.has)

    -- and each owner's place was found
    owner_found : (at : Name) → In at owners_all → (place : ℕ) × Named headers place at × In place walk.owners
    owner_found at there =
        let kept = in_filter has at (once (owners_within (enough headers) class)) there in
        let it = met_by (enough headers) class at walking.start (in_once is_name Decides-name at (owners_within (enough headers) class) kept.0) in
        (it.place, it.named, walking.complete it.place at it.met (λ waiting. subst (In it.place) over waiting) it.named kept.1)

    owners_apart : ApartBy (λ (at : Name). at) owners_all
    owners_apart = filter_apart (λ (at : Name). at) has (once (owners_within (enough headers) class)) (once_apart is_name Decides-name (owners_within (enough headers) class))

    -- ---- the only owner

    abbrev name_at : ℕ → Option Name
    name_at place = slice_get (names headers) place

    two_names : (first second : ℕ) → first ≢ second → (one other : Name) → Named headers first one → Named headers second other → one ≢ other
    two_names first second apart one other a b same = apart (one_place headers other distinct first second (subst (Named headers first) same a) b)

    by_all : (first : ℕ) (rest : List ℕ) → (first ∷ rest) ≡ walk.owners → (owners : List Name) → owners ≡ owners_all → (b : Bool) → list_all (λ place. place == first) rest ≡ b
        → option_and_then name_at (if b then Some first else None) ≡ sole owners
    by_all first rest are [] is b all = absurd (let it = owner_in first (subst (In first) are (inl refl)) in subst (In it.0) (sym is) it.2)
    by_all first rest are (one ∷ []) is true all =
        let it = owner_in first (subst (In first) are (inl refl)) in
        let same : it.0 ≡ one = elim (subst (In it.0) (sym is) it.2) [ inl here ↦ here | inr none ↦ absurd none ] in
        it.1 ∙ ap Some same
    by_all first rest are (one ∷ []) is false all =
        let other = not_all first rest all in
        let a = owner_in first (subst (In first) are (inl refl)) in
        let b = owner_in other.0 (subst (In other.0) are (inr other.1)) in
        absurd (two_names first other.0 (λ same. other.2 (sym same)) a.0 b.0 a.1 b.1
        (elim (subst (In a.0) (sym is) a.2) [ inl here ↦ here | inr none ↦ absurd none ] ∙ sym (elim (subst (In b.0) (sym is) b.2) [ inl here ↦ here | inr none ↦ absurd none ])))
      where
        not_all : (first : ℕ) (rest : List ℕ) → list_all (λ place. place == first) rest ≡ false → (other : ℕ) × In other rest × (other ≢ first)
        not_all first [] all = absurd (true≢false all)
        not_all first (one ∷ rest) all = elim (cases_eq one first) [
          | inl same ↦ (let later = not_all first rest (sym (ap (λ b. b && list_all (λ place. place == first) rest) (eq-eqb one first same)) ∙ all) in (later.0, inr later.1, later.2))
          | inr apart ↦ (one, inl refl, apart)
        ]
    by_all first rest are (one ∷ two ∷ others) is true all =
        let a = owner_found one (subst (In one) is (inl refl)) in
        let b = owner_found two (subst (In two) is (inr (inl refl))) in
        absurd ((subst (ApartBy (λ (at : Name). at)) (sym is) owners_apart).0 two (inl refl)
        (same_Some one two (sym a.1 ∙ ap name_at (each_first a.0 (subst (In a.0) (sym are) a.2) ∙ sym (each_first b.0 (subst (In b.0) (sym are) b.2))) ∙ b.1)))
      where
        each_first : (place : ℕ) → In place (first ∷ rest) → place ≡ first
        each_first place (inl same) = same
        each_first place (inr there) = eqb-true place first (each_in (λ p. p == first) rest all place there)
    by_all first rest are (one ∷ two ∷ others) is false all = refl

    by_owners : (places : List ℕ) → places ≡ walk.owners → (owners : List Name) → owners ≡ owners_all → option_and_then name_at (only places) ≡ sole owners
    by_owners [] are [] is = refl
    by_owners [] are (one ∷ owners) is = absurd (let it = owner_found one (subst (In one) is (inl refl)) in subst (In it.0) (sym are) it.2)
    by_owners (first ∷ rest) are owners is = by_all first rest are owners is (list_all (λ place. place == first) rest) refl

    -- the only owner that the walk found is the only one
    pub only_owner : option_and_then name_at (only walk.owners) ≡ sole owners_all
    only_owner = by_owners walk.owners refl owners_all refl

-- ---- steps of the loops

pub meet_more : (headers : List Header) (classes : List Name) (i : ℕ) (class : Name) (before after : Walk) → i < length classes → class ≡ get_or classes i class → after ≡ meet_named headers class before
    → meet_all headers (drop (i + 1) classes) after ≡ meet_all headers (drop i classes) before
meet_more headers classes i class before after within is met =
    rw met (ap (λ c. meet_all headers (drop (i + 1) classes) (meet_named headers c before)) is ∙ sym (at_drop_more (λ rest. meet_all headers rest before) classes i class within))

-- the walk as it begins has met nothing
pub none_met : (n p : ℕ) → slice_get (replicate n false) p ≢ Some true
none_met zero zero is = none-some true is
none_met zero (suc p) is = none-some true is
none_met (suc n) zero is = false≢true (same_Some false true is)
none_met (suc n) (suc p) is = none_met n p is

-- ---- the first field of a name

find_first : (name : Name) (fields : List Field) (k : ℕ) (field : Field) → slice_get fields k ≡ Some field → field.name ≡ name → ((e : ℕ) (other : Field) → e < k → slice_get fields e ≡ Some other → other.name ≢ name)
    → find (λ (f : Field). is_name f.name name) fields ≡ Some field
find_first name [] zero field is named first = absurd (none-some field is)
find_first name [] (suc k) field is named first = absurd (none-some field is)
find_first name (one ∷ fields) zero field is named first = let e : is_name one.name name ≡ true = (Decides-name one.name name).1 (ap (λ (f : Field). f.name) (same_Some one field is) ∙ named) in (rw e is)
find_first name (one ∷ fields) (suc k) field is named first =
    let e : is_name one.name name ≡ false = false_from_ne_true (is_name one.name name) (λ same. first 0 one (omega arith) refl ((Decides-name one.name name).0 same)) in
    rw e (find_first name fields k field is named (λ e other below there. first (suc e) other (omega (arith, below)) there))

find_none : (name : Name) (fields : List Field) → ((e : ℕ) (other : Field) → slice_get fields e ≡ Some other → other.name ≢ name) → find (λ (f : Field). is_name f.name name) fields ≡ None
find_none name [] none = refl
find_none name (one ∷ fields) none =
    let e : is_name one.name name ≡ false = false_from_ne_true (is_name one.name name) (λ same. none 0 one refl ((Decides-name one.name name).0 same)) in
    rw e (find_none name fields (λ e other there. none (suc e) other there))

module _ (members : List ClassMembers) (place : ℕ) (declared : ClassMembers) (table : List Name) (name : Name) (there : slice_get members place ≡ Some declared) (names_are : table ≡ map (λ (f : Field). f.name) declared.fields) where
  name_is : (k : ℕ) (field : Field) → slice_get declared.fields k ≡ Some field → slice_get table k ≡ Some field.name
  name_is k field is = ap (λ t. slice_get t k) names_are ∙ slice_get-map (λ (f : Field). f.name) declared.fields k ∙ ap (option_map (λ (f : Field). f.name)) is

  pub own_told_none : ((at : ℕ) → ¬ ((slice_get table at ≡ Some name) × ⊤)) → own_at members name place ≡ None
  own_told_none none = rw there (find_none name declared.fields (λ e other is named. none e (name_is e other is ∙ ap Some named, tt)))

  pub own_told : (k : ℕ) (field : Field) → IsFirstPick (λ at. (slice_get table at ≡ Some name) × ⊤) k → slice_get declared.fields k ≡ Some field → own_at members name place ≡ Some field
  own_told k field first is =
      rw there (find_first name declared.fields k field is (same_Some field.name name (sym (name_is k field is) ∙ first.picked.0))
      (λ e other below other_is named. first.first e below (name_is e other other_is ∙ ap Some named, tt)))

  pub own_there : (k : ℕ) → IsFirstPick (λ at. (slice_get table at ≡ Some name) × ⊤) k → slice_get declared.fields k ≢ None
  own_there k first none =
      none-some name (sym (ap (option_map (λ (f : Field). f.name)) none) ∙ sym (slice_get-map (λ (f : Field). f.name) declared.fields k) ∙ sym (ap (λ t. slice_get t k) names_are) ∙ first.picked.0)

-- the only one of places that there are
pub only_is : (places : List ℕ) (b : Bool) → 0 < length places → b ≡ list_all (λ place. place == get_or places 0 0) (take (length places - 1) (drop 1 places)) → (if b then Some (get_or places 0 0) else None) ≡ only places
only_is [] b there all = absurd (omega arith)
only_is (first ∷ rest) b there all = ap (λ t. if t then Some first else None) (all ∙ ap (list_all (λ place. place == first)) (take_rest (first ∷ rest) 1))

module _ (headers : List Header) (members : List ClassMembers) (class name : Name) (distinct : HasDistinctNames headers) (walk : Walk) (walking : Walking headers members class name walk) (over : walk.waiting ≡ []) where
  only_in : (places : List ℕ) (place : ℕ) → only places ≡ Some place → In place places
  only_in [] place is = absurd (none-some place is)
  only_in (first ∷ rest) place is = inl (sym (same_Some first place (kept_some (list_all (λ p. p == first) rest) (Some first) place is).1))

  -- the only owner that the walk found, or that there is none
  pub sole_is : (found : Option ℕ) → found ≡ only walk.owners → MatchOption found (sole (owners_of headers members class name) ≡ None) (IsSole headers (sole (owners_of headers members class name)))
  sole_is None is = sym (only_owner headers members class name distinct walk walking over) ∙ ap (option_and_then (λ place. slice_get (names headers) place)) (sym is)
  sole_is (Some place) is =
      let it = owner_in headers members class name distinct walk walking over place (only_in walk.owners place (sym is)) in
      record {
        owner = it.0;
        named = it.1;
        is = sym (only_owner headers members class name distinct walk walking over) ∙ ap (option_and_then (λ p. slice_get (names headers) p)) (sym is) ∙ it.1;
      }
