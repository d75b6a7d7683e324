-- The method that a search finds, as a test and as a relation.
use Rattle.std.proofs.Common.{◌≡◌, ◌≢◌, ℕ, zero, suc, ◌<◌, Bool, true, false, not, ◌&&◌, Decides, if◌then◌else◌, List, [], ◌∷◌, map, Option, Some, None, slice_get, refl, sym, ap, subst, ◌∙◌, inl, inr, arith}
use Rattle.std.specs.Prelude.{filter, find}
use Rattle.std.proofs.lemmas.Bool.{false≢true}
use Rattle.std.proofs.lemmas.Bool.Decides.{Decides-like, Decides-and, Decides-not}
use Rattle.std.proofs.lemmas.Option.{none-some, same_Some}
use Rattle.dj_names.specs.declared.header.Header.{Header}
use Rattle.dj_names.specs.declared.members.MethodHead.{MethodHead}
use Rattle.dj_names.specs.declared.members.ClassMembers.{ClassMembers}
use Rattle.dj_names.specs.declared.members.Member.{Member}
use Rattle.dj_names.specs.Headers.{Name, names, HasDistinctNames}
use Rattle.dj_names.specs.Types.{JType}
use Rattle.dj_values.specs.Deciding.{is_name, is_type}
use Rattle.dj_values.proofs.Deciding.{Decides-name}
use Rattle.dj_kinds.specs.Search.{IsFirstIn}
use Rattle.dj_kinds.specs.Own.{IsFirst, IsClassAt, IsOverload, IsBridge, IsSeen, Counts, HasOwnMethod}
use Rattle.dj_kinds.specs.Choice.{IsMethodAt, parameters}
use Rattle.dj_kinds.proofs.OwnLemmas.{one_place}
use Rattle.dj_meaning.specs.Members as plain
use Rattle.dj_meaning.specs.Members.{Method, Members, view_method, view_members, is_bridge}
use Rattle.dj_meaning.specs.Visible.{members_of, methods_in}
use Rattle.dj_meaning.specs.Calls.{MethodIn, all_pairs, is_seen, counting, named_in, first_with}
use Rattle.dj_static.proofs.TypeLemmas.{Decides-types}
use Rattle.dj_static.proofs.VisibleLemmas.{Decides-flag, Decides-seen}

-- ---- the members of a class

-- the members that are found, or that there are none
pub data Sought (headers : List Header) (members : List ClassMembers) (class : Name) : Option Members → Type 0 where
  no_members : ((at : ℕ) (declared : ClassMembers) → ¬ IsClassAt headers members class at declared) → Sought headers members class None
  members_at : (at : ℕ) (declared : ClassMembers) → IsClassAt headers members class at declared → Sought headers members class (Some (view_members declared))

missing_next : (header : Header) (headers : List Header) (first : ClassMembers) (members : List ClassMembers) (class : Name) → header.name ≢ class
    → ((at : ℕ) (declared : ClassMembers) → ¬ IsClassAt headers members class at declared) → (at : ℕ) (declared : ClassMembers) → ¬ IsClassAt (header ∷ headers) (first ∷ members) class at declared
missing_next header headers first members class other none zero declared is = other (same_Some header.name class is.named)
missing_next header headers first members class other none (suc at) declared is = none at declared (record { named = is.named; there = is.there })

sought_next : (header : Header) (headers : List Header) (first : ClassMembers) (members : List ClassMembers) (class : Name) (found : Option Members) → header.name ≢ class
    → Sought headers members class found → Sought (header ∷ headers) (first ∷ members) class found
sought_next header headers first members class _ other (no_members none) = no_members (missing_next header headers first members class other none)
sought_next header headers first members class _ other (members_at at declared is) = members_at (suc at) declared (record { named = is.named; there = is.there })

sought_by : (header : Header) (headers : List Header) (first : ClassMembers) (members : List ClassMembers) (class : Name) (b : Bool) → is_name header.name class ≡ b
    → Sought headers members class (members_of headers (map view_members members) class)
    → Sought (header ∷ headers) (first ∷ members) class (if b then Some (view_members first) else members_of headers (map view_members members) class)
sought_by header headers first members class true is rest = members_at 0 first (record { named = ap Some ((Decides-name header.name class).0 is); there = refl })
sought_by header headers first members class false is rest =
    sought_next header headers first members class (members_of headers (map view_members members) class) (λ same. false≢true (sym is ∙ (Decides-name header.name class).1 same)) rest

pub sought : (headers : List Header) (members : List ClassMembers) (class : Name) → Sought headers members class (members_of headers (map view_members members) class)
sought [] members class = no_members (no_header members)
  where
    no_header : (members : List ClassMembers) (at : ℕ) (declared : ClassMembers) → ¬ IsClassAt [] members class at declared
    no_header members zero declared is = none-some class is.named
    no_header members (suc at) declared is = none-some class is.named
sought (header ∷ headers) [] class = no_members none_there
  where
    none_there : (at : ℕ) (declared : ClassMembers) → ¬ IsClassAt (header ∷ headers) [] class at declared
    none_there zero declared is = none-some declared is.there
    none_there (suc at) declared is = none-some declared is.there
sought (header ∷ headers) (first ∷ members) class = sought_by header headers first members class (is_name header.name class) refl (sought headers members class)

-- ---- the first of some items

-- the first item is found, or there is none
pub data FirstFound {A B : Type 0} (Holds : A → Type 0) (view : A → B) (items : List A) : Option B → Type 0 where
  no_first : ((at : ℕ) → ¬ IsFirst Holds items at) → FirstFound Holds view items None
  first_at : (at : ℕ) (item : A) → slice_get items at ≡ Some item → IsFirst Holds items at → FirstFound Holds view items (Some (view item))

module _ {A B : Type 0} (Holds : A → Type 0) (view : A → B) where
  no_item : (at : ℕ) → ¬ IsFirst Holds [] at
  no_item zero is = none-some is.item is.is
  no_item (suc at) is = none-some is.item is.is

  not_before : (item : A) (items : List A) → ¬ Holds item → (at : ℕ) → IsFirst Holds (item ∷ items) (suc at) → IsFirst Holds items at
  not_before item items fails at is = record { item = is.item; is = is.is; holds = is.holds; first = λ earlier other below held. is.first (suc earlier) other (omega (arith, below)) held }

  still_first : (item : A) (items : List A) → ¬ Holds item → (at : ℕ) → IsFirst Holds items at → IsFirst Holds (item ∷ items) (suc at)
  still_first item items fails at is = record { item = is.item; is = is.is; holds = is.holds; first = earlier_not }
    where
      earlier_not : (earlier : ℕ) (other : A) → earlier < suc at → slice_get (item ∷ items) earlier ≡ Some other → ¬ Holds other
      earlier_not zero other below held holds = fails (subst Holds (sym (same_Some item other held)) holds)
      earlier_not (suc earlier) other below held holds = is.first earlier other (omega (arith, below)) held holds

  none_next : (item : A) (items : List A) → ¬ Holds item → ((at : ℕ) → ¬ IsFirst Holds items at) → (at : ℕ) → ¬ IsFirst Holds (item ∷ items) at
  none_next item items fails nothing zero is = fails (subst Holds (sym (same_Some item is.item is.is)) is.holds)
  none_next item items fails nothing (suc at) is = nothing at (not_before item items fails at is)

  first_next : (item : A) (items : List A) (found : Option B) → ¬ Holds item → FirstFound Holds view items found → FirstFound Holds view (item ∷ items) found
  first_next item items _ fails (no_first nothing) = no_first (none_next item items fails nothing)
  first_next item items _ fails (first_at at other is here) = first_at (suc at) other is (still_first item items fails at here)

  first_here : (item : A) (items : List A) → Holds item → FirstFound Holds view (item ∷ items) (Some (view item))
  first_here item items holds = first_at 0 item refl (record { item = item; is = refl; holds = holds; first = λ earlier other below held. absurd (omega (arith, below)) })

  module _ (one two three : B → Bool) (decides : (item : A) → Decides (one (view item) && two (view item) && three (view item)) (Holds item)) where
    by_three : (item : A) (items : List A) (c : Bool) → three (view item) ≡ c → one (view item) ≡ true → two (view item) ≡ true
        → FirstFound Holds view items (find three (filter two (filter one (map view items))))
        → FirstFound Holds view (item ∷ items) (if c then Some (view item) else find three (filter two (filter one (map view items))))
    by_three item items true third one_is two_is rest = first_here item items ((decides item).0 (rw (one_is, two_is) third))
    by_three item items false third one_is two_is rest =
        first_next item items (find three (filter two (filter one (map view items)))) (λ holds. false≢true (sym third ∙ (rw (one_is, two_is) at ((decides item).1 holds)))) rest

    by_two : (item : A) (items : List A) (b : Bool) → two (view item) ≡ b → one (view item) ≡ true
        → FirstFound Holds view items (find three (filter two (filter one (map view items))))
        → FirstFound Holds view (item ∷ items) (find three (if b then view item ∷ filter two (filter one (map view items)) else filter two (filter one (map view items))))
    by_two item items true second one_is rest = by_three item items (three (view item)) refl one_is second rest
    by_two item items false second one_is rest =
        first_next item items (find three (filter two (filter one (map view items)))) (λ holds. false≢true (rw (one_is, second) at ((decides item).1 holds))) rest

    by_one : (item : A) (items : List A) (a : Bool) → one (view item) ≡ a
        → FirstFound Holds view items (find three (filter two (filter one (map view items))))
        → FirstFound Holds view (item ∷ items) (find three (filter two (if a then view item ∷ filter one (map view items) else filter one (map view items))))
    by_one item items true is rest = by_two item items (two (view item)) refl is rest
    by_one item items false is rest =
        first_next item items (find three (filter two (filter one (map view items)))) (λ holds. false≢true (rw is at ((decides item).1 holds))) rest

    -- the first item that passes three tests
    pub first_found : (items : List A) → FirstFound Holds view items (find three (filter two (filter one (map view items))))
    first_found [] = no_first no_item
    first_found (item ∷ items) = by_one item items (one (view item)) refl (first_found items)

-- ---- the method that counts

-- the method that counts among those of a class, or that none does
pub data CountsFound (name : Name) (wanted : List JType) (Seen : MethodHead → Type 0) (methods : List MethodHead) : Option Method → Type 0 where
  none_counts : ((at : ℕ) → ¬ Counts name wanted Seen methods at) → CountsFound name wanted Seen methods None
  counts : (at : ℕ) (method : MethodHead) → slice_get methods at ≡ Some method → Counts name wanted Seen methods at → CountsFound name wanted Seen methods (Some (view_method method))

module _ (headers : List Header) (start class name : Name) (wanted : List JType) where
  abbrev Seen : MethodHead → Type 0
  Seen = IsSeen headers start class

  abbrev is_named : Method → Bool
  is_named method = is_name method.name name && is_seen headers start class method

  abbrev takes : Method → Bool
  takes method = all_pairs is_type (plain.parameters method) wanted

  abbrev HoldsAny : MethodHead → Type 0
  HoldsAny method = IsOverload name wanted method × Seen method

  abbrev HoldsPlain : MethodHead → Type 0
  HoldsPlain method = IsOverload name wanted method × Seen method × ¬ IsBridge method

  decides_any : (method : MethodHead) → Decides (is_named (view_method method) && takes (view_method method) && true) (HoldsAny method)
  decides_any method =
      Decides-like (is_named (view_method method) && takes (view_method method) && true) (λ h. ((h.0.0.0, h.0.1), h.0.0.1)) (λ h. (((h.0.0, h.1), h.0.1), refl))
      (Decides-and _ true (Decides-and _ _ (Decides-and _ _ (Decides-name method.name name) (Decides-seen headers start class method)) (Decides-types (parameters method) wanted)) (λ is. is, λ is. is))

  decides_plain : (method : MethodHead) → Decides (is_named (view_method method) && takes (view_method method) && not (is_bridge method.flags)) (HoldsPlain method)
  decides_plain method =
      Decides-like (is_named (view_method method) && takes (view_method method) && not (is_bridge method.flags)) (λ h. ((h.0.0.0, h.0.1), h.0.0.1, h.1)) (λ h. (((h.0.0, h.1), h.0.1), h.2))
      (Decides-and _ _ (Decides-and _ _ (Decides-and _ _ (Decides-name method.name name) (Decides-seen headers start class method)) (Decides-types (parameters method) wanted)) (Decides-not _ (Decides-flag method.flags 64)))

  any_found : (methods : List MethodHead) (found : Option Method) → ((at : ℕ) → ¬ IsFirst HoldsPlain methods at) → FirstFound HoldsAny view_method methods found → CountsFound name wanted Seen methods found
  any_found methods _ plain_none (no_first nothing) = none_counts (λ at is. elim is [ inl one ↦ plain_none at one | inr any ↦ nothing at any.1 ])
  any_found methods _ plain_none (first_at at method is here) = counts at method is (inr (plain_none, here))

  -- the first of two that there is
  abbrev first_of : Option Method → Option Method → Option Method
  first_of None other = other
  first_of (Some method) other = Some method

  counts_by : (methods : List MethodHead) (any found : Option Method) → FirstFound HoldsPlain view_method methods found → FirstFound HoldsAny view_method methods any
      → CountsFound name wanted Seen methods (first_of found any)
  counts_by methods any _ (no_first nothing) rest = any_found methods any nothing rest
  counts_by methods any _ (first_at at method is here) rest = counts at method is (inl here)

  counting_is : (methods : List Method) (found : Option Method) → find (λ (method : Method). not (is_bridge method.flags)) methods ≡ found → counting methods ≡ first_of found (find (λ method. true) methods)
  counting_is methods None is = rw is refl
  counting_is methods (Some method) is = rw is refl

  counts_found : (methods : List MethodHead) → CountsFound name wanted Seen methods (counting (filter takes (filter is_named (map view_method methods))))
  counts_found methods =
      let those = filter takes (filter is_named (map view_method methods)) in
      subst (CountsFound name wanted Seen methods) (sym (counting_is those (find (λ (method : Method). not (is_bridge method.flags)) those) refl))
      (counts_by methods (find (λ method. true) those) (find (λ (method : Method). not (is_bridge method.flags)) those)
      (first_found HoldsPlain view_method is_named takes (λ (method : Method). not (is_bridge method.flags)) decides_plain methods)
      (first_found HoldsAny view_method is_named takes (λ method. true) decides_any methods))

-- ---- the method that a search holds

-- the method that is found first in some classes, with the class that declares it, or that there is none
pub data HeldFound (headers : List Header) (members : List ClassMembers) (Own : Name → Member → Type 0) (classes : List Name) : Option MethodIn → Type 0 where
  none_held : ((member : Member) → ¬ IsFirstIn Own classes member) → HeldFound headers members Own classes None
  held : (member : Member) (owner : Name) (method : MethodHead) → IsFirstIn Own classes member → slice_get (names headers) member.class ≡ Some owner → IsMethodAt members member method
      → HeldFound headers members Own classes (Some (record { owner = owner; method = view_method method }))

module _ (headers : List Header) (members : List ClassMembers) (distinct : HasDistinctNames headers) (start name : Name) (wanted : List JType) where
  abbrev pub Own : Name → Member → Type 0
  Own = HasOwnMethod headers members (Counts name wanted) start

  abbrev pub own_methods : Name → List Method
  own_methods = named_in headers (map view_members members) start name

  -- what a class has itself
  data OwnFound (class : Name) : Option Method → Type 0 where
    no_own : ((member : Member) → ¬ Own class member) → OwnFound class None
    own : (member : Member) (method : MethodHead) → Own class member → slice_get (names headers) member.class ≡ Some class → IsMethodAt members member method → OwnFound class (Some (view_method method))

  pub same_declared : (class : Name) (at : ℕ) (declared : ClassMembers) → IsClassAt headers members class at declared → (other : ℕ) (others : ClassMembers) → IsClassAt headers members class other others → others ≡ declared
  same_declared class at declared is other others also =
      same_Some others declared (sym also.there ∙ ap (λ k. slice_get members k) (one_place headers class distinct other at also.named is.named) ∙ is.there)

  members_by : (class : Name) (at : ℕ) (declared : ClassMembers) → IsClassAt headers members class at declared → (found : Option Members) → Sought headers members class found → found ≡ Some (view_members declared)
  members_by class at declared is _ (no_members nowhere) = absurd (nowhere at declared is)
  members_by class at declared is _ (members_at other others also) = ap Some (ap view_members (same_declared class at declared is other others also))

  -- the members of the class of a name
  pub members_is : (class : Name) (at : ℕ) (declared : ClassMembers) → IsClassAt headers members class at declared → members_of headers (map view_members members) class ≡ Some (view_members declared)
  members_is class at declared is = members_by class at declared is (members_of headers (map view_members members) class) (sought headers members class)

  own_there : (class : Name) (at : ℕ) (declared : ClassMembers) → IsClassAt headers members class at declared → (found : Option Method) → CountsFound name wanted (IsSeen headers start class) declared.methods found → OwnFound class found
  own_there class at declared is _ (none_counts nothing) =
      no_own (λ member own. nothing member.number (subst (λ (d : ClassMembers). Counts name wanted (IsSeen headers start class) d.methods member.number) (same_declared class at declared is member.class own.declared own.class_at) own.picked))
  own_there class at declared is _ (counts number method is_there it) =
      let member : Member = record { class = at; method = true; number = number } in
      own member method (record { declared = declared; class_at = is; is_method = refl; picked = it }) is.named (record { declared = declared; class = is.there; is_method = refl; number = is_there })

  own_by : (class : Name) (found : Option Members) → Sought headers members class found
      → OwnFound class (counting (filter (takes headers start class name wanted) (filter (is_named headers start class name wanted) (methods_in found))))
  own_by class _ (no_members nowhere) = no_own (λ member own. nowhere member.class own.declared own.class_at)
  own_by class _ (members_at at declared is) =
      own_there class at declared is (counting (filter (takes headers start class name wanted) (filter (is_named headers start class name wanted) (map view_method declared.methods)))) (counts_found headers start class name wanted declared.methods)

  own_found : (class : Name) → OwnFound class (counting (filter (takes headers start class name wanted) (own_methods class)))
  own_found class = own_by class (members_of headers (map view_members members) class) (sought headers members class)

  abbrev in_order : Name → Option Method → Option MethodIn → Option MethodIn
  in_order class None others = others
  in_order class (Some method) others = Some (record { owner = class; method = method })

  held_next : (class : Name) (classes : List Name) (found : Option MethodIn) → ((member : Member) → ¬ Own class member) → HeldFound headers members Own classes found → HeldFound headers members Own (class ∷ classes) found
  held_next class classes _ nothing (none_held none_there) = none_held (λ member is. elim is [ inl here ↦ nothing member here | inr later ↦ none_there member later.1 ])
  held_next class classes _ nothing (held member owner method found named at) = held member owner method (inr (nothing, found)) named at

  held_by : (class : Name) (classes : List Name) (found : Option Method) (others : Option MethodIn) → OwnFound class found → HeldFound headers members Own classes others
      → HeldFound headers members Own (class ∷ classes) (in_order class found others)
  held_by class classes _ others (no_own nothing) rest = held_next class classes others nothing rest
  held_by class classes _ others (own member method is named at) rest = held member class method (inl is) named at

  -- the method that a search holds
  pub held_found : (classes : List Name) → HeldFound headers members Own classes (first_with own_methods wanted classes)
  held_found [] = none_held (λ member is. is)
  held_found (class ∷ classes) =
      held_by class classes (counting (filter (takes headers start class name wanted) (own_methods class))) (first_with own_methods wanted classes) (own_found class) (held_found classes)
