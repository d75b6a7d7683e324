-- The method that a call means, as a function and as a relation.
use Rattle.std.proofs.Common.{◌≡◌, ℕ, Bool, true, ◌&&◌, Decides, length, List, [], ◌∷◌, map, Option, Some, None, IsSomeAnd, slice_get, refl, sym, ap, subst, ◌∙◌, inl, inr}
use Rattle.std.specs.Prelude.{filter, filter_map, flat_map, codes, ◌==◌, option_map}
use Rattle.std.specs.List.{list_all}
use Rattle.std.proofs.lemmas.Bool.{false≢true, and_parts, and_from, or_cases, or_left, or_right}
use Rattle.std.proofs.lemmas.Bool.Decides.{Decides-like, Decides-and, Decides-eqb}
use Rattle.std.proofs.lemmas.List.{nil_from_length}
use Rattle.std.proofs.lemmas.Option.{none-some, same_Some, slice_get-map}
use Rattle.dj_names.specs.declared.header.Header.{Header}
use Rattle.dj_names.specs.declared.members.MethodHead.{MethodHead}
use Rattle.dj_names.specs.declared.members.ClassMembers.{ClassMembers}
use Rattle.dj_names.specs.declared.members.Member.{Member}
use Rattle.dj_names.specs.Headers.{Name, names, HasDistinctNames}
use Rattle.dj_names.specs.Types.{JType, Boolean, Byte, Char, Short, Int, Long, Float, Double, Class, Array}
use Rattle.dj_names.specs.Assignable.{object_name}
use Rattle.dj_values.specs.Deciding.{is_name, is_type, is_some_and, is_array_clone}
use Rattle.dj_values.proofs.Deciding.{Decides-name}
use Rattle.dj_kinds.specs.Search.{IsFirstIn, method_order}
use Rattle.dj_kinds.specs.Own.{IsSeen, Counts, HasOwnMethod}
use Rattle.dj_kinds.specs.Single.{counts_one}
use Rattle.dj_kinds.specs.Access.{IsArray, IsClone, IsAccessible, Allows, flags_of}
use Rattle.dj_kinds.specs.Inherited.{IsInherited}
use Rattle.dj_kinds.specs.Choice.{Call, AllAssignable, AllSubtypes, IsMethodAt, parameters, IsHeld, IsCandidate, IsMostSpecific, IsChosen}
use Rattle.dj_kinds.proofs.ChoiceLemmas.{one_found}
use Rattle.dj_meaning.specs.Members as plain
use Rattle.dj_meaning.specs.Members.{Method, view_method, view_members}
use Rattle.dj_meaning.specs.Visible.{allows}
use Rattle.dj_meaning.specs.Fields.{sole}
use Rattle.dj_meaning.specs.Calls.{MethodIn, all_pairs, is_seen, named_in, first_with, distinct, may_call, is_candidate, is_more_specific, chosen}
use Rattle.dj_static.proofs.TypeLemmas.{Decides-types, Decides-all_assignable, Decides-all_subtypes}
use Rattle.dj_static.proofs.VisibleLemmas.{Decides-inherited, Decides-allows, Decides-seen}
use Rattle.dj_static.proofs.HeldLemmas.{HeldFound, none_held, held, members_is, held_found}
use Rattle.dj_static.proofs.ListLemmas.{In, ApartBy, in_filter, filter_has, filter_apart, in_filter_map, filter_map_has, filter_map_apart, map_has, at_in, flat_map_has, each_in, all_in, once_has, once_apart}

-- ---- where a method may be called

-- an array's `clone`
Decides-clone : (through : Option JType) (name : Name) (types : List JType)
    → Decides (is_some_and through (λ type. is_array_clone type name types)) (IsSomeAnd through IsArray × (name ≡ codes "clone") × (types ≡ []))
Decides-clone None name types = (λ is. absurd (false≢true is), λ h. absurd h.0)
Decides-clone (Some Boolean) name types = (λ is. absurd (false≢true is), λ h. absurd h.0)
Decides-clone (Some Byte) name types = (λ is. absurd (false≢true is), λ h. absurd h.0)
Decides-clone (Some Char) name types = (λ is. absurd (false≢true is), λ h. absurd h.0)
Decides-clone (Some Short) name types = (λ is. absurd (false≢true is), λ h. absurd h.0)
Decides-clone (Some Int) name types = (λ is. absurd (false≢true is), λ h. absurd h.0)
Decides-clone (Some Long) name types = (λ is. absurd (false≢true is), λ h. absurd h.0)
Decides-clone (Some Float) name types = (λ is. absurd (false≢true is), λ h. absurd h.0)
Decides-clone (Some Double) name types = (λ is. absurd (false≢true is), λ h. absurd h.0)
Decides-clone (Some (Class class)) name types = (λ is. absurd (false≢true is), λ h. absurd h.0)
Decides-clone (Some (Array element)) name types =
    Decides-like (is_name name (codes "clone") && (length types == 0)) (λ h. (tt, h.0, nil_from_length types h.1)) (λ h. (h.1, ap length h.2))
    (Decides-and _ _ (Decides-name name (codes "clone")) (Decides-eqb (length types) 0))

-- ---- candidates

module _ (headers : List Header) (members : List ClassMembers) where
  -- the member is this method of this class
  pub record IsOne (one : MethodIn) (member : Member) : Type 0 where
    pub method : MethodHead
    pub owner : slice_get (names headers) member.class ≡ Some one.owner
    pub at : IsMethodAt members member method
    pub method_is : one.method ≡ view_method method

  pub one_method : (member : Member) (first second : MethodHead) → IsMethodAt members member first → IsMethodAt members member second → first ≡ second
  one_method member first second a b =
      let own : a.declared ≡ b.declared = same_Some a.declared b.declared (sym a.class ∙ b.class) in
      same_Some first second (sym a.number ∙ ap (λ (d : ClassMembers). slice_get d.methods member.number) own ∙ b.number)

  pub same_one : (one other : MethodIn) (member : Member) → IsOne one member → IsOne other member → one ≡ other
  same_one one other member a b =
      let owner : one.owner ≡ other.owner = same_Some one.owner other.owner (sym a.owner ∙ b.owner) in
      let method : one.method ≡ other.method = a.method_is ∙ ap view_method (one_method member a.method b.method a.at b.at) ∙ sym b.method_is in
      ap (λ o. (let m : MethodIn = record { owner = o; method = one.method } in m)) owner ∙ ap (λ h. (let m : MethodIn = record { owner = other.owner; method = h } in m)) method

  module _ (call : Call) (one : MethodIn) (member : Member) (is : IsOne one member) where
    through_clone : (is_name one.owner object_name && is_some_and call.through (λ type. is_array_clone type one.method.name (plain.parameters one.method))) ≡ true
        → IsSomeAnd call.through IsArray × IsClone is.at.declared one.owner member
    through_clone both =
        let parts = and_parts (is_name one.owner object_name) _ both in
        let clone = (Decides-clone call.through one.method.name (plain.parameters one.method)).0 parts.1 in (
          clone.0,
          record {
            of_object = (Decides-name one.owner object_name).0 parts.0;
            is_method = is.at.is_method;
            method = is.method;
            there = is.at.number;
            name = ap (λ (m : Method). m.name) (sym is.method_is) ∙ clone.1;
            plain = ap plain.parameters (sym is.method_is) ∙ clone.2;
          },
        )

    flags_there : slice_get (flags_of member.method is.at.declared) member.number ≡ Some one.method.flags
    flags_there =
        ap (λ b. slice_get (flags_of b is.at.declared) member.number) is.at.is_method ∙ slice_get-map (λ (m : MethodHead). m.flags) is.at.declared.methods member.number
        ∙ ap (option_map (λ (m : MethodHead). m.flags)) is.at.number ∙ ap (λ (m : Method). Some m.flags) (sym is.method_is)

    called_to : may_call headers call.from call.through one ≡ true → IsAccessible headers members call.from member call.through
    called_to may = record {
      class = one.owner;
      declared = is.at.declared;
      class_at = record { named = is.owner; there = is.at.class };
      flags = one.method.flags;
      there = flags_there;
      allowed = elim (or_cases (allows headers call.from one.owner one.method.flags call.through) _ may) [
        | inl allowed ↦ inl ((Decides-allows headers call.from one.owner one.method.flags call.through).0 allowed)
        | inr clone ↦ inr (through_clone clone)
      ];
    }

    called_back : IsAccessible headers members call.from member call.through → may_call headers call.from call.through one ≡ true
    called_back may =
        let class : may.class ≡ one.owner = same_Some may.class one.owner (sym may.class_at.named ∙ is.owner) in
        let declared : may.declared ≡ is.at.declared = same_Some may.declared is.at.declared (sym may.class_at.there ∙ is.at.class) in
        let flags : may.flags ≡ one.method.flags =
        same_Some may.flags one.method.flags (sym may.there ∙ ap (λ (d : ClassMembers). slice_get (flags_of member.method d) member.number) declared ∙ flags_there) in
        elim may.allowed [
          | inl allowed ↦ or_left _ _ ((Decides-allows headers call.from one.owner one.method.flags call.through).1
              (subst (λ f. Allows headers call.from one.owner f call.through) flags (subst (λ c. Allows headers call.from c may.flags call.through) class allowed)))
          | inr clone ↦
              or_right (allows headers call.from one.owner one.method.flags call.through) _
              (and_from _ _ ((Decides-name one.owner object_name).1 (sym class ∙ clone.1.of_object))
              (let same : clone.1.method ≡ is.method = one_method member clone.1.method is.method
              (record { declared = may.declared; class = may.class_at.there; is_method = clone.1.is_method; number = clone.1.there }) is.at in
              (Decides-clone call.through one.method.name (plain.parameters one.method)).1
              (clone.0, ap (λ (m : Method). m.name) is.method_is ∙ ap (λ (m : MethodHead). m.name) (sym same) ∙ clone.1.name, ap plain.parameters is.method_is ∙ ap parameters (sym same) ∙ clone.1.plain)))
        ]

  module _ (apart_names : HasDistinctNames headers) (call : Call) where
    abbrev searched : List Name
    searched = method_order headers call.name call.class

    abbrev declared_in : Name → List Method
    declared_in = named_in headers (map view_members members) call.class call.name

    abbrev each_types : List (List JType)
    each_types = flat_map (λ class. map plain.parameters (declared_in class)) searched

    abbrev first_of : List JType → Option MethodIn
    first_of wanted = first_with declared_in wanted searched

    abbrev all : List MethodIn
    all = filter (is_candidate headers call) (filter_map first_of (distinct each_types))

    -- ---- what is found first

    abbrev Firsts : List JType → Member → Type 0
    Firsts wanted = IsFirstIn (HasOwnMethod headers members (Counts call.name wanted) call.class) searched

    -- a method that is found first for some types is one of these
    record IsFirstOf (wanted : List JType) (one : MethodIn) : Type 0 where
      member : Member
      is_one : IsOne one member
      found : Firsts wanted member

    first_is : (wanted : List JType) (found : Option MethodIn) → HeldFound headers members (HasOwnMethod headers members (Counts call.name wanted) call.class) searched found
        → (one : MethodIn) → found ≡ Some one → IsFirstOf wanted one
    first_is wanted _ (none_held nothing) one is = absurd (none-some one is)
    first_is wanted _ (held member owner method found named at) one is =
        subst (IsFirstOf wanted) (same_Some (record { owner = owner; method = view_method method }) one is)
        (record { member = member; is_one = record { method = method; owner = named; at = at; method_is = refl }; found = found })

    first_one : (wanted : List JType) (one : MethodIn) → first_of wanted ≡ Some one → IsFirstOf wanted one
    first_one wanted = first_is wanted (first_of wanted) (held_found headers members apart_names call.class call.name wanted searched)

    first_has : (wanted : List JType) (member : Member) → Firsts wanted member → (found : Option MethodIn)
        → HeldFound headers members (HasOwnMethod headers members (Counts call.name wanted) call.class) searched found → (one : MethodIn) → IsOne one member → found ≡ Some one
    first_has wanted member first _ (none_held nothing) one is = absurd (nothing member first)
    first_has wanted member first _ (held other owner method found named at) one is =
        let same : other ≡ member =
        one_found headers members (Counts call.name wanted) call.class apart_names (λ class methods a b. counts_one call.name wanted (IsSeen headers call.class class) methods a b) searched other member found first in
        ap Some (same_one (record { owner = owner; method = view_method method }) one member (subst (IsOne (record { owner = owner; method = view_method method })) same (record { method = method; owner = named; at = at; method_is = refl })) is)

    -- what counts has the name and the types
    counted : (wanted : List JType) (Seen : MethodHead → Type 0) (methods : List MethodHead) (at : ℕ) → Counts call.name wanted Seen methods at
        → (method : MethodHead) × (slice_get methods at ≡ Some method) × (method.name ≡ call.name) × (parameters method ≡ wanted) × Seen method
    counted wanted Seen methods at (inl plain_one) = (plain_one.item, plain_one.is, plain_one.holds.0.0, plain_one.holds.0.1, plain_one.holds.1)
    counted wanted Seen methods at (inr any) = (any.1.item, any.1.is, any.1.holds.0.0, any.1.holds.0.1, any.1.holds.1)

    -- what is found first is had by a class that is searched
    had : {A : Type 0} (Own : Name → A → Type 0) (classes : List Name) (member : A) → IsFirstIn Own classes member → (class : Name) × In class classes × Own class member
    had Own [] member first = absurd first
    had Own (class ∷ classes) member (inl here) = (class, inl refl, here)
    had Own (class ∷ classes) member (inr later) = let rest = had Own classes member later.1 in (rest.0, inr rest.1, rest.2)

    -- the method that is found first has the name and the types that are wanted
    pub named_so : (wanted : List JType) (member : Member) (method : MethodHead) → Firsts wanted member → IsMethodAt members member method → (method.name ≡ call.name) × (parameters method ≡ wanted)
    named_so wanted member method first at =
        let own = had (HasOwnMethod headers members (Counts call.name wanted) call.class) searched member first in
        let it = counted wanted (IsSeen headers call.class own.0) own.2.declared.methods member.number own.2.picked in
        let same : method ≡ it.0 = one_method member method it.0 at (record { declared = own.2.declared; class = own.2.class_at.there; is_method = own.2.is_method; number = it.1 }) in
        (ap (λ (m : MethodHead). m.name) same ∙ it.2, ap parameters same ∙ it.3)

    -- ---- candidates

    decides_candidate : (one : MethodIn) (member : Member) → IsOne one member
        → Decides (is_candidate headers call one)
        (AllAssignable headers call.arguments (plain.parameters one.method) × IsInherited headers call.class one.owner one.method.flags × IsAccessible headers members call.from member call.through)
    decides_candidate one member is =
        Decides-like (is_candidate headers call one) (λ h. (h.0.0, h.0.1, h.1)) (λ h. ((h.0, h.1), h.2))
        (Decides-and _ _ (Decides-and _ _ (Decides-all_assignable headers call.arguments (plain.parameters one.method)) (Decides-inherited headers call.class one.owner one.method.flags))
        (called_to call one member is, called_back call one member is))

    -- each that is listed is a candidate
    record IsListed (one : MethodIn) : Type 0 where
      member : Member
      is_one : IsOne one member
      candidate : IsCandidate headers members call member

    held_so : (member : Member) (method : MethodHead) → Firsts (parameters method) member → method.name ≡ call.name → IsHeld headers members call.class member method
    held_so member method first same =
        subst (λ n. IsFirstIn (HasOwnMethod headers members (Counts n (parameters method)) call.class) (method_order headers n call.class) member) (sym same) first

    listed : (one : MethodIn) → In one all → IsListed one
    listed one there =
        let kept = in_filter (is_candidate headers call) one (filter_map first_of (distinct each_types)) there in
        let from = in_filter_map first_of one (distinct each_types) kept.0 in
        let first = first_one from.item one from.gives in
        let is = first.is_one in
        let so = named_so from.item first.member is.method first.found is.at in
        let passes = (decides_candidate one first.member is).0 kept.1 in
        record {
          member = first.member;
          is_one = is;
          candidate = record {
            method = is.method;
            is_method = is.at;
            named = so.0;
            applicable = subst (AllAssignable headers call.arguments) (ap plain.parameters is.method_is) passes.0;
            held = held_so first.member is.method (subst (λ w. Firsts w first.member) (sym so.1) first.found) so.0;
            inherited = subst (λ (o : Option Name). IsSomeAnd o (λ owner. IsInherited headers call.class owner is.method.flags)) (sym is.owner)
                (subst (IsInherited headers call.class one.owner) (ap (λ (m : Method). m.flags) is.method_is) passes.1);
            accessible = passes.2;
          };
        }

    -- and each candidate is listed
    record HasOne (member : Member) : Type 0 where
      one : MethodIn
      is_one : IsOne one member
      there : In one all

    -- the types of a method that is found first are among those that are looked at
    types_there : (wanted : List JType) (member : Member) → Firsts wanted member → In wanted each_types
    types_there wanted member first =
        let own = had (HasOwnMethod headers members (Counts call.name wanted) call.class) searched member first in
        let it = counted wanted (IsSeen headers call.class own.0) own.2.declared.methods member.number own.2.picked in
        let among : In (view_method it.0) (declared_in own.0) =
        rw (members_is headers members apart_names call.class call.name wanted own.0 member.class own.2.declared own.2.class_at)
        (filter_has (λ (m : Method). is_name m.name call.name && is_seen headers call.class own.0 m) (view_method it.0) (map view_method own.2.declared.methods)
        (map_has view_method it.0 own.2.declared.methods (at_in own.2.declared.methods member.number it.0 it.1))
        (and_from _ _ ((Decides-name it.0.name call.name).1 it.2) ((Decides-seen headers call.class own.0 it.0).1 it.4))) in
        flat_map_has (λ class. map plain.parameters (declared_in class)) own.0 wanted searched own.1
        (subst (λ w. In w (map plain.parameters (declared_in own.0))) it.3 (map_has plain.parameters (view_method it.0) (declared_in own.0) among))

    owner_of : (found : Option Name) (P : Name → Type 0) → IsSomeAnd found P → (owner : Name) × (found ≡ Some owner) × P owner
    owner_of None P h = absurd h
    owner_of (Some owner) P h = (owner, refl, h)

    has_one : (member : Member) → IsCandidate headers members call member → HasOne member
    has_one member candidate =
        let method = candidate.method in
        let owner = owner_of (slice_get (names headers) member.class) (λ owner. IsInherited headers call.class owner method.flags) candidate.inherited in
        let one : MethodIn = record { owner = owner.0; method = view_method method } in
        let is : IsOne one member = record { method = method; owner = owner.1; at = candidate.is_method; method_is = refl } in
        let first : Firsts (parameters method) member =
        subst (λ n. IsFirstIn (HasOwnMethod headers members (Counts n (parameters method)) call.class) (method_order headers n call.class) member) candidate.named candidate.held in
        let gives : first_of (parameters method) ≡ Some one = first_has (parameters method) member first (first_of (parameters method)) (held_found headers members apart_names call.class call.name (parameters method) searched) one is in
        record {
          one = one;
          is_one = is;
          there = filter_has (is_candidate headers call) one (filter_map first_of (distinct each_types))
              (filter_map_has first_of (parameters method) one (distinct each_types) (once_has (all_pairs is_type) Decides-types (parameters method) each_types (types_there (parameters method) member first)) gives)
              ((decides_candidate one member is).1 (candidate.applicable, owner.2, candidate.accessible));
        }

    -- ---- the most specific

    abbrev specific : MethodIn → Bool
    specific one = list_all (is_more_specific headers one) all

    abbrev best : List MethodIn
    best = filter specific all

    -- a listed one that is most specific is of a member that is
    most : (one : MethodIn) → In one best → (member : Member) → IsOne one member → IsCandidate headers members call member → IsMostSpecific headers members call member
    most one there member is candidate = record {
      candidate = candidate;
      specific = λ other other_is. record { subtypes = subtypes other other_is };
    }
      where
        subtypes : (other : Member) → IsCandidate headers members call other → (first second : MethodHead) → IsMethodAt members member first → IsMethodAt members other second → AllSubtypes headers (parameters first) (parameters second)
        subtypes other other_is first second first_at second_at =
            let kept = in_filter specific one all there in
            let second_one = has_one other other_is in
            let goes = each_in (is_more_specific headers one) all kept.1 second_one.one second_one.there in
            let from : plain.parameters one.method ≡ parameters first = ap plain.parameters is.method_is ∙ ap parameters (one_method member is.method first is.at first_at) in
            let to : plain.parameters second_one.one.method ≡ parameters second = ap plain.parameters second_one.is_one.method_is ∙ ap parameters (one_method other second_one.is_one.method second second_one.is_one.at second_at) in
            subst (λ t. AllSubtypes headers (parameters first) t) to
            (subst (λ f. AllSubtypes headers f (plain.parameters second_one.one.method)) from ((Decides-all_subtypes headers (plain.parameters one.method) (plain.parameters second_one.one.method)).0 goes))

    -- and a member that is has one
    best_has : (member : Member) → IsMostSpecific headers members call member → (one : MethodIn) × In one best × IsOne one member
    best_has member is =
        let it = has_one member is.candidate in
        (it.one, filter_has specific it.one all it.there (all_in (is_more_specific headers it.one) all (goes it)), it.is_one)
      where
        goes : (it : HasOne member) (other : MethodIn) → In other all → is_more_specific headers it.one other ≡ true
        goes it other there =
            let other_one = listed other there in
            (Decides-all_subtypes headers (plain.parameters it.one.method) (plain.parameters other.method)).1
            (subst (λ f. AllSubtypes headers f (plain.parameters other.method)) (ap plain.parameters (sym it.is_one.method_is))
            (subst (λ t. AllSubtypes headers (parameters it.is_one.method) t) (ap plain.parameters (sym other_one.is_one.method_is))
            ((is.specific other_one.member other_one.candidate).subtypes it.is_one.method other_one.is_one.method it.is_one.at other_one.is_one.at)))

    -- one candidate is of one member
    one_member : (one : MethodIn) (first second : Member) → IsOne one first → IsOne one second → IsCandidate headers members call first → IsCandidate headers members call second → first ≡ second
    one_member one first second a b first_is second_is =
        let types : parameters first_is.method ≡ parameters second_is.method =
        ap parameters (one_method first first_is.method a.method first_is.is_method a.at) ∙ ap plain.parameters (sym a.method_is ∙ b.method_is) ∙ ap parameters (one_method second b.method second_is.method b.at second_is.is_method) in
        let held_first = λ (member : Member) (is : IsCandidate headers members call member). (let f : Firsts (parameters is.method) member =
        subst (λ n. IsFirstIn (HasOwnMethod headers members (Counts n (parameters is.method)) call.class) (method_order headers n call.class) member) is.named is.held in f) in
        one_found headers members (Counts call.name (parameters second_is.method)) call.class apart_names
        (λ class methods at other. counts_one call.name (parameters second_is.method) (IsSeen headers call.class class) methods at other) searched first second
        (subst (λ w. Firsts w first) types (held_first first first_is)) (held_first second second_is)

    -- no two of the best are alike
    best_apart : ApartBy (λ (one : MethodIn). plain.parameters one.method) best
    best_apart =
        filter_apart (λ (one : MethodIn). plain.parameters one.method) specific all (filter_apart (λ (one : MethodIn). plain.parameters one.method) (is_candidate headers call) (filter_map first_of (distinct each_types))
        (filter_map_apart first_of (λ (one : MethodIn). plain.parameters one.method) types_of_first (distinct each_types) (once_apart (all_pairs is_type) Decides-types each_types)))
      where
        types_of_first : (wanted : List JType) (one : MethodIn) → first_of wanted ≡ Some one → plain.parameters one.method ≡ wanted
        types_of_first wanted one gives =
            let first = first_one wanted one gives in
            ap plain.parameters first.is_one.method_is ∙ (named_so wanted first.member first.is_one.method first.found first.is_one.at).1

    -- the method that is chosen is of the member that is, or there is none
    pub data ChosenFound : Option MethodIn → Type 0 where
      none_is : ((member : Member) → ¬ IsChosen headers members call member) → ChosenFound None
      one_is : (one : MethodIn) (member : Member) → IsChosen headers members call member → IsOne one member → ChosenFound (Some one)

    by_best : (list : List MethodIn) → list ≡ best → ChosenFound (sole list)
    by_best [] is = none_is (λ member chosen. (let it = best_has member chosen.most in subst (λ l. In it.0 l) (sym is) it.1))
    by_best (one ∷ []) is =
        let there : In one best = subst (λ l. In one l) is (inl refl) in
        let it = listed one (in_filter specific one all there).0 in
        one_is one it.member
        (record { most = most one there it.member it.is_one it.candidate; only = λ other other_most. only_one one is it.member it.is_one it.candidate other other_most })
        it.is_one
      where
        only_one : (one : MethodIn) → (one ∷ []) ≡ best → (member : Member) → IsOne one member → IsCandidate headers members call member → (other : Member) → IsMostSpecific headers members call other → other ≡ member
        only_one one is member is_one candidate other other_most =
            let it = best_has other other_most in
            let same : it.0 ≡ one = elim (subst (λ l. In it.0 l) (sym is) it.1) [ inl here ↦ here | inr there ↦ absurd there ] in
            one_member one other member (subst (λ o. IsOne o other) same it.2) is_one other_most.candidate candidate
    by_best (one ∷ two ∷ rest) is = none_is (λ member chosen. apart_ones (of_member one (inl refl) member chosen) (of_member two (inr (inl refl)) member chosen))
      where
        of_member : (each : MethodIn) → In each (one ∷ two ∷ rest) → (member : Member) → IsChosen headers members call member → IsOne each member
        of_member each among member chosen =
            let there : In each best = subst (λ l. In each l) is among in
            let it = listed each (in_filter specific each all there).0 in
            subst (IsOne each) (chosen.only it.member (most each there it.member it.is_one it.candidate)) it.is_one

        apart_ones : {member : Member} → IsOne one member → IsOne two member → ⊥
        apart_ones {member} a b =
            (subst (ApartBy (λ (o : MethodIn). plain.parameters o.method)) (sym is) best_apart).0 two (inl refl) (ap (λ (o : MethodIn). plain.parameters o.method) (same_one one two member a b))

    pub chosen_found : ChosenFound (chosen headers (map view_members members) call)
    chosen_found = by_best best refl
