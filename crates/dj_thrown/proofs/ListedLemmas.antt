-- The throws clause of the method that a call means, by what the search among members answers.
use Rattle.std.proofs.Common.{◌≡◌, ◌<◌, ℕ, zero, suc, Bool, true, false, Decides, List, [], ◌∷◌, length, map, find, Option, Some, None, IsSomeAnd, slice_get, if◌then◌else◌, option_and_then, refl, sym, ap, subst, ◌∙◌, inl, inr, arith}
use Rattle.std.proofs.lemmas.Bool.{false≢true}
use Rattle.std.proofs.lemmas.Bool.Decides.{Decides-like, Decides-and, Decides-eqb}
use Rattle.std.proofs.lemmas.Option.{none-some, same_Some}
use Rattle.dj_names.specs.declared.header.Header.{Header}
use Rattle.dj_names.specs.declared.members.ClassMembers.{ClassMembers}
use Rattle.dj_names.specs.declared.members.MethodHead.{MethodHead}
use Rattle.dj_names.specs.declared.members.Member.{Member}
use Rattle.dj_names.specs.Headers.{Name, names, HasDistinctNames}
use Rattle.dj_names.specs.Types.{JType, StaticType, view_descriptor}
use Rattle.dj_values.proofs.Deciding.{Decides-name}
use Rattle.dj_kinds.specs.Search.{IsFirstIn}
use Rattle.dj_kinds.specs.Own.{IsOverload, IsBridge, IsHiddenBelow, IsHiddenInObject, is_false_constructor, IsSeen, Counts, HasOwnMethod}
use Rattle.dj_kinds.specs.Choice.{Call, searched_class, IsMethodAt, parameters, IsChosen, IsChosenIn}
use Rattle.dj_meaning.specs.Members.{Method, view_method, view_members}
use Rattle.dj_meaning.specs.Calls.{MethodIn, chosen}
use Rattle.dj_static.specs.Targets.{meant, meant_in}
use Rattle.dj_static.proofs.TypeLemmas.{Decides-types}
use Rattle.dj_static.proofs.VisibleLemmas.{Decides-false}
use Rattle.dj_static.proofs.WalkLemmas.{place_is}
use Rattle.dj_static.proofs.ChosenLemmas.{IsOne, one_method, ChosenFound, none_is, one_is, chosen_found}
use Rattle.dj_static.proofs.TargetLemmas.{none_meant}
use Rattle.dj_thrown.specs.Settings.{Setting}
use Rattle.dj_thrown.specs.Listed.{methods_in, methods_of, is_method, clause_of, listed_by}

-- ---- the first method of its flags, name and parameters

-- what a test of methods decides
abbrev IsAlike : MethodHead → MethodHead → Type 0
IsAlike method other =
    (other.flags ≡ method.flags) × (other.name ≡ method.name) × (parameters other ≡ parameters method) × (is_false_constructor other.name (view_descriptor other.descriptor) ≡ false)

Decides-method : (method other : MethodHead) → Decides (is_method (view_method method) other) (IsAlike method other)
Decides-method method other =
    Decides-like (is_method (view_method method) other) (λ h. (h.0.0, h.0.1.0, h.0.1.1, h.1)) (λ h. ((h.0, (h.1, h.2)), h.3))
    (Decides-and _ _ (Decides-and _ _ (Decides-eqb other.flags method.flags) (Decides-and _ _ (Decides-name other.name method.name) (Decides-types (parameters other) (parameters method))))
    (Decides-false (is_false_constructor other.name (view_descriptor other.descriptor))))

find_by : (test : MethodHead → Bool) (first : MethodHead) (rest : List MethodHead) (at : ℕ) (method : MethodHead) (b : Bool) → test first ≡ b → slice_get (first ∷ rest) at ≡ Some method → test method ≡ true
    → ((earlier : ℕ) (other : MethodHead) → earlier < at → slice_get (first ∷ rest) earlier ≡ Some other → test other ≡ true → ⊥)
    → ((next : ℕ) → at ≡ suc next → find test rest ≡ Some method) → (if b then Some first else find test rest) ≡ Some method
find_by test first rest zero method true is there passes not_before later = there
find_by test first rest (suc next) method true is there passes not_before later = absurd (not_before 0 first (omega arith) refl is)
find_by test first rest zero method false is there passes not_before later = absurd (false≢true (sym is ∙ ap test (same_Some first method there) ∙ passes))
find_by test first rest (suc next) method false is there passes not_before later = later next refl

-- the first that passes a test is found
find_first : (test : MethodHead → Bool) (methods : List MethodHead) (at : ℕ) (method : MethodHead) → slice_get methods at ≡ Some method → test method ≡ true
    → ((earlier : ℕ) (other : MethodHead) → earlier < at → slice_get methods earlier ≡ Some other → test other ≡ true → ⊥) → find test methods ≡ Some method
find_first test [] zero method there passes not_before = absurd (none-some method there)
find_first test [] (suc at) method there passes not_before = absurd (none-some method there)
find_first test (first ∷ rest) zero method there passes not_before =
    find_by test first rest 0 method (test first) refl there passes not_before (λ next is. absurd (cc))
find_first test (first ∷ rest) (suc at) method there passes not_before =
    find_by test first rest (suc at) method (test first) refl there passes not_before
    (λ next is. find_first test rest at method there passes (λ earlier other below held. not_before (suc earlier) other (omega (arith, below)) held))

-- ---- what counts is the first that is alike

-- a method is seen by its flags, where it is no constructor with a result
seen_so : (headers : List Header) (start class : Name) (method other : MethodHead) → other.flags ≡ method.flags → is_false_constructor other.name (view_descriptor other.descriptor) ≡ false
    → IsSeen headers start class method → IsSeen headers start class other
seen_so headers start class method other same is seen =
    let with_flags : ℕ → MethodHead = λ flags. record { flags = flags; name = other.name; descriptor = other.descriptor; thrown = other.thrown } in (
      subst (λ (flags : ℕ). ¬ IsHiddenBelow headers start class (with_flags flags)) (sym same) seen.0,
      subst (λ (flags : ℕ). ¬ IsHiddenInObject headers start class (with_flags flags)) (sym same) seen.1,
      is,
    )

bridge_so : (method other : MethodHead) → other.flags ≡ method.flags → IsBridge other → IsBridge method
bridge_so method other same bridge = subst (λ (flags : ℕ). IsBridge (record { flags = flags; name = other.name; descriptor = other.descriptor; thrown = other.thrown })) same bridge

module _ (headers : List Header) (start class : Name) (methods : List MethodHead) (at : ℕ) (method : MethodHead) (there : slice_get methods at ≡ Some method) where
  abbrev Seen : MethodHead → Type 0
  Seen = IsSeen headers start class

  abbrev Any : MethodHead → Type 0
  Any other = IsOverload method.name (parameters method) other × Seen other

  abbrev Plain : MethodHead → Type 0
  Plain other = IsOverload method.name (parameters method) other × Seen other × ¬ IsBridge other

  none_alike : Counts method.name (parameters method) Seen methods at → (earlier : ℕ) (other : MethodHead) → earlier < at → slice_get methods earlier ≡ Some other → IsAlike method other → ⊥
  none_alike (inl first) earlier other below held alike =
      let same : first.item ≡ method = same_Some first.item method (sym first.is ∙ there) in
      let holds : Plain method = subst Plain same first.holds in
      first.first earlier other below held ((alike.1, alike.2), seen_so headers start class method other alike.0 alike.3 holds.1, λ bridge. holds.2 (bridge_so method other alike.0 bridge))
  none_alike (inr any) earlier other below held alike =
      let first = any.1 in
      let same : first.item ≡ method = same_Some first.item method (sym first.is ∙ there) in
      let holds : Any method = subst Any same first.holds in
      first.first earlier other below held ((alike.1, alike.2), seen_so headers start class method other alike.0 alike.3 holds.1)

  -- what counts is no constructor with a result
  counted_constructor : Counts method.name (parameters method) Seen methods at → is_false_constructor method.name (view_descriptor method.descriptor) ≡ false
  counted_constructor (inl first) = (subst Plain (same_Some first.item method (sym first.is ∙ there)) first.holds).1.2
  counted_constructor (inr any) = (subst Any (same_Some any.1.item method (sym any.1.is ∙ there)) any.1.holds).1.2

-- what is found first is had by a class
had : {A : Type 0} (Own : Name → A → Type 0) (classes : List Name) (member : A) → IsFirstIn Own classes member → (class : Name) × Own class member
had Own [] member first = absurd first
had Own (class ∷ classes) member (inl here) = (class, here)
had Own (class ∷ classes) member (inr later) = had Own classes member later.1

-- ---- the throws clause

module _ (setting : Setting) (from : Name) (receiver : JType) (through : Option JType) (name : Name) (arguments : List StaticType) (distinct : HasDistinctNames setting.headers) where
  abbrev call : Name → Call
  call class = record { from = from; class = class; through = through; name = name; arguments = arguments }

  pub listed_none : ((member : Member) → ¬ IsChosenIn setting.headers setting.members from receiver through name arguments member)
      → [] ≡ listed_by setting (meant_in setting.headers setting.members from receiver through name arguments)
  listed_none nothing = ap (listed_by setting) (none_meant setting.headers setting.members from receiver through name arguments distinct nothing)

  -- where no class is known
  pub listed_empty : length setting.headers ≡ 0 → [] ≡ listed_by setting (meant_in setting.headers setting.members from receiver through name arguments)
  listed_empty none = listed_none (λ member chosen. no_chosen (searched_class receiver) member chosen)
    where
      no_name : (headers : List Header) (P : Name → Type 0) (k : ℕ) → length headers ≡ 0 → IsSomeAnd (slice_get (names headers) k) P → ⊥
      no_name [] P zero is there = there
      no_name [] P (suc k) is there = there
      no_name (header ∷ headers) P k is there = absurd (omega (arith, is))

      no_chosen : (searched : Option Name) (member : Member) → IsSomeAnd searched (λ class. IsChosen setting.headers setting.members (call class) member) → ⊥
      no_chosen None member chosen = chosen
      no_chosen (Some class) member chosen = no_name setting.headers _ member.class none chosen.most.candidate.inherited

  module _ (member : Member) (clause : List Name) (tells : (method : MethodHead) → IsMethodAt setting.members member method → clause ≡ method.thrown) where
    methods_at : (owner : Name) (method : MethodHead) (at : IsMethodAt setting.members member method) → slice_get (names setting.headers) member.class ≡ Some owner
        → methods_of setting.headers setting.members owner ≡ at.declared.methods
    methods_at owner method at named =
        ap (λ place. methods_in (option_and_then (λ k. slice_get setting.members k) place)) (sym (place_is setting.headers owner (Some member.class) distinct named)) ∙ ap methods_in at.class

    clause_by : (class : Name) → IsChosen setting.headers setting.members (call class) member → (one : MethodIn) → IsOne setting.headers setting.members one member → clause ≡ listed_by setting (Some one)
    clause_by class chosen one is =
        let candidate = chosen.most.candidate in
        let method = candidate.method in
        let at = candidate.is_method in
        let own = had (HasOwnMethod setting.headers setting.members (Counts method.name (parameters method)) class) _ member candidate.held in
        let declared : own.1.declared ≡ at.declared = same_Some own.1.declared at.declared (sym own.1.class_at.there ∙ at.class) in
        let counts : Counts method.name (parameters method) (IsSeen setting.headers class own.0) at.declared.methods member.number =
        subst (λ (d : ClassMembers). Counts method.name (parameters method) (IsSeen setting.headers class own.0) d.methods member.number) declared own.1.picked in
        let first : find (is_method (view_method method)) at.declared.methods ≡ Some method =
        find_first (is_method (view_method method)) at.declared.methods member.number method at.number ((Decides-method method method).1 (refl, refl, refl, counted_constructor setting.headers class own.0 at.declared.methods member.number method at.number counts))
        (λ earlier other below held passes. none_alike setting.headers class own.0 at.declared.methods member.number method at.number counts earlier other below held ((Decides-method method other).0 passes)) in
        let same : one.method ≡ view_method method = is.method_is ∙ ap view_method (one_method setting.headers setting.members member is.method method is.at at) in
        tells method at
        ∙ sym (ap (λ (m : Method). clause_of (find (is_method m) (methods_of setting.headers setting.members one.owner))) same
        ∙ ap (λ methods. clause_of (find (is_method (view_method method)) methods)) (methods_at one.owner method at is.owner) ∙ ap clause_of first)

    one_by : (class : Name) → IsChosen setting.headers setting.members (call class) member → (found : Option MethodIn) → ChosenFound setting.headers setting.members distinct (call class) found
        → clause ≡ listed_by setting found
    one_by class chosen _ (none_is none) = absurd (none member chosen)
    one_by class chosen _ (one_is one other other_chosen other_is) =
        clause_by class chosen one (subst (IsOne setting.headers setting.members one) (chosen.only other other_chosen.most) other_is)

    one_in : (searched : Option Name) → IsSomeAnd searched (λ class. IsChosen setting.headers setting.members (call class) member)
        → clause ≡ listed_by setting (option_and_then (meant setting.headers setting.members from through name arguments) searched)
    one_in None chosen = absurd chosen
    one_in (Some class) is_chosen =
        one_by class is_chosen (chosen setting.headers (map view_members setting.members) (call class)) (chosen_found setting.headers setting.members distinct (call class))

    -- the clause of the method that is meant
    pub listed_one : IsChosenIn setting.headers setting.members from receiver through name arguments member → clause ≡ listed_by setting (meant_in setting.headers setting.members from receiver through name arguments)
    listed_one chosen = one_in (searched_class receiver) chosen
