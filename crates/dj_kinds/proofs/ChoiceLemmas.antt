-- Candidates, and the choice among them.
use Rattle.std.proofs.Common.{◌≡◌, ◌⊎◌, ◌↔◌, ℕ, suc, Bool, false, length, refl, List, [], ◌∷◌, Option, Some, None, IsTrue, IsSomeAnd, slice_get, sym, ap, subst, inl, inr, ◌∙◌}
use Rattle.std.specs.Prelude.{IfSome, option_map}
use Rattle.std.proofs.lemmas.Bool.{cases_Bool}
use Rattle.std.proofs.lemmas.Option.{same_Some, none-some, slice_get-map}
use Rattle.dj_names.specs.declared.header.Header.{Header}
use Rattle.dj_names.specs.declared.members.MethodHead.{MethodHead}
use Rattle.dj_names.specs.declared.members.ClassMembers.{ClassMembers}
use Rattle.dj_names.specs.declared.members.Member.{Member}
use Rattle.dj_names.specs.Headers.{Name, HasDistinctNames}
use Rattle.dj_names.specs.Types.{JType, StaticType}
use Rattle.dj_kinds.specs.Search.{IsFirstIn}
use Rattle.dj_kinds.specs.Own.{IsSeen, HasOwnMethod}
use Rattle.dj_kinds.specs.Choice.{AllAssignable, Call, IsCandidate, IsMoreSpecific, IsMostSpecific, IsChosen}
use Rattle.dj_members.specs.Tables.{member_names, IsListed, Covers}
use Rattle.dj_members.specs.Picks.{IsPickedAt}
use Rattle.dj_kinds.proofs.OwnLemmas.{one_place}

-- ---- one member is found

same_member : (a b : Member) → a.class ≡ b.class → a.method ≡ b.method → a.number ≡ b.number → a ≡ b
same_member a b class method number =
    ap (λ (k : ℕ). (let m : Member = record { class = k; method = a.method; number = a.number } in m)) class
    ∙ ap (λ (k : Bool). (let m : Member = record { class = b.class; method = k; number = a.number } in m)) method
    ∙ ap (λ (k : ℕ). (let m : Member = record { class = b.class; method = b.method; number = k } in m)) number

one_in : {A : Type 0} (Own : Name → A → Type 0) → ((class : Name) (a b : A) → Own class a → Own class b → a ≡ b) → (order : List Name) (a b : A) → IsFirstIn Own order a → IsFirstIn Own order b → a ≡ b
one_in Own one [] a b first second = absurd first
one_in Own one (class ∷ order) a b (inl here) (inl there) = one class a b here there
one_in Own one (class ∷ order) a b (inl here) (inr later) = absurd (later.0 a here)
one_in Own one (class ∷ order) a b (inr later) (inl there) = absurd (later.0 b there)
one_in Own one (class ∷ order) a b (inr later) (inr last) = one_in Own one order a b later.1 last.1

module _ (headers : List Header) (members : List ClassMembers) (Picks : (MethodHead → Type 0) → List MethodHead → ℕ → Type 0) (start : Name) (distinct : HasDistinctNames headers)
    (one : (class : Name) (methods : List MethodHead) (first second : ℕ) → Picks (IsSeen headers start class) methods first → Picks (IsSeen headers start class) methods second → first ≡ second) where
  one_own : (class : Name) (a b : Member) → HasOwnMethod headers members Picks start class a → HasOwnMethod headers members Picks start class b → a ≡ b
  one_own class a b first second =
      let place : a.class ≡ b.class = one_place headers class distinct a.class b.class first.class_at.named second.class_at.named in
      let own : first.declared ≡ second.declared = same_Some first.declared second.declared (sym first.class_at.there ∙ ap (λ k. slice_get members k) place ∙ second.class_at.there) in
      same_member a b place (first.is_method ∙ sym second.is_method)
      (one class second.declared.methods a.number b.number (subst (λ (o : ClassMembers). Picks (IsSeen headers start class) o.methods a.number) own first.picked) second.picked)

  pub one_found : (order : List Name) (a b : Member) → IsFirstIn (HasOwnMethod headers members Picks start) order a → IsFirstIn (HasOwnMethod headers members Picks start) order b → a ≡ b
  one_found = one_in (HasOwnMethod headers members Picks start) one_own

-- ---- each candidate is listed by the name of the call

module _ (headers : List Header) (classes : List ClassMembers) (names' : List Name) (members : List Member) (covers : Covers classes names' members) (call : Call) where
  pub listed : (member : Member) → IsCandidate headers classes call member → IsListed names' members member call.name
  listed member is =
      let at = is.is_method in
      let own_name : slice_get (member_names member.method at.declared) member.number ≡ Some is.method.name =
      ap (λ b. slice_get (member_names b at.declared) member.number) at.is_method ∙ slice_get-map (λ (m : MethodHead). m.name) at.declared.methods member.number ∙ ap (option_map (λ (m : MethodHead). m.name)) at.number in
      subst (λ n. IsListed names' members member n) is.named (covers member is.method.name (record { own = at.declared; class = at.class; named = own_name }))

  abbrev Yields : Member → Member → Type 0
  Yields member other = IsCandidate headers classes call other → IsMoreSpecific headers classes member other

  abbrev Most : Member → Type 0
  Most = IsMostSpecific headers classes call

  some_of : (o : Option Member) (P : Member → Type 0) (x : Member) → o ≡ Some x → IfSome o P → P x
  some_of None P x is holds = absurd (none-some x is)
  some_of (Some y) P x is holds = subst P (same_Some y x is) holds

  any_of : (o : Option Member) (P : Member → Type 0) → ((x : Member) → P x) → IfSome o P
  any_of None P each = tt
  any_of (Some x) P each = each x

  pub most_if : (member : Member) (all : Bool) → IsCandidate headers classes call member
      → (IsTrue all → (at : ℕ) → slice_get names' at ≡ Some call.name → IfSome (slice_get members at) (Yields member))
      → (all ≡ false → IsPickedAt names' call.name (λ at. ¬ IfSome (slice_get members at) (Yields member))) → IsTrue all ↔ Most member
  most_if member all candidate each other_is = (
    λ is. record {
      candidate = candidate;
      specific = λ other other_is_candidate. (let l = listed other other_is_candidate in some_of (slice_get members l.at) (Yields member) other l.is (each is l.at l.named) other_is_candidate);
    },
    λ most. elim (cases_Bool all) [
      | inl is ↦ is
      | inr is ↦ (let p = other_is is in absurd (p.picked (any_of (slice_get members p.at) (Yields member) most.specific)))
    ],
  )

  pub none_chosen : ((at : ℕ) → ¬ ((slice_get names' at ≡ Some call.name) × IsSomeAnd (slice_get members at) Most)) → (member : Member) → ¬ IsChosen headers classes call member
  none_chosen none member chosen =
      let l = listed member chosen.most.candidate in
      none l.at (l.named, subst (λ (o : Option Member). IsSomeAnd o Most) (sym l.is) chosen.most)

  abbrev Alone : Member → Member → Type 0
  Alone member other = (other ≡ member) ⊎ ¬ Most other

  pub two_chosen : (member : Member) → IsPickedAt names' call.name (λ at. ¬ IfSome (slice_get members at) (Alone member)) → Most member → (one : Member) → ¬ IsChosen headers classes call one
  two_chosen member two most one chosen =
      pick (slice_get members two.at) two.picked
    where
      pick : (o : Option Member) → ¬ IfSome o (Alone member) → ⊥
      pick None not = not tt
      pick (Some other) not = not (inr (λ other_most. not (inl (chosen.only other other_most ∙ sym (chosen.only member most)))))

  pub alone_if : (member : Member) → ((at : ℕ) → slice_get names' at ≡ Some call.name → IfSome (slice_get members at) (Alone member)) → (other : Member) → Most other → other ≡ member
  alone_if member all other most =
      let l = listed other most.candidate in
      elim (some_of (slice_get members l.at) (Alone member) other l.is (all l.at l.named)) [ inl same ↦ same | inr not ↦ absurd (not most) ]

-- ---- arguments

-- arguments that are taken are as many as the parameters
pub as_many : (headers : List Header) (froms : List StaticType) (tos : List JType) → AllAssignable headers froms tos → length froms ≡ length tos
as_many headers [] [] all = refl
as_many headers [] (to ∷ tos) all = absurd all
as_many headers (from ∷ froms) [] all = absurd all
as_many headers (from ∷ froms) (to ∷ tos) all = ap suc (as_many headers froms tos all.1)
