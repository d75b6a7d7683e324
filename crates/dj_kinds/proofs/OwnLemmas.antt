-- The one class of a name, and what it has itself.
use Rattle.std.proofs.Common.{◌≡◌, ℕ, zero, suc, ◌<◌, true, false, List, [], ◌∷◌, Some, None, slice_get, refl, sym, ap, subst, inl, inr, ◌∙◌, arith}
use Rattle.std.proofs.lemmas.Bool.{cases_lt}
use Rattle.std.proofs.lemmas.Option.{same_Some, none-some}
use Rattle.dj_names.specs.declared.header.Header.{Header}
use Rattle.dj_names.specs.declared.members.MethodHead.{MethodHead}
use Rattle.dj_names.specs.declared.members.ClassMembers.{ClassMembers}
use Rattle.dj_names.specs.declared.members.Member.{Member}
use Rattle.dj_names.specs.Headers.{Name, names, HasDistinctNames}
use Rattle.dj_names.specs.Types.{JType}
use Rattle.dj_kinds.specs.Own.{IsFirst, IsClassAt, IsFieldOf, HasOwnField, IsSeen, HasOwnMethod}
use Rattle.dj_kinds.proofs.HeaderLemmas.{named_within}

not_two : (headers : List Header) (class : Name) → HasDistinctNames headers → (first second : ℕ) → first < second → slice_get (names headers) first ≡ Some class → slice_get (names headers) second ≡ Some class → ⊥
not_two [] class distinct first second below one two = absurd (let w = named_within_end second class two in w)
  where
    named_within_end : (k : ℕ) (class : Name) → slice_get (names []) k ≡ Some class → ⊥
    named_within_end zero class is = none-some class is
    named_within_end (suc k) class is = none-some class is
not_two (header ∷ headers) class distinct first second below one two =
    let a = named_within (header ∷ headers) first class header one in
    let b = named_within (header ∷ headers) second class header two in
    distinct first second header below b.0 (a.1 ∙ sym b.1)

-- a name stands at one place
pub one_place : (headers : List Header) (class : Name) → HasDistinctNames headers → (first second : ℕ) → slice_get (names headers) first ≡ Some class → slice_get (names headers) second ≡ Some class → first ≡ second
one_place headers class distinct first second one two =
    elim (cases_lt first second) [
      | inl below ↦ absurd (not_two headers class distinct first second below one two)
      | inr from ↦ elim (cases_lt second first) [
        | inl above ↦ absurd (not_two headers class distinct second first above two one)
        | inr to ↦ (let e : first ≡ second = omega (arith, from, to) in e)
      ]
    ]

abbrev pub OnePlace : List Header → Name → Type 0
OnePlace headers class = (first second : ℕ) → slice_get (names headers) first ≡ Some class → slice_get (names headers) second ≡ Some class → first ≡ second

-- the members of a class at a place
module _ (headers : List Header) (members : List ClassMembers) (class : Name) (place : ℕ) (named : slice_get (names headers) place ≡ Some class) (one : OnePlace headers class) where
  pub nothing_there : (at : ℕ) (declared : ClassMembers) → None ≡ slice_get members place → ¬ IsClassAt headers members class at declared
  nothing_there at declared none is = none-some declared (none ∙ ap (λ k. slice_get members k) (one place at named is.named) ∙ is.there)

  module _ (own : ClassMembers) (there : Some own ≡ slice_get members place) where
    here : IsClassAt headers members class place own
    here = record { named = named; there = sym there }

    same_own : (at : ℕ) (declared : ClassMembers) → IsClassAt headers members class at declared → declared ≡ own
    same_own at declared is = same_Some declared own (sym is.there ∙ ap (λ k. slice_get members k) (one at place is.named named) ∙ sym there)

    module _ (name : Name) (type : JType) where
      pub no_field : ((at : ℕ) → ¬ IsFirst (IsFieldOf name type) own.fields at) → (member : Member) → ¬ HasOwnField headers members name type class member
      no_field none member is =
          none member.number (subst (λ (o : ClassMembers). IsFirst (IsFieldOf name type) o.fields member.number) (same_own member.class is.declared is.class_at) is.first)

      pub a_field : (number : ℕ) → IsFirst (IsFieldOf name type) own.fields number → HasOwnField headers members name type class (record { class = place; method = false; number = number })
      a_field number first = record { declared = own; class_at = here; is_field = refl; first = first }

    module _ (Picks : (MethodHead → Type 0) → List MethodHead → ℕ → Type 0) (start : Name) where
      pub no_method : ((at : ℕ) → ¬ Picks (IsSeen headers start class) own.methods at) → (member : Member) → ¬ HasOwnMethod headers members Picks start class member
      no_method none member is =
          none member.number (subst (λ (o : ClassMembers). Picks (IsSeen headers start class) o.methods member.number) (same_own member.class is.declared is.class_at) is.picked)

      pub a_method : (number : ℕ) → Picks (IsSeen headers start class) own.methods number → HasOwnMethod headers members Picks start class (record { class = place; method = true; number = number })
      a_method number picked = record { declared = own; class_at = here; is_method = refl; picked = picked }
