-- No class above another has one where each member of the name is of a class that isn't above it or has none.
use Rattle.std.proofs.Common.{◌≡◌, ◌⊎◌, ℕ, Bool, true, false, List, map, Option, Some, None, slice_get, sym, subst, ◌∙◌, inl, inr}
use Rattle.std.specs.Prelude.{IfSome}
use Rattle.std.specs.Option.{option_map}
use Rattle.std.proofs.lemmas.Bool.{cases_Bool}
use Rattle.std.proofs.lemmas.Option.{none-some, same_Some, slice_get-map}
use Rattle.dj_names.specs.declared.header.Header.{Header}
use Rattle.dj_names.specs.declared.members.ClassMembers.{ClassMembers}
use Rattle.dj_names.specs.declared.members.Member.{Member}
use Rattle.dj_names.specs.Headers.{Name, names, Implements}
use Rattle.dj_names.specs.Types.{JType}
use Rattle.dj_members.specs.Tables.{Covers}
use Rattle.dj_meaning.specs.Members.{view_members}
use Rattle.dj_alone.specs.Rivals.{has}
use Rattle.dj_alone.proofs.Having.{has-held}

module _ (headers : List Header) (members : List ClassMembers) (start name : Name) (types : List JType) where
  abbrev has-one : Name → Bool
  has-one = has headers (map view_members members) start name types

  -- what holds of the header at the place of a class holds of the class
  at-class : (P : Name → Type 0) (place : ℕ) (class : Name) → slice_get (names headers) place ≡ Some class → IfSome (slice_get headers place) (λ header. P header.name) → P class
  at-class P place class there is = by (slice_get headers place) (sym (slice_get-map (λ (h : Header). h.name) headers place) ∙ there) is
    where
      by : (found : Option Header) → option_map (λ (h : Header). h.name) found ≡ Some class → IfSome found (λ header. P header.name) → P class
      by None there is = absurd (none-some class there)
      by (Some header) there is = subst P (same_Some header.name class there) is

  module _ (lower : Name) where
    abbrev pub IsAway : Member → Type 0
    IsAway member = IfSome (slice_get headers member.class) (λ header. Implements headers lower header.name → has-one header.name ≡ false)

    pub none-above : (sites : List Name) (listed : List Member) → Covers members sites listed → ((at : ℕ) → slice_get sites at ≡ Some name → IfSome (slice_get listed at) IsAway)
        → (upper : Name) → Implements headers lower upper → has-one upper ≡ false
    none-above sites listed covers away upper above = by (cases_Bool (has-one upper))
      where
        by : (has-one upper ≡ true) ⊎ (has-one upper ≡ false) → has-one upper ≡ false
        by (inr none) = none
        by (inl one) =
            let held = has-held headers start name types upper members one in
            let site = covers (record { class = held.place; method = true; number = held.number }) name held.is in
            let here = subst (λ found. IfSome found IsAway) site.is (away site.at site.named) in
            at-class (λ class. Implements headers lower class → has-one class ≡ false) held.place upper held.there here above
