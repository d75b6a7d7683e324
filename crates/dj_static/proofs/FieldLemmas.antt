-- The field that a name means, given the only class whose field it may be.
use Rattle.std.proofs.Common.{◌≡◌, ◌↔◌, ℕ, Bool, if◌then◌else◌, IsTrue, List, map, Option, Some, None, slice_get, sym, ap, subst, ◌∙◌, inl, inr}
use Rattle.std.specs.Prelude.{option_map, option_and_then, MatchOption}
use Rattle.std.proofs.lemmas.Bool.{false≢true}
use Rattle.std.proofs.lemmas.Bool.Decides.{same_from_decides, Decides-like}
use Rattle.std.proofs.lemmas.Option.{same_Some, slice_get-map, MatchOption-at_none, MatchOption-at_some}
use Rattle.dj_names.specs.declared.header.Header.{Header}
use Rattle.dj_names.specs.declared.members.ClassMembers.{ClassMembers}
use Rattle.dj_names.specs.declared.members.Field.{Field}
use Rattle.dj_names.specs.declared.members.Member.{Member}
use Rattle.dj_names.specs.Headers.{Name, names, HasDistinctNames}
use Rattle.dj_names.specs.Types.{JType}
use Rattle.dj_kinds.specs.Access.{Allows, IsAccessible, flags_of}
use Rattle.dj_meaning.specs.Members.{view_field, view_members}
use Rattle.dj_meaning.specs.Visible.{allows}
use Rattle.dj_meaning.specs.Fields.{own_field, sole, usable, field_of}
use Rattle.dj_static.specs.Views.{known_of}
use Rattle.dj_static.specs.Walks.{own_at, IsFieldAt, IsSole, owners_of}
use Rattle.dj_static.proofs.VisibleLemmas.{Decides-allows}
use Rattle.dj_static.proofs.WalkLemmas.{own_is}

module _ (headers : List Header) (members : List ClassMembers) (from : Name) (through : Option JType) where
  -- a field may be used where it is accessible
  module _ (member : Member) (field : Field) (owner : Name) (is : IsFieldAt members member field) (named : slice_get (names headers) member.class ≡ Some owner) where
    flags_there : slice_get (flags_of member.method is.declared) member.number ≡ Some field.flags
    flags_there =
        ap (λ b. slice_get (flags_of b is.declared) member.number) is.is_field ∙ slice_get-map (λ (f : Field). f.flags) is.declared.fields member.number ∙ ap (option_map (λ (f : Field). f.flags)) is.there

    allowed_to : IsAccessible headers members from member through → Allows headers from owner field.flags through
    allowed_to may =
        let class : may.class ≡ owner = same_Some may.class owner (sym may.class_at.named ∙ named) in
        let declared : may.declared ≡ is.declared = same_Some may.declared is.declared (sym may.class_at.there ∙ is.class) in
        let flags : may.flags ≡ field.flags = same_Some may.flags field.flags (sym may.there ∙ ap (λ (d : ClassMembers). slice_get (flags_of member.method d) member.number) declared ∙ flags_there) in
        elim may.allowed [
          | inl allowed ↦ subst (λ f. Allows headers from owner f through) flags (subst (λ c. Allows headers from c may.flags through) class allowed)
          | inr clone ↦ absurd (false≢true (sym is.is_field ∙ clone.1.is_method))
        ]

    allowed_back : Allows headers from owner field.flags through → IsAccessible headers members from member through
    allowed_back allowed = record { class = owner; declared = is.declared; class_at = record { named = named; there = is.class }; flags = field.flags; there = flags_there; allowed = inl allowed }

    pub allowed_is : (answer : Bool) → IsTrue answer ↔ IsAccessible headers members from member through → answer ≡ allows headers from owner field.flags through
    allowed_is answer told =
        same_from_decides answer (allows headers from owner field.flags through) told
        (Decides-like (allows headers from owner field.flags through) allowed_back allowed_to (Decides-allows headers from owner field.flags through))

  module _ (class name : Name) where
    abbrev wanted : Option Name
    wanted = sole (owners_of headers members class name)

    -- where there is no such class, or it has no such field, the name means none
    pub no_owner : (found : Option ℕ) → found ≡ None → MatchOption found (wanted ≡ None) (IsSole headers wanted) → None ≡ field_of headers (map view_members members) from through class name
    no_owner found is told = let none = MatchOption-at_none (wanted ≡ None) (IsSole headers wanted) is told in sym (ap (option_and_then (λ owner. option_and_then (usable headers from through owner) (own_field headers (map view_members members) name owner))) none)

    pub an_owner : (found : Option ℕ) (place : ℕ) → found ≡ Some place → MatchOption found (wanted ≡ None) (IsSole headers wanted) → IsSole headers wanted place
    an_owner found place is told = MatchOption-at_some (wanted ≡ None) (IsSole headers wanted) place is told

    module _ (place : ℕ) (is : IsSole headers wanted place) (distinct : HasDistinctNames headers) where
      means : field_of headers (map view_members members) from through class name ≡ option_and_then (usable headers from through is.owner) (option_map view_field (own_at members name place))
      means =
          ap (option_and_then (λ owner. option_and_then (usable headers from through owner) (own_field headers (map view_members members) name owner))) is.is
          ∙ ap (option_and_then (usable headers from through is.owner)) (own_is headers members class name distinct place is.owner is.named)

      pub no_field : None ≡ own_at members name place → None ≡ field_of headers (map view_members members) from through class name
      no_field none = sym (means ∙ ap (λ o. option_and_then (usable headers from through is.owner) (option_map view_field o)) (sym none))

      pub field_is : (member : Member) (field : Field) (answer : Bool) → Some field ≡ own_at members name place → IsFieldAt members member field → member.class ≡ place
          → IsTrue answer ↔ IsAccessible headers members from member through → (if answer then Some (known_of field) else None) ≡ field_of headers (map view_members members) from through class name
      field_is member field answer found at same told =
          let allowed = allowed_is member field is.owner at (ap (slice_get (names headers)) same ∙ is.named) answer told in
          ap (λ b. if b then Some (known_of field) else None) allowed ∙ sym (means ∙ ap (λ o. option_and_then (usable headers from through is.owner) (option_map view_field o)) (sym found))
