-- The field that a name means in a class may be assigned, given the only class whose field it may be.
use Rattle.std.proofs.Common.{◌≡◌, ◌<◌, ℕ, Bool, false, not, List, map, length, Option, Some, None, slice_get, sym, ap, subst, ◌∙◌}
use Rattle.std.specs.Prelude.{option_map, MatchOption}
use Rattle.std.proofs.lemmas.List.{length-map}
use Rattle.std.proofs.lemmas.Option.{same_Some, slice_get-map, slice_get_within, MatchOption-at_none, MatchOption-at_some}
use Rattle.dj_names.specs.declared.header.Header.{Header}
use Rattle.dj_names.specs.declared.members.ClassMembers.{ClassMembers}
use Rattle.dj_names.specs.declared.members.Field as code_field
use Rattle.dj_names.specs.Headers.{Name, names, HasDistinctNames}
use Rattle.dj_values.specs.Deciding.{is_some_and}
use Rattle.dj_meaning.specs.Members.{Field, view_field, view_members}
use Rattle.dj_meaning.specs.Fields.{own_field, sole}
use Rattle.dj_static.specs.Walks.{own_at, IsSole, owners_of}
use Rattle.dj_static.proofs.WalkLemmas.{own_is}
use Rattle.dj_typed.specs.Stores.{owner_of, is_fixed}

module _ (headers : List Header) (members : List ClassMembers) (from class name : Name) where
  abbrev wanted : Option Name
  wanted = sole (owners_of headers members class name)

  -- what `may_assign` says
  abbrev pub assigns : Bool
  assigns =
      is_some_and (owner_of headers (map view_members members) class name) (λ owner.
      is_some_and (own_field headers (map view_members members) name owner) (λ field. not (is_fixed from owner field)))

  pub no_owner : (found : Option ℕ) → found ≡ None → MatchOption found (wanted ≡ None) (IsSole headers wanted) → false ≡ assigns
  no_owner found is told =
      let none = MatchOption-at_none (wanted ≡ None) (IsSole headers wanted) is told in
      sym (ap (λ (one : Option Name). is_some_and one (λ owner. is_some_and (own_field headers (map view_members members) name owner) (λ field. not (is_fixed from owner field)))) none)

  pub an_owner : (found : Option ℕ) (place : ℕ) → found ≡ Some place → MatchOption found (wanted ≡ None) (IsSole headers wanted) → IsSole headers wanted place
  an_owner found place is told = MatchOption-at_some (wanted ≡ None) (IsSole headers wanted) place is told

  module _ (place : ℕ) (is : IsSole headers wanted place) where
    pub owner_within : place < length headers
    owner_within = subst (λ n. place < n) (length-map headers (λ (header : Header). header.name)) (slice_get_within (names headers) place is.owner is.named)

    pub owner_is : (header : Header) → slice_get headers place ≡ Some header → header.name ≡ is.owner
    owner_is header there = same_Some header.name is.owner (sym (slice_get-map (λ (one : Header). one.name) headers place ∙ ap (option_map (λ (one : Header). one.name)) there) ∙ is.named)

    module _ (distinct : HasDistinctNames headers) where
      means : assigns ≡ is_some_and (option_map view_field (own_at members name place)) (λ field. not (is_fixed from is.owner field))
      means =
          ap (λ (one : Option Name). is_some_and one (λ owner. is_some_and (own_field headers (map view_members members) name owner) (λ field. not (is_fixed from owner field)))) is.is
          ∙ ap (λ (one : Option Field). is_some_and one (λ field. not (is_fixed from is.owner field))) (own_is headers members class name distinct place is.owner is.named)

      pub no_field : None ≡ own_at members name place → false ≡ assigns
      no_field none = sym (means ∙ ap (λ o. is_some_and (option_map view_field o) (λ field. not (is_fixed from is.owner field))) (sym none))

      pub field_is : (field : code_field.Field) (owner : Name) → Some field ≡ own_at members name place → owner ≡ is.owner → not (is_fixed from owner (view_field field)) ≡ assigns
      field_is field owner found same =
          ap (λ one. not (is_fixed from one (view_field field))) same ∙ sym (means ∙ ap (λ o. is_some_and (option_map view_field o) (λ one. not (is_fixed from is.owner one))) (sym found))
