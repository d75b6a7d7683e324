-- The fields that a class declares, by the one place of the class.
use Rattle.std.proofs.Common.{◌≡◌, ◌↔◌, ℕ, List, [], Some, None, Contains, slice_get, sym, ap, subst, inl, inr, ◌∙◌, arith}
use Rattle.std.proofs.lemmas.Bool.{cases_lt}
use Rattle.std.proofs.Math.Nat.{le_antisymm}
use Rattle.std.proofs.lemmas.Option.{slice_get_within, get_or_from_slice_get, same_Some, none-some}
use Rattle.dj_names.specs.declared.header.Header.{Header}
use Rattle.dj_names.specs.declared.members.ClassMembers.{ClassMembers}
use Rattle.dj_names.specs.Headers.{Name, names, HasDistinctNames}
use Rattle.dj_members.specs.Tables.{field_names}
use Rattle.dj_kinds.proofs.HeaderLemmas.{named_within}
use Rattle.dj_sayable.specs.Saying.{DeclaresField}

-- a header to read lists with
abbrev some_header : Header
some_header = record { name = []; superclass = None; interfaces = []; flags = 0 }

one_place : (headers : List Header) (class : Name) → HasDistinctNames headers → (i j : ℕ) → slice_get (names headers) i ≡ Some class → slice_get (names headers) j ≡ Some class → i ≡ j
one_place headers class distinct i j at_i at_j =
    let here = named_within headers i class some_header at_i in
    let there = named_within headers j class some_header at_j in
    elim (cases_lt i j) [
      | inl below ↦ absurd (distinct i j some_header below there.0 (here.1 ∙ sym there.1))
      | inr from ↦ elim (cases_lt j i) [
        | inl above ↦ absurd (distinct j i some_header above here.0 (there.1 ∙ sym here.1))
        | inr to ↦ le_antisymm to from
      ]
    ]

contains_at : (xs : List Name) (at : ℕ) (x : Name) → slice_get xs at ≡ Some x → Contains xs x
contains_at xs at x is = (at, slice_get_within xs at x is, get_or_from_slice_get xs at x x is)

none_of_none : (field : Name) → ¬ Contains (field_names []) field
none_of_none field has = let w = has.1 in omega arith

module _ (headers : List Header) (members : List ClassMembers) (class : Name) where
  -- a class that has no header declares nothing
  pub fields_none : ¬ Contains (names headers) class → (field : Name) → Contains (field_names []) field ↔ DeclaresField headers members field class
  fields_none none field = (λ has. absurd (none_of_none field has), λ declares. absurd (none (contains_at (names headers) declares.at class declares.there.named)))

  pub fields_without : headers ≡ [] → (field : Name) → Contains (field_names []) field ↔ DeclaresField headers members field class
  fields_without is = fields_none (λ has. absurd (let w = subst (λ (hs : List Header). Contains (names hs) class) is has in let v = w.1 in omega arith))

  module _ (at : ℕ) (distinct : HasDistinctNames headers) (listed : slice_get (names headers) at ≡ Some class) where
    same_members : (field : Name) (d : DeclaresField headers members field class) → slice_get members at ≡ Some d.declared
    same_members field d = ap (slice_get members) (one_place headers class distinct at d.at listed d.there.named) ∙ d.there.there

    pub fields_missing : slice_get members at ≡ None → (field : Name) → Contains (field_names []) field ↔ DeclaresField headers members field class
    fields_missing none field = (λ has. absurd (none_of_none field has), λ d. absurd (none-some d.declared (sym none ∙ same_members field d)))

    pub fields_here : (declared : ClassMembers) → slice_get members at ≡ Some declared → (field : Name) → Contains (field_names declared.fields) field ↔ DeclaresField headers members field class
    fields_here declared is field = (
      λ has. record { at = at; declared = declared; there = record { named = listed; there = is }; named = has },
      λ d. subst (λ (m : ClassMembers). Contains (field_names m.fields) field) (same_Some d.declared declared (sym (same_members field d) ∙ is)) d.named,
    )
