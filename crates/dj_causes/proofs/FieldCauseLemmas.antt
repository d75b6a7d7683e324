-- The first cause of a field: those before it don't hold.
use Rattle.std.proofs.Common.{◌≡◌, ◌≢◌, ◌↔◌, ℕ, ◌<◌, ◌≤◌, true, false, IsTrue, List, [], length, get_or, Option, Some, None, MatchOption, IsSomeAnd, slice_get, refl, sym, ap, subst, inl, inr, ◌∙◌, arith}
use Rattle.std.proofs.lemmas.Option.{same_Some, none-some, slice_get-get_or}
use Rattle.dj_names.specs.Headers.{Name}
use Rattle.dj_names.specs.Identifiers.{IsIdentifier}
use Rattle.dj_members.specs.Names.{IsLast}
use Rattle.dj_class.specs.Described.{ClassOf, FieldOf}
use Rattle.dj_world.specs.Worlds.{WorldOf}
use Rattle.dj_world.specs.Named.{class_of}
use Rattle.dj_causes.specs.declared.cause.FieldCause.{FieldCause}
use Rattle.dj_causes.specs.declared.cause.FieldCause.TheVariants as cause
use Rattle.dj_causes.specs.Firsts.{IsLeastCause}
use Rattle.dj_causes.specs.FieldCauses.{IsRepeated, IsUnsaidInField, HasWrongConstant, HasFieldCause, field_names, field_number}
use Rattle.dj_causes.specs.Tables.{IsLeastIfAny}
use Rattle.dj_causes.specs.ClassCauses.{IsSaid}

-- a name stands before a place too exactly where a table tells such a place
pub repeated_last : (names : List Name) (at : ℕ) (name : Name) (before : Option ℕ) → slice_get names at ≡ Some name → IsLast names name at before → (before ≢ None) ↔ IsRepeated names at
repeated_last names at name None here none = (
  λ some. absurd (some refl),
  λ repeated. absurd (none repeated.earlier repeated.before (repeated.there ∙ ap Some (same_Some repeated.name name (sym repeated.here ∙ here)))),
)
repeated_last names at name (Some earlier) here last = (
  λ some. record { name = name; here = here; earlier = earlier; before = last.0; there = last.1 },
  λ repeated. λ none. absurd cc,
)

-- the name at a place within the table
named_there : (names : List Name) (at : ℕ) → at < length names → slice_get names at ≡ Some (get_or names at [])
named_there names at within = slice_get-get_or names at [] within

pub repeated_some : (names : List Name) (at earlier : ℕ) → at < length names → ((name : Name) → slice_get names at ≡ Some name → IsLast names name at (Some earlier)) → IsTrue true ↔ IsRepeated names at
repeated_some names at earlier within last = (
  λ yes. (repeated_last names at (get_or names at []) (Some earlier) (named_there names at within) (last (get_or names at []) (named_there names at within))).0 (λ none. absurd cc),
  λ repeated. refl,
)

pub repeated_none : (names : List Name) (at : ℕ) → at < length names → ((name : Name) → slice_get names at ≡ Some name → IsLast names name at None) → IsTrue false ↔ IsRepeated names at
repeated_none names at within last = (
  λ yes. absurd cc,
  λ repeated. absurd ((repeated_last names at (get_or names at []) None (named_there names at within) (last (get_or names at []) (named_there names at within))).1 repeated refl),
)

-- the first name that a field can't say, where it can say its own
pub unsaid_type : (world : WorldOf) (class : ClassOf) (field : FieldOf) (name : Name) (found : Option Name) → IsIdentifier field.name → class_of field.descriptor ≡ Some name
    → IsLeastIfAny (λ other. (name ≡ other) × ¬ IsSaid world class.this_class other) found → MatchOption found ((other : Name) → ¬ IsUnsaidInField world class field other) (IsUnsaidInField world class field)
unsaid_type world class field name None own of none = λ other unsaid. elim unsaid [
  | inl bad ↦ bad.0 own
  | inr bad ↦ none other (same_Some name other (sym of ∙ bad.1), bad.2)
]
unsaid_type world class field name (Some found) own of least = inr (own, of ∙ ap Some least.holds.0, least.holds.1)

pub no_type : (world : WorldOf) (class : ClassOf) (field : FieldOf) → IsIdentifier field.name → class_of field.descriptor ≡ None → (other : Name) → ¬ IsUnsaidInField world class field other
no_type world class field own none other unsaid = elim unsaid [
  | inl bad ↦ bad.0 own
  | inr bad ↦ (let e : None ≡ Some other = sym none ∙ bad.1 in absurd (none-some other e))
]

module _ (world : WorldOf) (class : ClassOf) (at : ℕ) (field : FieldOf) (there : slice_get class.fields at ≡ Some field) where
  at_field : (P : FieldOf → Type 0) → IsSomeAnd (slice_get class.fields at) P → P field
  at_field P some = subst (λ (o : Option FieldOf). IsSomeAnd o P) there some

  of_field : (P : FieldOf → Type 0) → P field → IsSomeAnd (slice_get class.fields at) P
  of_field P holds = subst (λ (o : Option FieldOf). IsSomeAnd o P) (sym there) holds

  pub least_name : (name : Name) → IsUnsaidInField world class field name → IsLeastCause field_number (HasFieldCause world class at) (cause.Name name)
  least_name name unsaid = record { holds = of_field (λ f. IsUnsaidInField world class f name) unsaid; least = from_first }
    where
      from_first : (other : FieldCause) → HasFieldCause world class at other → 1 ≤ field_number other
      from_first (cause.Name other) holds = omega arith
      from_first cause.Signature holds = omega arith
      from_first cause.Constant holds = omega arith

  module _ (said : (name : Name) → ¬ IsUnsaidInField world class field name) where
    no_name : (name : Name) → ¬ HasFieldCause world class at (cause.Name name)
    no_name name holds = said name (at_field (λ f. IsUnsaidInField world class f name) holds)

    pub least_signature : IsRepeated (field_names class.fields) at → IsLeastCause field_number (HasFieldCause world class at) cause.Signature
    least_signature repeated = record { holds = repeated; least = from_second }
      where
        from_second : (other : FieldCause) → HasFieldCause world class at other → 2 ≤ field_number other
        from_second (cause.Name other) holds = absurd (no_name other holds)
        from_second cause.Signature holds = omega arith
        from_second cause.Constant holds = omega arith

    module _ (new : ¬ IsRepeated (field_names class.fields) at) where
      pub least_constant : HasWrongConstant field → IsLeastCause field_number (HasFieldCause world class at) cause.Constant
      least_constant wrong = record { holds = of_field HasWrongConstant wrong; least = from_third }
        where
          from_third : (other : FieldCause) → HasFieldCause world class at other → 3 ≤ field_number other
          from_third (cause.Name other) holds = absurd (no_name other holds)
          from_third cause.Signature holds = absurd (new holds)
          from_third cause.Constant holds = omega arith

      pub none_of_field : ¬ HasWrongConstant field → (other : FieldCause) → ¬ HasFieldCause world class at other
      none_of_field right (cause.Name other) holds = no_name other holds
      none_of_field right cause.Signature holds = new holds
      none_of_field right cause.Constant holds = right (at_field HasWrongConstant holds)
