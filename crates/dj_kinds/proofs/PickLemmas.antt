-- The first of the items of a name.
use Rattle.std.proofs.Common.{◌≡◌, ◌↔◌, ℕ, List, map, Option, Some, None, IsSomeAnd, slice_get, refl, sym, ap, subst, inl, inr, ◌∙◌}
use Rattle.std.specs.Prelude.{option_map}
use Rattle.std.proofs.lemmas.Option.{same_Some, slice_get-map}
use Rattle.dj_names.specs.Headers.{Name}
use Rattle.dj_kinds.specs.Search.{FindsOne}
use Rattle.dj_names.specs.declared.members.MethodHead.{MethodHead}
use Rattle.dj_names.specs.Types.{JType}
use Rattle.dj_kinds.specs.Own.{IsFirst, IsOverload, IsBridge, Counts}
use Rattle.dj_members.specs.Picks.{PicksFirst}

-- where all are bridges the first counts
pub counts_any : (name : Name) (parameters : List JType) (Seen : MethodHead → Type 0) (methods : List MethodHead) (found : Option ℕ)
    → ((at : ℕ) → ¬ IsFirst (λ (method : MethodHead). IsOverload name parameters method × Seen method × ¬ IsBridge method) methods at)
    → FindsOne (IsFirst (λ (method : MethodHead). IsOverload name parameters method × Seen method) methods) found → FindsOne (Counts name parameters Seen methods) found
counts_any name parameters Seen methods None none first = λ at counts. elim counts [ inl plain ↦ none at plain | inr any ↦ first at any.1 ]
counts_any name parameters Seen methods (Some at) none first = inr (none, first)

module _ {A : Type 0} (items : List A) (name_of : A → Name) (names : List Name) (name : Name) (names_are : names ≡ map name_of items) (Q H : A → Type 0) (same : (x : A) → ((name_of x ≡ name) × Q x) ↔ H x) where
  abbrev Picked : ℕ → Type 0
  Picked at = (slice_get names at ≡ Some name) × IsSomeAnd (slice_get items at) Q

  record IsAt (at : ℕ) : Type 0 where
    item : A
    is : slice_get items at ≡ Some item
    holds : H item

  named : (at : ℕ) → slice_get names at ≡ option_map name_of (slice_get items at)
  named at = ap (λ ns. slice_get ns at) names_are ∙ slice_get-map name_of items at

  to : (at : ℕ) (found : Option A) → slice_get items at ≡ found → slice_get names at ≡ Some name → IsSomeAnd found Q → IsAt at
  to at None is named_is some = absurd some
  to at (Some x) is named_is some = record {
    item = x;
    is = is;
    holds = (same x).0 (same_Some (name_of x) name (sym (named at ∙ ap (option_map name_of) is) ∙ named_is), some);
  }

  from : (at : ℕ) (x : A) → slice_get items at ≡ Some x → H x → Picked at
  from at x is holds = (named at ∙ ap (option_map name_of) is ∙ ap Some ((same x).1 holds).0, subst (λ (o : Option A). IsSomeAnd o Q) (sym is) ((same x).1 holds).1)

  pub first_of_name : (found : Option ℕ) → PicksFirst Picked found → FindsOne (IsFirst H items) found
  first_of_name None none = λ at first. none at (from at first.item first.is first.holds)
  first_of_name (Some at) first =
      let here = to at (slice_get items at) refl first.picked.0 first.picked.1 in
      record {
        item = here.item;
        is = here.is;
        holds = here.holds;
        first = λ earlier other below is holds. first.first earlier below (from earlier other is holds);
      }
