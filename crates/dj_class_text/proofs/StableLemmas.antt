-- Names whose denial fails are names: what an identifier is can be decided.
use Rattle.std.proofs.Common.{◌≡◌, ◌⊎◌, ℕ, ◌≤◌, List, [], ◌∷◌, Some, get_or, inl, inr, refl, arith}
use Rattle.std.specs.List.{AllByRecursion}
use Rattle.std.proofs.lemmas.Bool.{cases_lt}
use Rattle.std.proofs.lemmas.List.Elements.{recursion_from_All}
use Rattle.std.proofs.Math.Nat.{le_antisymm}
use Rattle.dj_names.specs.ClassNames.{segments}
use Rattle.dj_names.specs.Headers.{Name}
use Rattle.dj_names.specs.Identifiers.{IsLetter, IsIdentifierChars, IsIdentifier}
use Rattle.dj_names.specs.Sayable.{IsSayable}
use Rattle.dj_names.specs.Types.{JType, Boolean, Byte, Char, Short, Int, Long, Float, Double, Class, Array}
use Rattle.dj_syntax.specs.WellFormed.{IsQualified, IsNamed}
use Rattle.dj_world.specs.Named.{class_of}

-- ---- decisions

stable : {A : Type 0} → A ⊎ ¬ A → ¬ ¬ A → A
stable (inl holds) denied = holds
stable (inr fails) denied = absurd (denied fails)

either_or_not : {A B : Type 0} → A ⊎ ¬ A → B ⊎ ¬ B → (A ⊎ B) ⊎ ¬ (A ⊎ B)
either_or_not (inl a) second = inl (inl a)
either_or_not (inr not_a) (inl b) = inl (inr b)
either_or_not (inr not_a) (inr not_b) = inr (λ some. elim some [ inl a ↦ not_a a | inr b ↦ not_b b ])

between_or_not : (low high unit : ℕ) → ((low ≤ unit) × (unit ≤ high)) ⊎ ¬ ((low ≤ unit) × (unit ≤ high))
between_or_not low high unit = elim (cases_lt unit low) [
  | inl under ↦ inr (λ both. (let from = both.0 in absurd (omega (arith, under, from))))
  | inr from ↦ elim (cases_lt high unit) [
    | inl over ↦ inr (λ both. (let to = both.1 in absurd (omega (arith, over, to))))
    | inr to ↦ inl (from, to)
  ]
]

equal_or_not : (unit other : ℕ) → (unit ≡ other) ⊎ ¬ (unit ≡ other)
equal_or_not unit other = elim (cases_lt unit other) [
  | inl under ↦ inr (λ same. absurd (omega (arith, under, same)))
  | inr from ↦ elim (cases_lt other unit) [
    | inl over ↦ inr (λ same. absurd (omega (arith, over, same)))
    | inr to ↦ inl (le_antisymm to from)
  ]
]

letter_or_not : (unit : ℕ) → IsLetter unit ⊎ ¬ IsLetter unit
letter_or_not unit = either_or_not (between_or_not 65 90 unit) (either_or_not (between_or_not 97 122 unit) (either_or_not (equal_or_not unit 95) (equal_or_not unit 36)))

-- ---- names

chars_stand : (units : List ℕ) → ¬ ¬ IsIdentifierChars units → IsIdentifierChars units
chars_stand [] denied = denied (λ none. none)
chars_stand (first ∷ rest) denied = (
  stable (letter_or_not first) (λ no. denied (λ chars. no chars.0)),
  λ k d within. stable (either_or_not (letter_or_not (get_or rest k d)) (between_or_not 48 57 (get_or rest k d))) (λ no. denied (λ chars. no (chars.1 k d within))),
)

pub identifier_stands : (units : List ℕ) → ¬ ¬ IsIdentifier units → IsIdentifier units
identifier_stands units denied = record {
  chars = chars_stand units (λ no. denied (λ identifier. no identifier.chars));
  no_keyword = λ word. denied (λ identifier. identifier.no_keyword word);
  no_literal = λ word. denied (λ identifier. identifier.no_literal word);
}

all_stand : (parts : List (List ℕ)) → ¬ ¬ AllByRecursion IsIdentifier parts → AllByRecursion IsIdentifier parts
all_stand [] denied = tt
all_stand (part ∷ parts) denied = (identifier_stands part (λ no. denied (λ all. no all.0)), all_stand parts (λ no. denied (λ all. no all.1)))

pub qualified_stands : (name : Name) → ¬ ¬ IsQualified name → IsQualified name
qualified_stands name denied = all_stand (segments name) denied

-- a name that can be said is one with segments
pub sayable_qualified : (name : Name) → IsSayable name → IsQualified name
sayable_qualified name sayable = recursion_from_All IsIdentifier (segments name) sayable.identifiers

-- a type can be written where the class that it names can
pub named_by_class : (kind : JType) → ((name : Name) → class_of kind ≡ Some name → IsQualified name) → IsNamed kind
named_by_class Boolean qualified = tt
named_by_class Byte qualified = tt
named_by_class Char qualified = tt
named_by_class Short qualified = tt
named_by_class Int qualified = tt
named_by_class Long qualified = tt
named_by_class Float qualified = tt
named_by_class Double qualified = tt
named_by_class (Class name) qualified = qualified name refl
named_by_class (Array element) qualified = named_by_class element qualified
