-- Names of letters alone are names of classes, and descriptors of such names are descriptors.
use Rattle.std.proofs.Common.{◌≡◌, ◌⊎◌, inl, inr, ℕ, zero, suc, ◌≤◌, Bool, true, false, List, [], ◌∷◌, Option, Some, None, Contains, IfSome, sum_by, codes, nat_le, ◌&&◌, ◌||◌, bytes_eq, refl, sym, subst, arith}
use Rattle.std.specs.List.{AllByRecursion, list_all, list_any}
use Rattle.std.proofs.lemmas.Bool.Decides.{nat_tests}
use Rattle.std.proofs.lemmas.List.Elements.{All-from_recursion}
use Rattle.std.proofs.lemmas.Slice.Eq.{bytes_eq-Decides}
use Rattle.dj_names.specs.Headers.{Name}
use Rattle.dj_names.specs.ClassNames.{IsUnqualifiedName, joined, IsClassName}
use Rattle.dj_names.specs.Types.{JType, Boolean, Byte, Char, Short, Int, Long, Float, Double, Class, Array, Descriptor, Field, Method}
use Rattle.dj_names.specs.Descriptors.{words, IsType, IsDescriptor}

-- ---- tests

-- an ASCII letter
abbrev pub is_letter : ℕ → Bool
is_letter unit = (nat_le 65 unit && nat_le unit 90) || (nat_le 97 unit && nat_le unit 122)

-- one or more letters
abbrev pub is_word : List ℕ → Bool
is_word [] = false
is_word (unit ∷ units) = is_letter unit && list_all is_letter units

pub both : (a b : Bool) → (a && b) ≡ true → (a ≡ true) × (b ≡ true)
both true b h = (refl, h)
both false b h = absurd cc

one_of : (a b : Bool) → (a || b) ≡ true → (a ≡ true) ⊎ (b ≡ true)
one_of true b h = inl refl
one_of false b h = inr h

-- ---- names

letter_is_plain : (unit : ℕ) → is_letter unit ≡ true → ¬ Contains (codes ".;[/") unit
letter_is_plain unit letter (zero, within, is) = grind (arith, nat_tests)
letter_is_plain unit letter (suc zero, within, is) = grind (arith, nat_tests)
letter_is_plain unit letter (suc (suc zero), within, is) = grind (arith, nat_tests)
letter_is_plain unit letter (suc (suc (suc zero)), within, is) = grind (arith, nat_tests)
letter_is_plain unit letter (suc (suc (suc (suc k))), within, is) = absurd (omega arith)

letters_are_plain : (units : List ℕ) → list_all is_letter units ≡ true → AllByRecursion (λ unit. ¬ Contains (codes ".;[/") unit) units
letters_are_plain [] h = tt
letters_are_plain (unit ∷ units) h =
    let parts = both (is_letter unit) (list_all is_letter units) h in
    (letter_is_plain unit parts.0, letters_are_plain units parts.1)

word_is_unqualified : (units : List ℕ) → is_word units ≡ true → IsUnqualifiedName units
word_is_unqualified [] h = absurd cc
word_is_unqualified (unit ∷ units) h =
    record { some_unit = λ none. cc; plain = All-from_recursion (λ u. ¬ Contains (codes ".;[/") u) (unit ∷ units) (letters_are_plain (unit ∷ units) h) }

words_are_unqualified : (segments : List (List ℕ)) → list_all is_word segments ≡ true → AllByRecursion IsUnqualifiedName segments
words_are_unqualified [] h = tt
words_are_unqualified (segment ∷ segments) h =
    let parts = both (is_word segment) (list_all is_word segments) h in
    (word_is_unqualified segment parts.0, words_are_unqualified segments parts.1)

-- words with slashes between them are a class's name
pub class_of_words : (first : List ℕ) (segments : List (List ℕ)) → list_all is_word (first ∷ segments) ≡ true → IsClassName (joined (first ∷ segments))
class_of_words first segments h = record {
  segments = first ∷ segments;
  some_segment = λ none. cc;
  unqualified = All-from_recursion IsUnqualifiedName (first ∷ segments) (words_are_unqualified (first ∷ segments) h);
  is_joined = refl;
}

-- ---- descriptors

module _ (names : List Name) where
  -- a primitive type, or one of these classes
  abbrev pub is_known : JType → Bool
  is_known Boolean = true
  is_known Byte = true
  is_known Char = true
  is_known Short = true
  is_known Int = true
  is_known Long = true
  is_known Float = true
  is_known Double = true
  is_known (Class name) = list_any (bytes_eq name) names
  is_known (Array element) = false

  abbrev pub is_known_result : Option JType → Bool
  is_known_result None = true
  is_known_result (Some type) = is_known type

  -- the descriptor of a method, of such types
  abbrev pub is_known_descriptor : Descriptor → Bool
  is_known_descriptor (Field type) = false
  is_known_descriptor (Method parameters result) = list_all is_known parameters && (nat_le (sum_by words parameters) 255 && is_known_result result)

known_class : (names : List Name) (name : Name) → AllByRecursion IsClassName names → list_any (bytes_eq name) names ≡ true → IsClassName name
known_class [] name all h = absurd cc
known_class (known ∷ names) name all h = elim (one_of (bytes_eq name known) (list_any (bytes_eq name) names) h) [
  | inl same ↦ subst IsClassName (sym ((bytes_eq-Decides name known).0 same)) all.0
  | inr later ↦ known_class names name all.1 later
]

module _ (names : List Name) (all : AllByRecursion IsClassName names) where
  known_type : (type : JType) → is_known names type ≡ true → IsType type
  known_type Boolean h = record { class_name = tt; dimensions_fit = omega arith }
  known_type Byte h = record { class_name = tt; dimensions_fit = omega arith }
  known_type Char h = record { class_name = tt; dimensions_fit = omega arith }
  known_type Short h = record { class_name = tt; dimensions_fit = omega arith }
  known_type Int h = record { class_name = tt; dimensions_fit = omega arith }
  known_type Long h = record { class_name = tt; dimensions_fit = omega arith }
  known_type Float h = record { class_name = tt; dimensions_fit = omega arith }
  known_type Double h = record { class_name = tt; dimensions_fit = omega arith }
  known_type (Class name) h = record { class_name = known_class names name all h; dimensions_fit = omega arith }
  known_type (Array element) h = absurd cc

  known_types : (types : List JType) → list_all (is_known names) types ≡ true → AllByRecursion IsType types
  known_types [] h = tt
  known_types (type ∷ types) h = let parts = both (is_known names type) (list_all (is_known names) types) h in (known_type type parts.0, known_types types parts.1)

  known_result : (result : Option JType) → is_known_result names result ≡ true → IfSome result IsType
  known_result None h = tt
  known_result (Some type) h = known_type type h

  pub known_descriptor : (descriptor : Descriptor) → is_known_descriptor names descriptor ≡ true → IsDescriptor descriptor
  known_descriptor (Field type) h = absurd cc
  known_descriptor (Method parameters result) h =
      let first = both (list_all (is_known names) parameters) (nat_le (sum_by words parameters) 255 && is_known_result names result) h in
      let second = both (nat_le (sum_by words parameters) 255) (is_known_result names result) first.1 in
      let fits : sum_by words parameters ≤ 255 = grind (arith, nat_tests) in
      (All-from_recursion IsType parameters (known_types parameters first.0), fits, known_result result second.1)
