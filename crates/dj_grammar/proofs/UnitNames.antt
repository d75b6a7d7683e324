-- The names that the bodies of a well formed unit are read by: its class's, and its helper's.
use Rattle.std.proofs.Common.{◌≡◌, ◌==◌, ℕ, Bool, true, false, List, [], ◌∷◌, ◌++◌, Option, Some, None, IfSome, is_some, refl, sym, ap, ◌∙◌, subst}
use Rattle.std.specs.Prelude.{if◌then◌else◌}
use Rattle.std.specs.List.{AllByRecursion}
use Rattle.std.proofs.lemmas.Bool.{false≢true}
use Rattle.std.proofs.lemmas.Bool.Decides.{nat_tests}
use Rattle.std.proofs.Common.{arith, ◌⊎◌, inl, inr}
use Rattle.std.proofs.lemmas.List.Elements.{recursion_from_All}
use Rattle.dj_names.specs.ClassNames.{in_front, segments}
use Rattle.dj_names.specs.Identifiers.{IsIdentifier, IsLetter, IsDigit}
use Rattle.dj_syntax.specs.Trees.{CompilationUnit, FieldText, MethodText}
use Rattle.dj_syntax.specs.UnitText.{full_names, class_name, helper_name}
use Rattle.dj_syntax.specs.WellFormed.{IsWellFormed, IsQualified, IsHelperName}
use Rattle.dj_grammar.specs.Units.{name_in}
use Rattle.dj_grammar.proofs.Spelled.{helper_run}
use Rattle.dj_grammar.proofs.IdentifiersAreWords.{token_of-helper}
use Rattle.dj_grammar.proofs.NamesAreRead.{parts_of}
use Rattle.dj_grammar.proofs.StatementsAreRead.{CanBeRead}
use Rattle.dj_grammar.proofs.StatementsAreSpelled.{AreSpelled}

-- a unit whose own name, class and helper are names
pub record IsReadable (unit : CompilationUnit) : Type 0 where
  pub name : IsIdentifier unit.name
  pub class : IsQualified (class_name unit)
  pub helper : is_some unit.helper ≡ true → IsHelperName (helper_name unit.helper)

-- its bodies can be read
pub read_names_of : (unit : CompilationUnit) → IsReadable unit → CanBeRead (full_names unit) (is_some unit.helper)
read_names_of unit is = record { class = is.class; called = λ some. token_of-helper (helper_name unit.helper) (is.helper some) }

-- its bodies are spelled
pub spelled_names : (unit : CompilationUnit) → IsReadable unit → AreSpelled unit (is_some unit.helper)
spelled_names unit is = record { class = is.class; called = λ some. helper_run (helper_name unit.helper) (is.helper some) }

-- ---- a well formed unit is one

no_slash_letter : (unit : ℕ) → IsLetter unit → (unit == 47) ≡ false
no_slash_letter unit is = grind (arith, nat_tests)

no_slash_digit : (unit : ℕ) → IsDigit unit → (unit == 47) ≡ false
no_slash_digit unit is = grind (arith, nat_tests)

no_slash_either : (unit : ℕ) → IsLetter unit ⊎ IsDigit unit → (unit == 47) ≡ false
no_slash_either unit (inl is) = no_slash_letter unit is
no_slash_either unit (inr is) = no_slash_digit unit is

one_segment : (name : List ℕ) → AllByRecursion (λ unit. IsLetter unit ⊎ IsDigit unit) name → segments name ≡ name ∷ []
one_segment [] are = refl
one_segment (unit ∷ rest) (here, there) = rw (no_slash_either unit here, one_segment rest there) refl

identifier_segment : (name : List ℕ) → IsIdentifier name → segments name ≡ name ∷ []
identifier_segment [] is = absurd is.chars
identifier_segment (first ∷ rest) is =
    rw (no_slash_letter first is.chars.0, one_segment rest (recursion_from_All (λ unit. IsLetter unit ⊎ IsDigit unit) rest is.chars.1)) refl

qualified_single : (name : List ℕ) → IsIdentifier name → IsQualified name
qualified_single name is = subst (AllByRecursion IsIdentifier) (sym (identifier_segment name is)) (is, tt)

segments_behind : (front name : List ℕ) → segments (front ++ 47 ∷ name) ≡ segments front ++ segments name
segments_behind [] name = refl
segments_behind (unit ∷ rest) name = go (unit == 47) (segments_behind rest name)
  where
    go : (slash : Bool) → segments (rest ++ 47 ∷ name) ≡ segments rest ++ segments name
        → (if slash then [] ∷ segments (rest ++ 47 ∷ name) else in_front unit (segments (rest ++ 47 ∷ name))) ≡ (if slash then [] ∷ segments rest else in_front unit (segments rest)) ++ segments name
    go true later = ap (λ segments. [] ∷ segments) later
    go false later = ap (in_front unit) later ∙ (let parts = parts_of rest in rw parts.are refl)

all_append : (front back : List (List ℕ)) → AllByRecursion IsIdentifier front → AllByRecursion IsIdentifier back → AllByRecursion IsIdentifier (front ++ back)
all_append [] back are others = others
all_append (first ∷ rest) back (here, there) others = (here, all_append rest back there others)

qualified_in : (in_package : Option (List ℕ)) (name : List ℕ) → IfSome in_package IsQualified → IsIdentifier name → IsQualified (name_in in_package name)
qualified_in None name named is = qualified_single name is
qualified_in (Some package_name) name named is =
    subst (AllByRecursion IsIdentifier) (sym (segments_behind package_name name)) (all_append (segments package_name) (segments name) named (qualified_single name is))

-- a unit's class is its own name in its package
pub in_package_is : (unit : CompilationUnit) → name_in unit.«package» unit.name ≡ class_name unit
in_package_is unit = go unit.«package» unit.flags unit.name unit.superclass unit.interfaces unit.fields unit.helper unit.methods
  where
    go : (in_package : Option (List ℕ)) (flags : ℕ) (name : List ℕ) (superclass : Option (List ℕ)) (interfaces : List (List ℕ)) (fields : List FieldText) (helper : Option (List ℕ)) (methods : List MethodText)
        → name_in in_package name ≡ class_name (record { «package» = in_package; flags = flags; name = name; superclass = superclass; interfaces = interfaces; fields = fields; helper = helper; methods = methods })
    go None flags name superclass interfaces fields helper methods = refl
    go (Some package_name) flags name superclass interfaces fields helper methods = refl

helper_of : (helper : Option (List ℕ)) → IfSome helper IsHelperName → is_some helper ≡ true → IsHelperName (helper_name helper)
helper_of None named some = absurd (false≢true some)
helper_of (Some name) named some = named

-- a well formed unit is readable
pub readable : (unit : CompilationUnit) → IsWellFormed unit → IsReadable unit
readable unit formed = record {
  name = formed.name;
  class = subst IsQualified (in_package_is unit) (qualified_in unit.«package» unit.name formed.in_package formed.name);
  helper = helper_of unit.helper formed.helper;
}
