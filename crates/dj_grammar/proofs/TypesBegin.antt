-- How the words of types and results begin: with no modifier and no sign that begins a member of another kind.
use Rattle.std.proofs.Common.{◌≡◌, ℕ, false, List, [], ◌∷◌, ◌++◌, Option, Some, None, IfSome, refl, append_assoc}
use Rattle.std.specs.Prelude.{codes}
use Rattle.dj_names.specs.Types.{JType, Boolean, Byte, Char, Short, Int, Long, Float, Double, Class, Array}
use Rattle.dj_names.specs.Identifiers.{IsIdentifier}
use Rattle.dj_syntax.specs.WellFormed.{IsNamed}
use Rattle.dj_tokens.specs.Words.{Words, first_word, other_words, comes}
use Rattle.dj_grammar.specs.Members.{modifier_of, ends_members}
use Rattle.dj_tokens.proofs.Runs.{identifier_run, run_differs}
use Rattle.dj_grammar.proofs.IdentifierNoModifier.{modifier_of-identifier}
use Rattle.dj_grammar.proofs.NamesAreRead.{parts_of, after_dots}
use Rattle.dj_grammar.proofs.TypesAreRead.{type_words, result_words, first_segment}

-- a word that isn't reserved begins a member
pub record BeginsMember (list : Words) : Type 0 where
  pub modifier : modifier_of (first_word list) ≡ None
  pub brace : comes (codes "{") list ≡ false
  pub angle : comes (codes "<") list ≡ false
  pub last : ends_members list ≡ false

-- an identifier begins a member
pub identifier_begins : (name : List ℕ) (list : Words) → IsIdentifier name → BeginsMember (name ∷ list)
identifier_begins name list identifier = record {
  modifier = modifier_of-identifier name identifier;
  brace = run_differs name (codes "{") (identifier_run name identifier) refl;
  angle = run_differs name (codes "<") (identifier_run name identifier) refl;
  last = run_differs name (codes "}") (identifier_run name identifier) refl;
}

-- a type or result begins a member that isn't a constructor
pub record BeginsNamed (list : Words) : Type 0 where
  pub first : BeginsMember list
  pub second : comes (codes "(") (other_words list) ≡ false

keyword_begins : (keyword : List ℕ) (next : Words) → modifier_of keyword ≡ None → comes (codes "{") (keyword ∷ []) ≡ false → comes (codes "<") (keyword ∷ []) ≡ false → comes (codes "}") (keyword ∷ []) ≡ false
    → comes (codes "(") next ≡ false → BeginsNamed (keyword ∷ next)
keyword_begins keyword next modifier brace angle last other = record {
  first = record { modifier = modifier; brace = brace; angle = angle; last = last };
  second = other;
}

dots_follow : (parts : List (List ℕ)) (next : Words) → comes (codes "(") next ≡ false → comes (codes "(") (after_dots parts ++ next) ≡ false
dots_follow [] next other = other
dots_follow (segment ∷ rest) next other = refl

-- a type begins a field or a method, where no parenthesis follows
pub type_begins : (kind : JType) (next : Words) → IsNamed kind → comes (codes "(") next ≡ false → BeginsNamed (type_words kind ++ next)
type_begins Boolean next named other = keyword_begins (codes "boolean") next refl refl refl refl other
type_begins Byte next named other = keyword_begins (codes "byte") next refl refl refl refl other
type_begins Char next named other = keyword_begins (codes "char") next refl refl refl refl other
type_begins Short next named other = keyword_begins (codes "short") next refl refl refl refl other
type_begins Int next named other = keyword_begins (codes "int") next refl refl refl refl other
type_begins Long next named other = keyword_begins (codes "long") next refl refl refl refl other
type_begins Float next named other = keyword_begins (codes "float") next refl refl refl refl other
type_begins Double next named other = keyword_begins (codes "double") next refl refl refl refl other
type_begins (Class name) next named other =
    let parts = parts_of name in
    rw parts.are (record { first = identifier_begins parts.first (after_dots parts.rest ++ next) (first_segment name parts named); second = dots_follow parts.rest next other })
type_begins (Array element) next named other =
    rw (append_assoc (type_words element) (codes "[" ∷ codes "]" ∷ []) next) (type_begins element (codes "[" ∷ codes "]" ∷ next) named refl)

-- a result begins a method, where no parenthesis follows
pub result_begins : (result : Option JType) (next : Words) → IfSome result IsNamed → comes (codes "(") next ≡ false → BeginsNamed (result_words result ++ next)
result_begins None next named other = keyword_begins (codes "void") next refl refl refl refl other
result_begins (Some kind) next named other = type_begins kind next named other
