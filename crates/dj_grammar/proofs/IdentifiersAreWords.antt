-- An identifier is no reserved word: where a type stands it names a class, and where a word stands it is a name (JLS 3.9). Numbers are places among the keywords.
use Rattle.std.proofs.Common.{◌≡◌, ℕ, Bool, true, false, List, [], ◌∷◌, Contains, refl, sym, ap, ◌∙◌, subst, arith}
use Rattle.std.specs.Prelude.{codes, None, if◌then◌else◌}
use Rattle.std.specs.Cmp.Lexicographic.{same_text}
use Rattle.dj_names.specs.Identifiers.{IsIdentifier, keywords, word_literals}
use Rattle.dj_syntax.specs.WellFormed.{IsHelperName}
use Rattle.dj_tokens.specs.Words.{is_word, is_digit, is_letter, is_operator, is_quote}
use Rattle.dj_tokens.specs.Names.{type_of}
use Rattle.dj_tokens.specs.declared.tokens.Token.{Token}
use Rattle.dj_tokens.specs.declared.tokens.Token.TheVariants as token
use Rattle.dj_tokens.specs.Tokens.{separator_of, sign_of, statement_of, name_of, token_of, token_or}
use Rattle.dj_tokens.specs.Dotted.{primitive_of}
use Rattle.dj_names.specs.Types.{Class}
use Rattle.dj_tokens.proofs.Runs.{letter_passes, letter_no_digit}

-- a word that isn't reserved is no reserved word
pub no_keyword : (word keyword : List ℕ) → IsIdentifier word → Contains keywords keyword → is_word word keyword ≡ false
no_keyword word keyword identifier reserved = go (is_word word keyword) refl
  where
    go : (same : Bool) → is_word word keyword ≡ same → same ≡ false
    go true e = absurd (identifier.no_keyword (subst (Contains keywords) (sym (same_text word keyword (sym e))) reserved))
    go false e = refl

-- an identifier names a class where a type stands
pub type_of-identifier : (word : List ℕ) → IsIdentifier word → type_of word ≡ Class word
type_of-identifier word identifier =
    let boolean = no_keyword word (codes "boolean") identifier (10, omega arith, refl) in
    let byte = no_keyword word (codes "byte") identifier (20, omega arith, refl) in
    let char = no_keyword word (codes "char") identifier (35, omega arith, refl) in
    let short = no_keyword word (codes "short") identifier (33, omega arith, refl) in
    let int = no_keyword word (codes "int") identifier (32, omega arith, refl) in
    let long = no_keyword word (codes "long") identifier (42, omega arith, refl) in
    let float = no_keyword word (codes "float") identifier (46, omega arith, refl) in
    let double = no_keyword word (codes "double") identifier (16, omega arith, refl) in
    rw (boolean, byte, char, short, int, long, float, double)

-- an identifier is no primitive type
pub primitive_of-identifier : (word : List ℕ) → IsIdentifier word → primitive_of word ≡ None
primitive_of-identifier word identifier =
    let w_boolean = no_keyword word (codes "boolean") identifier (10, omega arith, refl) in
    let w_byte = no_keyword word (codes "byte") identifier (20, omega arith, refl) in
    let w_char = no_keyword word (codes "char") identifier (35, omega arith, refl) in
    let w_short = no_keyword word (codes "short") identifier (33, omega arith, refl) in
    let w_int = no_keyword word (codes "int") identifier (32, omega arith, refl) in
    let w_long = no_keyword word (codes "long") identifier (42, omega arith, refl) in
    let w_float = no_keyword word (codes "float") identifier (46, omega arith, refl) in
    let w_double = no_keyword word (codes "double") identifier (16, omega arith, refl) in
    rw (w_boolean, w_byte, w_char, w_short, w_int, w_long, w_float, w_double)

-- an identifier is no literal
no_word_literal : (word literal : List ℕ) → IsIdentifier word → Contains word_literals literal → is_word word literal ≡ false
no_word_literal word literal identifier reserved = go (is_word word literal) refl
  where
    go : (same : Bool) → is_word word literal ≡ same → same ≡ false
    go true e = absurd (identifier.no_literal (subst (Contains word_literals) (sym (same_text word literal (sym e))) reserved))
    go false e = refl

statement_of-identifier : (word : List ℕ) → IsIdentifier word → statement_of word ≡ None
statement_of-identifier word identifier =
    let w_return = no_keyword word (codes "return") identifier (28, omega arith, refl) in
    let w_if = no_keyword word (codes "if") identifier (7, omega arith, refl) in
    let w_else = no_keyword word (codes "else") identifier (21, omega arith, refl) in
    let w_while = no_keyword word (codes "while") identifier (49, omega arith, refl) in
    let w_do = no_keyword word (codes "do") identifier (11, omega arith, refl) in
    let w_for = no_keyword word (codes "for") identifier (2, omega arith, refl) in
    let w_switch = no_keyword word (codes "switch") identifier (4, omega arith, refl) in
    let w_case = no_keyword word (codes "case") identifier (25, omega arith, refl) in
    let w_default = no_keyword word (codes "default") identifier (6, omega arith, refl) in
    let w_break = no_keyword word (codes "break") identifier (15, omega arith, refl) in
    let w_continue = no_keyword word (codes "continue") identifier (1, omega arith, refl) in
    let w_throw = no_keyword word (codes "throw") identifier (19, omega arith, refl) in
    let w_try = no_keyword word (codes "try") identifier (34, omega arith, refl) in
    let w_catch = no_keyword word (codes "catch") identifier (30, omega arith, refl) in
    let w_finally = no_keyword word (codes "finally") identifier (41, omega arith, refl) in
    let w_synchronized = no_keyword word (codes "synchronized") identifier (9, omega arith, refl) in
    rw (w_return, w_if, w_else, w_while, w_do, w_for, w_switch, w_case, w_default, w_break, w_continue, w_throw, w_try, w_catch, w_finally, w_synchronized)

name_of-identifier : (word : List ℕ) → IsIdentifier word → name_of word ≡ token.Name
name_of-identifier word identifier =
    let w_true = no_word_literal word (codes "true") identifier (0, omega arith, refl) in
    let w_false = no_word_literal word (codes "false") identifier (1, omega arith, refl) in
    let w_null = no_word_literal word (codes "null") identifier (2, omega arith, refl) in
    let w_this = no_keyword word (codes "this") identifier (14, omega arith, refl) in
    let w_new = no_keyword word (codes "new") identifier (3, omega arith, refl) in
    let w_instanceof = no_keyword word (codes "instanceof") identifier (27, omega arith, refl) in
    let w_class = no_keyword word (codes "class") identifier (40, omega arith, refl) in
    rw (w_true, w_false, w_null, w_this, w_new, w_instanceof, w_class)

-- what a word is that begins with neither a digit nor a letter
abbrev other : ℕ → List ℕ → Token
other first rest = if is_operator first then sign_of (first ∷ rest) else if is_quote first then token.Text else separator_of first

-- a word that begins with a letter that is no digit, and is no keyword, is a name
pub letter_is_name : (first : ℕ) (rest : List ℕ) → is_digit first ≡ false → is_letter first ≡ true → statement_of (first ∷ rest) ≡ None → name_of (first ∷ rest) ≡ token.Name → token_of (first ∷ rest) ≡ token.Name
letter_is_name first rest digit letter statement name =
    ap (λ digit. if digit then token.Number else if is_letter first then token_or (statement_of (first ∷ rest)) (name_of (first ∷ rest)) else other first rest) digit
    ∙ ap (λ letter. if letter then token_or (statement_of (first ∷ rest)) (name_of (first ∷ rest)) else other first rest) letter
    ∙ ap (λ found. token_or found (name_of (first ∷ rest))) statement
    ∙ name

-- an identifier is a name
pub token_of-identifier : (word : List ℕ) → IsIdentifier word → token_of word ≡ token.Name
token_of-identifier [] identifier = absurd identifier.chars
token_of-identifier (first ∷ rest) identifier =
    letter_is_name first rest (letter_no_digit first identifier.chars.0) (letter_passes first identifier.chars.0)
    (statement_of-identifier (first ∷ rest) identifier) (name_of-identifier (first ∷ rest) identifier)

-- an identifier isn't `super`
pub no_super : (word : List ℕ) → IsIdentifier word → is_word word (codes "super") ≡ false
no_super word identifier = no_keyword word (codes "super") identifier (48, omega arith, refl)

-- the name of a helper is a name
pub token_of-helper : (name : List ℕ) → IsHelperName name → token_of name ≡ token.Name
token_of-helper name (digits, numeral, is) = ap token_of is
