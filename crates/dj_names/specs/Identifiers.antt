-- Identifiers of Java in ASCII (JLS 3.8, 3.9, 3.10.3, 3.10.7).
use Rattle.std.specs.Prelude.{◌≡◌, ◌≤◌, ℕ, ◌⊎◌, Bool, false, List, [], ◌∷◌, ◌++◌, All, Contains, filter, codes, nat_eq}

-- `A` to `Z`, `a` to `z`, `_` and `$`
abbrev pub IsLetter : ℕ → Type 0
IsLetter unit = ((65 ≤ unit) × (unit ≤ 90)) ⊎ ((97 ≤ unit) × (unit ≤ 122)) ⊎ (unit ≡ 95) ⊎ (unit ≡ 36)

-- `0` to `9`
abbrev pub IsDigit : ℕ → Type 0
IsDigit unit = (48 ≤ unit) × (unit ≤ 57)

-- a letter, and then letters and digits
abbrev pub IsIdentifierChars : List ℕ → Type 0
IsIdentifierChars [] = ⊥
IsIdentifierChars (first ∷ rest) = IsLetter first × All (λ unit. IsLetter unit ⊎ IsDigit unit) rest

-- the fifty keywords of Java SE 8, in the order of JLS 3.9
abbrev pub keywords : List (List ℕ)
keywords =
    codes "abstract" ∷ codes "continue" ∷ codes "for" ∷ codes "new" ∷ codes "switch" ∷
    codes "assert" ∷ codes "default" ∷ codes "if" ∷ codes "package" ∷ codes "synchronized" ∷
    codes "boolean" ∷ codes "do" ∷ codes "goto" ∷ codes "private" ∷ codes "this" ∷
    codes "break" ∷ codes "double" ∷ codes "implements" ∷ codes "protected" ∷ codes "throw" ∷
    codes "byte" ∷ codes "else" ∷ codes "import" ∷ codes "public" ∷ codes "throws" ∷
    codes "case" ∷ codes "enum" ∷ codes "instanceof" ∷ codes "return" ∷ codes "transient" ∷
    codes "catch" ∷ codes "extends" ∷ codes "int" ∷ codes "short" ∷ codes "try" ∷
    codes "char" ∷ codes "final" ∷ codes "interface" ∷ codes "static" ∷ codes "void" ∷
    codes "class" ∷ codes "finally" ∷ codes "long" ∷ codes "strictfp" ∷ codes "volatile" ∷
    codes "const" ∷ codes "float" ∷ codes "native" ∷ codes "super" ∷ codes "while" ∷
    []

-- the literals that are spelled as identifiers are
abbrev pub word_literals : List (List ℕ)
word_literals = codes "true" ∷ codes "false" ∷ codes "null" ∷ []

-- the word's first letter is this
abbrev pub begins_with : ℕ → List ℕ → Bool
begins_with letter [] = false
begins_with letter (first ∷ _) = nat_eq letter first

-- the keywords and then the literals that begin with the letter
unfoldable pub reserved_by_first : ℕ → List (List ℕ)
reserved_by_first letter = filter (begins_with letter) (keywords ++ word_literals)

-- what JLS 3.8 calls an identifier, of ASCII units
pub record IsIdentifier (units : List ℕ) : Type 0 where
  pub chars : IsIdentifierChars units
  pub no_keyword : ¬ Contains keywords units
  pub no_literal : ¬ Contains word_literals units
