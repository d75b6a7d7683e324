-- Java's text as words (JLS 3.5): runs of letters and digits, runs of operator characters, string literals, and each other character by itself; blanks part them.
use Rattle.std.specs.Prelude.{ℕ, ◌+◌, Bool, false, nat_le, nat_eq, ◌&&◌, ◌||◌, if◌then◌else◌, List, [], ◌∷◌}
use lib.Pointwise.{pointwise}
use Rattle.dj_names.specs.ClassNames.{in_front}

-- words, in order
abbrev pub Words : Type 0
Words = List (List ℕ)

-- what a character is among the words
pub data Sort : Type 0 where
  Blank : Sort
  Letter : Sort
  Operator : Sort
  Quote : Sort
  Single : Sort

-- a space or a line feed
abbrev pub is_blank : ℕ → Bool
is_blank character = nat_eq character 32 || nat_eq character 10

-- `0` to `9`
abbrev pub is_digit : ℕ → Bool
is_digit character = nat_le 48 character && nat_le character 57

-- a letter or a digit of an identifier
abbrev pub is_letter : ℕ → Bool
is_letter character =
    is_digit character || (nat_le 65 character && nat_le character 90) || (nat_le 97 character && nat_le character 122)
    || nat_eq character 95 || nat_eq character 36

-- `!`, `%`, `&`, `*`, `+`, `-`, `/`, `<`, `=`, `>`, `^`, `|`
abbrev pub is_operator : ℕ → Bool
is_operator character =
    nat_eq character 33 || nat_eq character 37 || nat_eq character 38 || nat_eq character 42 || nat_eq character 43 || nat_eq character 45
    || nat_eq character 47 || (nat_le 60 character && nat_le character 62) || nat_eq character 94 || nat_eq character 124

-- `"`
abbrev pub is_quote : ℕ → Bool
is_quote character = nat_eq character 34

-- the sort of a character
abbrev pub sort_of : ℕ → Sort
sort_of character =
    if is_blank character then Blank
    else (if is_letter character then Letter
    else (if is_operator character then Operator else (if is_quote character then Quote else Single)))

-- whether the text begins with such a character
abbrev pub begins : (ℕ → Bool) → List ℕ → Bool
begins test [] = false
begins test (first ∷ rest) = test first

-- the words of a text with a character of this sort in front of it, given the text, its words, and its words
-- where it begins in a string literal
abbrev pub put_before : Sort → ℕ → List ℕ → Words → Words → Words
put_before Blank character text found literal = found
put_before Letter character text found literal = if begins is_letter text then in_front character found else (character ∷ []) ∷ found
put_before Operator character text found literal = if begins is_operator text then in_front character found else (character ∷ []) ∷ found
put_before Quote character text found literal = in_front character literal
put_before Single character text found literal = (character ∷ []) ∷ found

-- The words of a text; those where it begins in a string literal, and where it begins behind a backslash in one:
-- there the rest of the literal comes first (JLS 3.10.5).
pub record Found : Type 0 where
  pub outside : Words
  pub inside : Words
  pub escaped : Words

-- the words of a text in each of the three places
abbrev pub found_in : List ℕ → Found
found_in [] = record { outside = []; inside = [] ∷ []; escaped = [] ∷ [] }
found_in (character ∷ text) =
    let found = found_in text in
    record {
      outside = put_before (sort_of character) character text found.outside found.inside;
      inside =
          if is_quote character then (character ∷ []) ∷ found.outside
          else in_front character (if nat_eq character 92 then found.escaped else found.inside);
      escaped = in_front character found.inside;
    }

-- the words of a text
abbrev pub words : List ℕ → Words
words text = (found_in text).outside

-- the words of a text that begins in a string literal, whose rest comes first
abbrev pub literal_words : List ℕ → Words
literal_words text = (found_in text).inside

-- how many characters the rest of a string literal has with which a text begins, given whether a backslash stands before it
abbrev pub literal_length : Bool → List ℕ → ℕ
literal_length escaped [] = 0
literal_length escaped (character ∷ text) =
    if escaped then 1 + literal_length false text
    else (if is_quote character then 1 else 1 + literal_length (nat_eq character 92) text)

-- whether a word is this one
abbrev pub is_word : List ℕ → List ℕ → Bool
is_word = pointwise nat_eq

-- the first word, empty where there is none
abbrev pub first_word : Words → List ℕ
first_word [] = []
first_word (word ∷ rest) = word

-- all words but the first
abbrev pub other_words : Words → Words
other_words [] = []
other_words (word ∷ rest) = rest

-- whether this word comes first
abbrev pub comes : List ℕ → Words → Bool
comes word list = is_word (first_word list) word
