-- Java's text as words, spaces and lines, and its layout as bytes (JLS 3.2). It knows nothing of trees.
use Rattle.std.specs.Prelude.{ℕ, ◌*◌, ◌==◌, Bool, ◌&&◌, nat_le, if◌then◌else◌, List, [], ◌∷◌, ◌++◌, replicate, codes}
use Rattle.std.specs.List.{flat_map}
use Rattle.std.specs.Fmt.{decimal}
use Rattle.dj_names.specs.Shown.{escape_unit}

-- a name or keyword, an int or a long in digits, a sign, or a string literal by its units
pub data Token : Type 0 where
  Name : List ℕ → Token
  Number : ℕ → Token
  LongNumber : ℕ → Token
  Sign : List ℕ → Token
  Quoted : List ℕ → Token

-- `Line` ends a line and indents the next one by so many levels
pub data Item : Type 0 where
  Word : Token → Item
  Space : Item
  Line : ℕ → Item

-- a unit from 32 to 126
abbrev pub is_printable : ℕ → Bool
is_printable unit = nat_le 32 unit && nat_le unit 126

-- a unit of a string literal: itself, or an escape (JLS 3.10.6, 3.3)
abbrev pub quoted_unit : ℕ → List ℕ
quoted_unit unit =
    if unit == 8 then codes "\\b"
    else if unit == 9 then codes "\\t"
    else if unit == 10 then codes "\\n"
    else if unit == 12 then codes "\\f"
    else if unit == 13 then codes "\\r"
    else if unit == 34 then codes "\\\""
    else if unit == 92 then codes "\\\\"
    else if is_printable unit then unit ∷ []
    else escape_unit unit

-- the characters of a word
abbrev pub token_text : Token → List ℕ
token_text (Name units) = units
token_text (Number n) = decimal n
token_text (LongNumber n) = decimal n ++ codes "L"
token_text (Sign characters) = characters
token_text (Quoted units) = 34 ∷ (flat_map quoted_unit units ++ 34 ∷ [])

-- four spaces a level
abbrev pub indentation : ℕ → List ℕ
indentation depth = replicate (4 * depth) 32

-- the characters of an item; a line ends with a line feed
abbrev pub item_text : Item → List ℕ
item_text (Word token) = token_text token
item_text Space = 32 ∷ []
item_text (Line depth) = 10 ∷ indentation depth

-- the characters of items, one after another
abbrev pub render : List Item → List ℕ
render items = flat_map item_text items

-- pieces one after another, this between each two of them
abbrev pub separated : List Item → List (List Item) → List Item
separated between [] = []
separated between (first ∷ rest) = first ++ flat_map (λ piece. between ++ piece) rest
