-- Words that the command always takes: each option and flag at most once, each option followed by its value, the
-- options and flags before or after all CLASS words, and no CLASS word or value empty or beginning with `-`.
use Rattle.std.specs.Prelude.{◌≡◌, ◌≢◌, ◌==◌, ◌&&◌, ◌++◌, ℕ, Bool, true, false, not, List, [], ◌∷◌, codes, flat_map, Result, Ok, Err, ⊤}
use Rattle.std.specs.List.{list_all, list_any}
use Rattle.dj_words.specs.declared.order.UsageKind.TheVariants as kind
use Rattle.dj_words.specs.declared.order.Order.{Order}
use Rattle.dj_words.specs.declared.order.WordsFault.{WordsFault}
use Rattle.dj_words.specs.declared.order.WordsFault.TheVariants as fault

-- a word is neither empty nor begins with `-`
abbrev pub is_plain : List ℕ → Bool
is_plain [] = false
is_plain (first ∷ rest) = not (first == 45)

-- an option with its value, or the flag
pub data Choice : Type 0 where
  World : List ℕ → Choice
  Make : List ℕ → Choice
  Raw : Choice

-- the words of a choice
abbrev pub choice_words : Choice → List (List ℕ)
choice_words (World value) = codes "--world" ∷ value ∷ []
choice_words (Make value) = codes "--make" ∷ value ∷ []
choice_words Raw = codes "--raw" ∷ []

-- the value of a choice, if it has one, is plain
abbrev pub has_plain_value : Choice → Bool
has_plain_value (World value) = is_plain value
has_plain_value (Make value) = is_plain value
has_plain_value Raw = true

-- which choice it is
abbrev pub is_world : Choice → Bool
is_world (World value) = true
is_world (Make value) = false
is_world Raw = false

-- the choice is to make class files
abbrev pub is_make : Choice → Bool
is_make (World value) = false
is_make (Make value) = true
is_make Raw = false

-- the choice is that bodies stay as they are rebuilt
abbrev pub is_raw : Choice → Bool
is_raw (World value) = false
is_raw (Make value) = false
is_raw Raw = true

-- one of the choices at most is such a one
abbrev pub is_once : (Choice → Bool) → List Choice → Bool
is_once is [] = true
is_once is (choice ∷ rest) = not (is choice && list_any is rest) && is_once is rest

-- choices before the CLASS words, these, and choices behind them
pub record Line : Type 0 where
  pub before : List Choice
  pub classes : List (List ℕ)
  pub behind : List Choice

-- all the words of a line
abbrev pub line_words : Line → List (List ℕ)
line_words line = flat_map choice_words line.before ++ (line.classes ++ flat_map choice_words line.behind)

-- a line as the command always takes it
pub record IsGrammatical (line : Line) : Type 0 where
  pub world : is_once is_world (line.before ++ line.behind) ≡ true
  pub make : is_once is_make (line.before ++ line.behind) ≡ true
  pub raw : is_once is_raw (line.before ++ line.behind) ≡ true
  pub values : list_all has_plain_value (line.before ++ line.behind) ≡ true
  pub classes : list_all is_plain line.classes ≡ true

-- the command took the words: whatever else is wrong, it isn't that
abbrev pub TookWords : Result Order WordsFault → Type 0
TookWords (Ok order) = ⊤
TookWords (Err (fault.Usage found)) = found ≢ kind.Words
TookWords (Err (fault.Memory error)) = ⊤
