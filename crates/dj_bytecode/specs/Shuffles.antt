-- What instructions do to the stack whatever values are there (JVMS 2.11.2, 6.5, `pop` to `swap`).
use Rattle.std.specs.Prelude.{ℕ, ◌==◌, ◌&&◌, Bool, true, false, if◌then◌else◌, List, [], ◌∷◌, ◌++◌, map, drop, length, Option, Some, None, slice_index_or}
use Rattle.dj_values.specs.Values.{Value, Int, Long, Null, Ref}

-- one form of an instruction: the words of the values that it takes, the topmost first, and the values that it puts back, by their places among these, the topmost first
pub record Form : Type 0 where
  pub takes : List ℕ
  pub gives : List ℕ

-- the words that a value takes
abbrev pub value_words : Value → ℕ
value_words (Int number) = 1
value_words (Long number) = 2
value_words Null = 1
value_words (Ref reference) = 1

-- the topmost values have these words
abbrev pub has_words : List ℕ → List Value → Bool
has_words [] stack = true
has_words (words ∷ rest) [] = false
has_words (words ∷ rest) (top ∷ below) = (value_words top == words) && has_words rest below

-- the stack by a form
abbrev pub moved : Form → List Value → List Value
moved form stack = map (λ place. slice_index_or stack place Null) form.gives ++ drop (length form.takes) stack

-- the stack by the first form that fits it
abbrev pub shuffled : List Form → List Value → Option (List Value)
shuffled [] stack = None
shuffled (form ∷ forms) stack = if has_words form.takes stack then Some (moved form stack) else shuffled forms stack

-- a form
abbrev pub takes_gives : List ℕ → List ℕ → Form
takes_gives takes gives = record { takes = takes; gives = gives }

-- `pop`: one word off
abbrev pub pop_forms : List Form
pop_forms = takes_gives (1 ∷ []) [] ∷ []

-- `pop2`: two words off, of one value or of two
abbrev pub pop2_forms : List Form
pop2_forms = takes_gives (1 ∷ 1 ∷ []) [] ∷ takes_gives (2 ∷ []) [] ∷ []

-- `dup`: the top word twice
abbrev pub dup_forms : List Form
dup_forms = takes_gives (1 ∷ []) (0 ∷ 0 ∷ []) ∷ []

-- `dup_x1`: the top word once more below the second
abbrev pub dup_x1_forms : List Form
dup_x1_forms = takes_gives (1 ∷ 1 ∷ []) (0 ∷ 1 ∷ 0 ∷ []) ∷ []

-- `dup_x2`: the top word once more below two words
abbrev pub dup_x2_forms : List Form
dup_x2_forms = takes_gives (1 ∷ 1 ∷ 1 ∷ []) (0 ∷ 1 ∷ 2 ∷ 0 ∷ []) ∷ takes_gives (1 ∷ 2 ∷ []) (0 ∷ 1 ∷ 0 ∷ []) ∷ []

-- `dup2`: the two top words twice
abbrev pub dup2_forms : List Form
dup2_forms = takes_gives (1 ∷ 1 ∷ []) (0 ∷ 1 ∷ 0 ∷ 1 ∷ []) ∷ takes_gives (2 ∷ []) (0 ∷ 0 ∷ []) ∷ []

-- `dup2_x1`: the two top words once more below a third
abbrev pub dup2_x1_forms : List Form
dup2_x1_forms = takes_gives (1 ∷ 1 ∷ 1 ∷ []) (0 ∷ 1 ∷ 2 ∷ 0 ∷ 1 ∷ []) ∷ takes_gives (2 ∷ 1 ∷ []) (0 ∷ 1 ∷ 0 ∷ []) ∷ []

-- `dup2_x2`: the two top words once more below two others
abbrev pub dup2_x2_forms : List Form
dup2_x2_forms =
    takes_gives (1 ∷ 1 ∷ 1 ∷ 1 ∷ []) (0 ∷ 1 ∷ 2 ∷ 3 ∷ 0 ∷ 1 ∷ [])
    ∷ takes_gives (2 ∷ 1 ∷ 1 ∷ []) (0 ∷ 1 ∷ 2 ∷ 0 ∷ [])
    ∷ takes_gives (1 ∷ 1 ∷ 2 ∷ []) (0 ∷ 1 ∷ 2 ∷ 0 ∷ 1 ∷ [])
    ∷ takes_gives (2 ∷ 2 ∷ []) (0 ∷ 1 ∷ 0 ∷ [])
    ∷ []

-- `swap`: the two top words the other way round
abbrev pub swap_forms : List Form
swap_forms = takes_gives (1 ∷ 1 ∷ []) (1 ∷ 0 ∷ []) ∷ []
