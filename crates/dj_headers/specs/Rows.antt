-- Rows of bits, 64 to a word, the lowest first.
use Rattle.std.specs.Prelude.{◌≡◌, ℕ, ◌⊎◌, ◌≤◌, ◌/◌, ◌%◌, List, [], slice_index, slice_index_or, length}
use Rattle.std.specs.Int.{bit_at}

-- the bit at a place is set; past the end none is
unfoldable pub IsSet : List ℕ → ℕ → Type 0
IsSet row at = bit_at (slice_index row (at / 64)) (at % 64) ≡ 1

-- the row at a place; past the end it is empty
abbrev pub row_at : List (List ℕ) → ℕ → List ℕ
row_at rows at = slice_index_or rows at []

-- the new rows have the bits of the old ones, and at most the bit of this row at its own place more
pub record Opens (at : ℕ) (old new : List (List ℕ)) : Type 0 where
  pub kept : (i j : ℕ) → IsSet (row_at old i) j → IsSet (row_at new i) j
  pub only : (i j : ℕ) → IsSet (row_at new i) j → IsSet (row_at old i) j ⊎ ((i ≡ at) × (j ≡ at))

-- each row that has this bit has so many words
abbrev pub HasRoom : ℕ → ℕ → List (List ℕ) → Type 0
HasRoom at words rows = (i : ℕ) → IsSet (row_at rows i) at → words ≤ length (row_at rows i)

-- the rows are ready for what is above this place: it has its own bit, and there is room
pub record IsOpened (at words : ℕ) (rows : List (List ℕ)) : Type 0 where
  pub own : IsSet (row_at rows at) at
  pub room : HasRoom at words rows
