-- How a report spells units: in printable ASCII, all others by their number.
use Rattle.std.specs.Prelude.{ℕ, Bool, ◌+◌, ◌/◌, ◌%◌, List, [], ◌∷◌, flat_map, nat_le, nat_lt, nat_eq, not, ◌&&◌, if◌then◌else◌}

-- `0` to `9`, `a` to `f`
abbrev pub hex_digit : ℕ → ℕ
hex_digit digit = if nat_lt digit 10 then 48 + digit else 87 + digit

-- a unit from 33 to 126 but 92
abbrev pub is_shown_plain : ℕ → Bool
is_shown_plain unit = nat_le 33 unit && nat_le unit 126 && not (nat_eq unit 92)

-- a backslash, `u` and four hexadecimal digits
abbrev pub escape_unit : ℕ → List ℕ
escape_unit unit =
    92 ∷ 117 ∷ hex_digit (unit / 4096) ∷ hex_digit (unit / 256 % 16) ∷ hex_digit (unit / 16 % 16) ∷ hex_digit (unit % 16) ∷ []

-- a unit as itself where it may stand so, and else by its number
abbrev pub show_unit : ℕ → List ℕ
show_unit unit = if is_shown_plain unit then unit ∷ [] else escape_unit unit

-- units, one after the other
abbrev pub show_units : List ℕ → List ℕ
show_units = flat_map show_unit
