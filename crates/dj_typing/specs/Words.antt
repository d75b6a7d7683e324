-- A test of identifiers of Java in ASCII (JLS 3.8, 3.9, 3.10.3, 3.10.7).
use Rattle.std.specs.Prelude.{ℕ, ◌==◌, nat_le, Bool, false, not, ◌&&◌, ◌||◌, List, [], ◌∷◌}
use Rattle.std.specs.List.{list_any, list_all}
use Rattle.dj_names.specs.Identifiers.{keywords, word_literals}
use Rattle.dj_values.specs.Deciding.{is_name}

-- one of these is the name
abbrev pub is_among : List (List ℕ) → List ℕ → Bool
is_among names name = list_any (λ one. is_name one name) names

-- `A` to `Z`, `a` to `z`, `_` and `$`
abbrev pub is_letter : ℕ → Bool
is_letter unit = (nat_le 65 unit && nat_le unit 90) || ((nat_le 97 unit && nat_le unit 122) || ((unit == 95) || (unit == 36)))

-- `0` to `9`
abbrev pub is_digit : ℕ → Bool
is_digit unit = nat_le 48 unit && nat_le unit 57

-- a letter, and then letters and digits
abbrev pub has_identifier_chars : List ℕ → Bool
has_identifier_chars [] = false
has_identifier_chars (first ∷ rest) = is_letter first && list_all (λ unit. is_letter unit || is_digit unit) rest

-- units are an identifier, and no keyword or literal
abbrev pub is_identifier : List ℕ → Bool
is_identifier units = has_identifier_chars units && (not (is_among keywords units) && not (is_among word_literals units))
