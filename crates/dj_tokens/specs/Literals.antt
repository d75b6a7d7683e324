-- Literals and variables read from their words (JLS 3.10). Reading is liberal: what no literal has is read somehow.
use Rattle.std.specs.Prelude.{ℕ, zero, suc, ℤ, pos, negsuc, ◌-◌, ◌*◌, ◌+◌, ◌%◌, Bool, true, false, ◌&&◌, ◌||◌, nat_eq, nat_le, nat_lt, if◌then◌else◌, List, [], ◌∷◌, ◌++◌}
use Rattle.dj_syntax.specs.declared.variable.VarKind.{VarKind}
use Rattle.dj_syntax.specs.declared.variable.VarKind.TheVariants as kind
use Rattle.dj_syntax.specs.declared.variable.Var.{Var}
use Rattle.dj_syntax.specs.Trees.{Exp, Int, Long}
use Rattle.dj_tokens.specs.declared.literals.Spot.{Spot}
use Rattle.dj_tokens.specs.declared.literals.Spot.TheVariants.{Plain, Escape, Hex}
use Rattle.dj_tokens.specs.Words.{is_digit}

-- ---- numbers

-- a number with a digit more, where the number before is at most a tenth of the greatest long; else the digit is passed
-- over, as another character is
abbrev pub digit_more : ℕ → ℕ → ℕ
digit_more before digit = if is_digit digit && nat_le before 922337203685477580 then before * 10 + (digit - 48) else before

-- the number that digits spell behind those that spell `before`
abbrev pub number_behind : ℕ → List ℕ → ℕ
number_behind before [] = before
number_behind before (digit ∷ rest) = number_behind (digit_more before digit) rest

-- the number that digits spell
abbrev pub number_of : List ℕ → ℕ
number_of = number_behind 0

-- an int literal without a sign; what is too large for one is the least int
abbrev pub int_of : ℕ → ℤ
int_of number = if nat_lt number 2147483648 then pos number else negsuc 2147483647

-- a long literal without a sign; what is too large for one is the least long
abbrev pub long_of : ℕ → ℤ
long_of number = if nat_lt number 9223372036854775808 then pos number else negsuc 9223372036854775807

-- a literal's value behind a minus sign
abbrev pub negated : ℤ → ℤ
negated (pos zero) = pos zero
negated (pos (suc n)) = negsuc n
negated (negsuc n) = negsuc n

-- whether `L` marks a long literal
abbrev pub is_long : List ℕ → Bool
is_long [] = false
is_long (character ∷ rest) = if nat_eq character 76 then true else is_long rest

-- an int or a long literal
abbrev pub literal_of : List ℕ → Exp
literal_of word = if is_long word then Long (long_of (number_of word)) else Int (int_of (number_of word))

-- ---- variables

-- the kind of variable that a letter tells
abbrev pub kind_of : ℕ → VarKind
kind_of letter =
    if nat_eq letter 112 then kind.Param else (if nat_eq letter 118 then kind.Local else (if nat_eq letter 101 then kind.Caught else kind.State))

-- the number behind the letter of a variable or of a label, its last 32 bits
abbrev pub number_behind_letter : List ℕ → ℕ
number_behind_letter [] = 0
number_behind_letter (letter ∷ digits) = number_of digits % 4294967296

-- the kind of variable that a word's letter tells
abbrev pub kind_of_word : List ℕ → VarKind
kind_of_word [] = kind.State
kind_of_word (letter ∷ digits) = kind_of letter

-- a variable
abbrev pub variable_of : List ℕ → Var
variable_of word = record { kind = kind_of_word word; number = number_behind_letter word }

-- whether each character is a digit
abbrev pub are_digits : List ℕ → Bool
are_digits [] = true
are_digits (digit ∷ rest) = if is_digit digit then are_digits rest else false

-- the letter of a variable
abbrev pub is_variable_letter : ℕ → Bool
is_variable_letter letter = nat_eq letter 112 || nat_eq letter 118 || nat_eq letter 101 || nat_eq letter 115

-- whether a word is spelled like a variable
abbrev pub is_variable_word : List ℕ → Bool
is_variable_word [] = false
is_variable_word (letter ∷ []) = false
is_variable_word (letter ∷ digit ∷ rest) = is_variable_letter letter && are_digits (digit ∷ rest)

-- ---- string literals

-- how far a string literal is read: its units, and whether an escape is begun
pub record Quotation : Type 0 where
  pub units : List ℕ
  pub spot : Spot

-- the unit of an escape of one letter (JLS 3.10.6)
abbrev pub escaped_unit : ℕ → ℕ
escaped_unit letter =
    if nat_eq letter 98 then 8
    else if nat_eq letter 116 then 9
    else if nat_eq letter 110 then 10
    else if nat_eq letter 102 then 12
    else if nat_eq letter 114 then 13
    else letter

-- the value of a hexadecimal digit
abbrev pub hex_value : ℕ → ℕ
hex_value digit = if nat_lt digit 97 then digit - 48 else digit - 87

-- a unit more is read
abbrev pub with_unit : List ℕ → ℕ → Quotation
with_unit units unit = record { units = units ++ unit ∷ []; spot = Plain }

-- a hexadecimal digit more, of which so many are wanted
abbrev pub read_hex : List ℕ → ℕ → ℕ → ℕ → Quotation
read_hex units wanted before character =
    let value = (before * 16 + hex_value character) % 65536 in
    if nat_le wanted 1 then with_unit units value else record { units = units; spot = Hex (wanted - 1) value }

-- a character more of a string literal; its quotes are passed over
abbrev pub read_character : List ℕ → Spot → ℕ → Quotation
read_character units Plain character =
    if nat_eq character 92 then record { units = units; spot = Escape }
    else (if nat_eq character 34 then record { units = units; spot = Plain } else with_unit units character)
read_character units Escape character =
    if nat_eq character 117 then record { units = units; spot = Hex 4 0 } else with_unit units (escaped_unit character)
read_character units (Hex wanted before) character = read_hex units wanted before character

-- the rest of a string literal is read
abbrev pub read_quotation : Quotation → List ℕ → Quotation
read_quotation quotation [] = quotation
read_quotation quotation (character ∷ rest) = read_quotation (read_character quotation.units quotation.spot character) rest

-- the units of a string literal
abbrev pub unquoted : List ℕ → List ℕ
unquoted word = (read_quotation (record { units = []; spot = Plain }) word).units
