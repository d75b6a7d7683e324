-- A string literal is one word, and its units are read from it (JLS 3.10.5, 3.10.6).
use Rattle.std.proofs.Common.{◌≡◌, ℕ, ◌+◌, ◌-◌, ◌*◌, ◌/◌, ◌%◌, ◌<◌, ◌^◌, ◌⊎◌, Bool, true, false, List, [], ◌∷◌, ◌++◌, refl, sym, ap, ◌∙◌, inl, inr, arith, append_assoc, append-nil, eqb-true}
use Rattle.std.specs.Prelude.{codes, ◌==◌, nat_eq, nat_le, nat_lt, if◌then◌else◌}
use Rattle.std.specs.List.{AllByRecursion, flat_map}
use Rattle.std.proofs.Math.Nat.{mod-eq_of_lt}
use Rattle.std.proofs.lemmas.Bool.Decides.{nat_tests}
use Rattle.dj_names.specs.ClassNames.{in_front}
use Rattle.dj_names.specs.Shown.{hex_digit, escape_unit}
use Rattle.dj_syntax.specs.Items.{quoted_unit, is_printable, token_text, Quoted}
use Rattle.dj_tokens.specs.declared.literals.Spot.TheVariants.{Plain, Escape, Hex}
use Rattle.dj_tokens.specs.Words.{Words, words, literal_words, found_in, is_quote}
use Rattle.dj_tokens.specs.Literals.{Quotation, escaped_unit, hex_value, read_hex, read_character, read_quotation, with_unit, unquoted}

-- ---- how a unit is spelled

-- a backslash and a letter, itself, or a backslash and its number
record IsSpelled (unit : ℕ) (spelled : List ℕ) : Type 0 where
  is : ((letter : ℕ) × (spelled ≡ 92 ∷ letter ∷ []) × (escaped_unit letter ≡ unit) × (nat_eq letter 117 ≡ false))
      ⊎ ((spelled ≡ unit ∷ []) × (is_quote unit ≡ false) × (nat_eq unit 92 ≡ false))
      ⊎ (spelled ≡ escape_unit unit)

by_test : (unit : ℕ) (test : Bool) (first second : List ℕ) → (test ≡ true → IsSpelled unit first) → (test ≡ false → IsSpelled unit second) → IsSpelled unit (if test then first else second)
by_test unit true first second passes fails = passes refl
by_test unit false first second passes fails = fails refl

by_letter : (unit value letter : ℕ) → (unit == value) ≡ true → escaped_unit letter ≡ value → nat_eq letter 117 ≡ false → IsSpelled unit (92 ∷ letter ∷ [])
by_letter unit value letter same is other = record { is = inl (letter, refl, is ∙ sym (eqb-true unit value same), other) }

quoted_cases : (unit : ℕ) → IsSpelled unit (quoted_unit unit)
quoted_cases unit =
    by_test unit (unit == 8) _ _ (λ e. by_letter unit 8 98 e refl refl)
    (λ _. by_test unit (unit == 9) _ _ (λ e. by_letter unit 9 116 e refl refl)
    (λ _. by_test unit (unit == 10) _ _ (λ e. by_letter unit 10 110 e refl refl)
    (λ _. by_test unit (unit == 12) _ _ (λ e. by_letter unit 12 102 e refl refl)
    (λ _. by_test unit (unit == 13) _ _ (λ e. by_letter unit 13 114 e refl refl)
    (λ _. by_test unit (unit == 34) _ _ (λ e. by_letter unit 34 34 e refl refl)
    (λ quote. by_test unit (unit == 92) _ _ (λ e. by_letter unit 92 92 e refl refl)
    (λ backslash. by_test unit (is_printable unit) _ _ (λ e. record { is = inr (inl (refl, quote, backslash)) })
    (λ _. record { is = inr (inr refl) }))))))))

-- ---- a literal is one word

-- characters in front of the first word
abbrev pub all_in_front : List ℕ → Words → Words
all_in_front [] found = found
all_in_front (character ∷ rest) found = in_front character (all_in_front rest found)

plain_inside : (character : ℕ) (text : List ℕ) → is_quote character ≡ false → nat_eq character 92 ≡ false → literal_words (character ∷ text) ≡ in_front character (literal_words text)
plain_inside character text quote backslash = rw (quote, backslash)

hex_digit_quote : (digit : ℕ) → digit < 16 → is_quote (hex_digit digit) ≡ false
hex_digit_quote digit small = go (nat_lt digit 10) refl
  where
    go : (is : Bool) → nat_lt digit 10 ≡ is → is_quote (if nat_lt digit 10 then 48 + digit else 87 + digit) ≡ false
    go true e = rw e (grind (arith, nat_tests))
    go false e = rw e (grind (arith, nat_tests))

hex_digit_backslash : (digit : ℕ) → digit < 16 → nat_eq (hex_digit digit) 92 ≡ false
hex_digit_backslash digit small = go (nat_lt digit 10) refl
  where
    go : (is : Bool) → nat_lt digit 10 ≡ is → nat_eq (if nat_lt digit 10 then 48 + digit else 87 + digit) 92 ≡ false
    go true e = rw e (grind (arith, nat_tests))
    go false e = rw e (grind (arith, nat_tests))

hex_inside : (digit : ℕ) (text : List ℕ) → digit < 16 → literal_words (hex_digit digit ∷ text) ≡ in_front (hex_digit digit) (literal_words text)
hex_inside digit text small = plain_inside (hex_digit digit) text (hex_digit_quote digit small) (hex_digit_backslash digit small)

escape_inside : (unit : ℕ) (text : List ℕ) → unit < 65536 → literal_words (escape_unit unit ++ text) ≡ all_in_front (escape_unit unit) (literal_words text)
escape_inside unit text fits =
    let a = unit / 4096 in
    let b = unit / 256 % 16 in
    let c = unit / 16 % 16 in
    let d = unit % 16 in
    ap (λ found. in_front 92 (in_front 117 found))
    (hex_inside a (hex_digit b ∷ hex_digit c ∷ hex_digit d ∷ text) (omega arith)
    ∙ ap (in_front (hex_digit a)) (hex_inside b (hex_digit c ∷ hex_digit d ∷ text) (omega arith)
    ∙ ap (in_front (hex_digit b)) (hex_inside c (hex_digit d ∷ text) (omega arith)
    ∙ ap (in_front (hex_digit c)) (hex_inside d text (omega arith)))))

spelled_inside : (unit : ℕ) (spelled text : List ℕ) → unit < 65536
    → ((letter : ℕ) × (spelled ≡ 92 ∷ letter ∷ []) × (escaped_unit letter ≡ unit) × (nat_eq letter 117 ≡ false)) ⊎ ((spelled ≡ unit ∷ []) × (is_quote unit ≡ false) × (nat_eq unit 92 ≡ false)) ⊎ (spelled ≡ escape_unit unit)
    → literal_words (spelled ++ text) ≡ all_in_front spelled (literal_words text)
spelled_inside unit spelled text fits (inl is) = rw is.1 refl
spelled_inside unit spelled text fits (inr (inl is)) = rw is.0 (plain_inside unit text is.1 is.2)
spelled_inside unit spelled text fits (inr (inr is)) = rw is (escape_inside unit text fits)

unit_inside : (unit : ℕ) (text : List ℕ) → unit < 65536 → literal_words (quoted_unit unit ++ text) ≡ all_in_front (quoted_unit unit) (literal_words text)
unit_inside unit text fits = spelled_inside unit (quoted_unit unit) text fits (quoted_cases unit).is

all_in_front-append : (front back : List ℕ) (found : Words) → all_in_front (front ++ back) found ≡ all_in_front front (all_in_front back found)
all_in_front-append [] back found = refl
all_in_front-append (character ∷ rest) back found = ap (in_front character) (all_in_front-append rest back found)

units_inside : (units text : List ℕ) → AllByRecursion (λ unit. unit < 2 ^ 16) units → literal_words (flat_map quoted_unit units ++ text) ≡ all_in_front (flat_map quoted_unit units) (literal_words text)
units_inside [] text fit = refl
units_inside (unit ∷ rest) text (here, there) =
    ap literal_words (append_assoc (quoted_unit unit) (flat_map quoted_unit rest) text)
    ∙ unit_inside unit (flat_map quoted_unit rest ++ text) here
    ∙ ap (all_in_front (quoted_unit unit)) (units_inside rest text there)
    ∙ sym (all_in_front-append (quoted_unit unit) (flat_map quoted_unit rest) (literal_words text))

all_in_front-word : (front word : List ℕ) (rest : Words) → all_in_front front (word ∷ rest) ≡ (front ++ word) ∷ rest
all_in_front-word [] word rest = refl
all_in_front-word (character ∷ front) word rest = ap (in_front character) (all_in_front-word front word rest)

-- a string literal is one word
pub quotation_is_word : (units text : List ℕ) → AllByRecursion (λ unit. unit < 2 ^ 16) units → words (token_text (Quoted units) ++ text) ≡ token_text (Quoted units) ∷ words text
quotation_is_word units text fit =
    ap (in_front 34)
    (ap literal_words (append_assoc (flat_map quoted_unit units) (34 ∷ []) text)
    ∙ units_inside units (34 ∷ text) fit
    ∙ all_in_front-word (flat_map quoted_unit units) (34 ∷ []) (words text))

-- ---- its units are read

-- how far a literal is read between two units
abbrev between : List ℕ → Quotation
between units = record { units = units; spot = Plain }

hex_value-digit : (digit : ℕ) → digit < 16 → hex_value (hex_digit digit) ≡ digit
hex_value-digit digit small = go (nat_lt digit 10) refl
  where
    go : (is : Bool) → nat_lt digit 10 ≡ is → hex_value (if nat_lt digit 10 then 48 + digit else 87 + digit) ≡ digit
    go true e = rw e (low (nat_lt (48 + digit) 97) refl)
      where
        low : (is : Bool) → nat_lt (48 + digit) 97 ≡ is → hex_value (48 + digit) ≡ digit
        low true below = rw below (omega arith)
        low false below = absurd (grind (arith, nat_tests))
    go false e = rw e (high (nat_lt (87 + digit) 97) refl)
      where
        high : (is : Bool) → nat_lt (87 + digit) 97 ≡ is → hex_value (87 + digit) ≡ digit
        high true below = absurd (grind (arith, nat_tests))
        high false below = rw below (omega arith)

hex_more : (units : List ℕ) (wanted before digit value : ℕ) (rest : List ℕ) → digit < 16 → nat_le wanted 1 ≡ false → before * 16 + digit ≡ value → value < 65536
    → read_quotation (record { units = units; spot = Hex wanted before }) (hex_digit digit ∷ rest) ≡ read_quotation (record { units = units; spot = Hex (wanted - 1) value }) rest
hex_more units wanted before digit value rest small more is fits =
    rw (hex_value-digit digit small, more, is, mod-eq_of_lt fits)

hex_last : (units : List ℕ) (before digit value : ℕ) (rest : List ℕ) → digit < 16 → before * 16 + digit ≡ value → value < 65536
    → read_quotation (record { units = units; spot = Hex 1 before }) (hex_digit digit ∷ rest) ≡ read_quotation (between (units ++ value ∷ [])) rest
hex_last units before digit value rest small is fits = rw (hex_value-digit digit small, is, mod-eq_of_lt fits)

escape_is_read : (units : List ℕ) (unit : ℕ) (rest : List ℕ) → unit < 65536 → read_quotation (between units) (escape_unit unit ++ rest) ≡ read_quotation (between (units ++ unit ∷ [])) rest
escape_is_read units unit rest fits =
    let a = unit / 4096 in
    let b = unit / 256 % 16 in
    let c = unit / 16 % 16 in
    let d = unit % 16 in
    hex_more units 4 0 a (unit / 4096) (hex_digit b ∷ hex_digit c ∷ hex_digit d ∷ rest) (omega arith) refl (omega arith) (omega arith)
    ∙ hex_more units 3 (unit / 4096) b (unit / 256) (hex_digit c ∷ hex_digit d ∷ rest) (omega arith) refl (omega arith) (omega arith)
    ∙ hex_more units 2 (unit / 256) c (unit / 16) (hex_digit d ∷ rest) (omega arith) refl (omega arith) (omega arith)
    ∙ hex_last units (unit / 16) d unit rest (omega arith) (omega arith) (omega arith)

letter_is_read : (units : List ℕ) (unit letter : ℕ) (rest : List ℕ) → escaped_unit letter ≡ unit → nat_eq letter 117 ≡ false → read_quotation (between units) (92 ∷ letter ∷ rest) ≡ read_quotation (between (units ++ unit ∷ [])) rest
letter_is_read units unit letter rest is other =
    ap (λ number. read_quotation (if number then record { units = units; spot = Hex 4 0 } else with_unit units (escaped_unit letter)) rest) other
    ∙ ap (λ unit. read_quotation (with_unit units unit) rest) is

plain_is_read : (units : List ℕ) (unit : ℕ) (rest : List ℕ) → is_quote unit ≡ false → nat_eq unit 92 ≡ false → read_quotation (between units) (unit ∷ rest) ≡ read_quotation (between (units ++ unit ∷ [])) rest
plain_is_read units unit rest quote backslash =
    ap (λ escape. read_quotation (if escape then record { units = units; spot = Escape } else (if nat_eq unit 34 then record { units = units; spot = Plain } else with_unit units unit)) rest) backslash
    ∙ ap (λ ends. read_quotation (if ends then record { units = units; spot = Plain } else with_unit units unit) rest) quote

spelled_is_read : (units : List ℕ) (unit : ℕ) (spelled rest : List ℕ) → unit < 65536
    → ((letter : ℕ) × (spelled ≡ 92 ∷ letter ∷ []) × (escaped_unit letter ≡ unit) × (nat_eq letter 117 ≡ false)) ⊎ ((spelled ≡ unit ∷ []) × (is_quote unit ≡ false) × (nat_eq unit 92 ≡ false)) ⊎ (spelled ≡ escape_unit unit)
    → read_quotation (between units) (spelled ++ rest) ≡ read_quotation (between (units ++ unit ∷ [])) rest
spelled_is_read units unit spelled rest fits (inl is) = ap (λ spelled. read_quotation (between units) (spelled ++ rest)) is.1 ∙ letter_is_read units unit is.0 rest is.2 is.3
spelled_is_read units unit spelled rest fits (inr (inl is)) = ap (λ spelled. read_quotation (between units) (spelled ++ rest)) is.0 ∙ plain_is_read units unit rest is.1 is.2
spelled_is_read units unit spelled rest fits (inr (inr is)) = ap (λ spelled. read_quotation (between units) (spelled ++ rest)) is ∙ escape_is_read units unit rest fits

unit_is_read : (units : List ℕ) (unit : ℕ) (rest : List ℕ) → unit < 65536 → read_quotation (between units) (quoted_unit unit ++ rest) ≡ read_quotation (between (units ++ unit ∷ [])) rest
unit_is_read units unit rest fits = spelled_is_read units unit (quoted_unit unit) rest fits (quoted_cases unit).is

units_are_read : (before units rest : List ℕ) → AllByRecursion (λ unit. unit < 2 ^ 16) units → read_quotation (between before) (flat_map quoted_unit units ++ rest) ≡ read_quotation (between (before ++ units)) rest
units_are_read before [] rest fit = ap (λ units. read_quotation (between units) rest) (sym (append-nil before))
units_are_read before (unit ∷ others) rest (here, there) =
    ap (read_quotation (between before)) (append_assoc (quoted_unit unit) (flat_map quoted_unit others) rest)
    ∙ unit_is_read before unit (flat_map quoted_unit others ++ rest) here
    ∙ units_are_read (before ++ unit ∷ []) others rest there
    ∙ ap (λ units. read_quotation (between units) rest) (append_assoc before (unit ∷ []) others)

-- the units of a string literal are read from it
pub unquoted-quoted : (units : List ℕ) → AllByRecursion (λ unit. unit < 2 ^ 16) units → unquoted (token_text (Quoted units)) ≡ units
unquoted-quoted units fit = ap (λ quotation. quotation.units) (units_are_read [] units (34 ∷ []) fit)
