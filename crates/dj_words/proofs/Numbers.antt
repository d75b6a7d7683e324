-- A text of digits that is no number of 32 bits is no number of classes.
use Rattle.std.proofs.Common.{◌≡◌, ◌<◌, ◌^◌, ◌&&◌, ◌==◌, ℕ, Bool, true, false, not, List, [], ◌∷◌, length, Result, Err, refl, sym, arith, nat_le, rules, true≢false}
use Rattle.std.specs.List.{list_all}
use Rattle.std.specs.Char.{is_ascii_digit}
use Rattle.std.specs.Str.Parse.{ParsesUnsigned, digits_value}
use Rattle.std.proofs.lemmas.Str.Parse.{IsNumeralModel, numerals_by_value, parse_digits}
use Rattle.std.proofs.lemmas.Bool.{false_from_ne_true, leb-true}
use Rattle.clap.proofs.WalkLemmas.{both}
use Rattle.dj_words.specs.Orders.{is_number, is_plain_number}

of_second : (a b : Bool) → b ≡ false → (a && b) ≡ false
of_second true b e = e
of_second false b e = refl

own : IsNumeralModel (λ ds. list_all is_ascii_digit ds ≡ true) (digits_value 10)
own = numerals_by_value _ (search rules)

pub too_large : {E : Type 0} (text : List ℕ) (e : E) → ParsesUnsigned 32 10 text (Err e) → is_plain_number text ≡ true → is_number text ≡ false
too_large [] e parses plain = absurd (true≢false (sym plain))
too_large (x ∷ xs) e parses plain =
    let text : List ℕ = x ∷ xs in
    let digits = (both (not (x == 48)) (list_all is_ascii_digit text) plain).1 in
    let never : (0 < length text) × (digits_value 10 text < 2 ^ 32) → ⊥ = parse_digits own 32 text (Err e) parses digits in
    let some : 0 < length text = omega arith in
    let large : nat_le (digits_value 10 text) 1000 ≡ false = false_from_ne_true _ (λ le. let few = leb-true (digits_value 10 text) 1000 le in never (some, omega arith)) in
    of_second (is_plain_number text) (nat_le (digits_value 10 text) 1000) large
