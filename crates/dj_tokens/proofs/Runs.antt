-- Which words are runs of letters: identifiers, numbers, variables; and how they differ from other words (JLS 3.8, 3.10.1).
use Rattle.std.proofs.Common.{◌≡◌, ℕ, zero, suc, ◌/◌, ◌%◌, ◌<◌, ◌⊎◌, Bool, true, false, List, [], ◌∷◌, ◌++◌, refl, sym, ap, ◌∙◌, inl, inr, arith}
use Rattle.std.specs.Prelude.{if◌then◌else◌, ◌==◌}
use Rattle.std.specs.Cmp.Lexicographic.{same_text}
use Rattle.std.specs.Fmt.{decimal, digits, digits_onto, digit_glyph}
use Rattle.std.proofs.lemmas.Bool.{true≢false, cases_Bool}
use Rattle.std.proofs.lemmas.Bool.Decides.{nat_tests}
use Rattle.std.proofs.lemmas.List.Elements.{recursion_from_All, All-weaker}
use Rattle.dj_names.specs.Identifiers.{IsLetter, IsDigit, IsIdentifier}
use Rattle.dj_syntax.specs.declared.variable.VarKind.{VarKind}
use Rattle.dj_syntax.specs.declared.variable.VarKind.TheVariants as kind
use Rattle.dj_syntax.specs.declared.variable.Var.{Var}
use Rattle.dj_syntax.specs.UnitText.{letter, variable_name, label_name}
use Rattle.dj_tokens.specs.Words.{is_digit, is_letter, is_operator, begins, is_word}
use Rattle.dj_tokens.proofs.WordsLemmas.{IsRun, AllPassed}

-- ---- tests

-- a letter passes
pub letter_passes : (character : ℕ) → IsLetter character → is_letter character ≡ true
letter_passes character is = grind (arith, nat_tests)

-- a letter of an identifier is no digit
pub letter_no_digit : (character : ℕ) → IsLetter character → is_digit character ≡ false
letter_no_digit character is = grind (arith, nat_tests)

-- a digit passes
pub digit_passes : (character : ℕ) → IsDigit character → is_letter character ≡ true
digit_passes character is = grind (arith, nat_tests)

either_passes : (character : ℕ) → IsLetter character ⊎ IsDigit character → is_letter character ≡ true
either_passes character (inl is) = letter_passes character is
either_passes character (inr is) = digit_passes character is

digit_is_letter : (character : ℕ) → is_digit character ≡ true → is_letter character ≡ true
digit_is_letter character is = grind (arith, nat_tests)

digits_are_letters : (word : List ℕ) → AllPassed is_digit word → AllPassed is_letter word
digits_are_letters [] all = tt
digits_are_letters (first ∷ rest) (is, others) = (digit_is_letter first is, digits_are_letters rest others)

-- ---- identifiers

-- an identifier is a run of letters
pub identifier_run : (word : List ℕ) → IsIdentifier word → IsRun is_letter word
identifier_run [] identifier = absurd identifier.chars
identifier_run (first ∷ rest) identifier =
    let letters = recursion_from_All (λ character. is_letter character ≡ true) rest (All-weaker (λ unit. IsLetter unit ⊎ IsDigit unit) (λ character. is_letter character ≡ true) either_passes rest identifier.chars.1) in
    (letter_passes first identifier.chars.0, letters)

-- ---- numbers

digit_glyph_passes : (n : ℕ) → is_digit (digit_glyph false (n % 10)) ≡ true
digit_glyph_passes n = let small : n % 10 < 10 = omega arith in grind (arith, nat_tests)

digits_more : (last : Bool) (k n : ℕ) (after : List ℕ) → AllPassed is_digit after → (AllPassed is_digit (digit_glyph false (n % 10) ∷ after) → IsRun is_digit (digits_onto k 10 false (n / 10) (digit_glyph false (n % 10) ∷ after))) → IsRun is_digit (if last then digit_glyph false (n % 10) ∷ after else digits_onto k 10 false (n / 10) (digit_glyph false (n % 10) ∷ after))
digits_more true k n after all more = (digit_glyph_passes n, all)
digits_more false k n after all more = more (digit_glyph_passes n, all)

digits_run : (k n : ℕ) (after : List ℕ) → AllPassed is_digit after → IsRun is_digit (digits_onto (suc k) 10 false n after)
digits_run zero n after all = digits_more (n / 10 == 0) zero n after all (λ all_passed. all_passed)
digits_run (suc k) n after all = digits_more (n / 10 == 0) (suc k) n after all (digits_run k (n / 10) (digit_glyph false (n % 10) ∷ after))

-- a number is spelled as a run of digits
pub decimal_digits : (n : ℕ) → IsRun is_digit (decimal n)
unfolding digits
decimal_digits n = digits_run 63 n [] tt

run_of_digits : (word : List ℕ) → IsRun is_digit word → IsRun is_letter word
run_of_digits [] run = run
run_of_digits (first ∷ rest) (is, others) = (digit_is_letter first is, digits_are_letters rest others)

-- a number is spelled as a run of letters
pub decimal_run : (n : ℕ) → IsRun is_letter (decimal n)
decimal_run n = run_of_digits (decimal n) (decimal_digits n)

-- a letter in front of a run of letters
pub letter_before : (character : ℕ) (word : List ℕ) → is_letter character ≡ true → IsRun is_letter word → IsRun is_letter (character ∷ word)
letter_before character [] is run = (is, tt)
letter_before character (first ∷ rest) is run = (is, run)

letter_kind : (kind : VarKind) → is_letter (letter kind) ≡ true
letter_kind kind.Param = refl
letter_kind kind.Local = refl
letter_kind kind.Caught = refl
letter_kind kind.State = refl

-- a variable is spelled as a run of letters
pub variable_run : (variable : Var) → IsRun is_letter (variable_name variable)
variable_run variable = letter_before (letter variable.kind) (decimal variable.number) (letter_kind variable.kind) (decimal_run variable.number)

-- a label is spelled as a run of letters
pub label_run : (label : ℕ) → IsRun is_letter (label_name label)
label_run label = letter_before 108 (decimal label) refl (decimal_run label)

-- a long is spelled as a run of letters
pub long_run : (n : ℕ) → IsRun is_letter (decimal n ++ 76 ∷ [])
long_run n = run_before (decimal n) (decimal_run n)
  where
    all_before : (word : List ℕ) → AllPassed is_letter word → AllPassed is_letter (word ++ 76 ∷ [])
    all_before [] all = (refl, tt)
    all_before (first ∷ rest) (is, others) = (is, all_before rest others)

    run_before : (word : List ℕ) → IsRun is_letter word → IsRun is_letter (word ++ 76 ∷ [])
    run_before [] run = absurd run
    run_before (first ∷ rest) (is, others) = (is, all_before rest others)

-- ---- words that differ

-- a run begins with a character that passes
pub run_begins : (test : ℕ → Bool) (word : List ℕ) → IsRun test word → begins test word ≡ true
run_begins test [] run = absurd run
run_begins test (first ∷ rest) run = run.0

-- two words differ where one begins with a character that passes and one doesn't
pub other_word : (test : ℕ → Bool) (word other : List ℕ) → begins test word ≡ true → begins test other ≡ false → is_word word other ≡ false
other_word test word other is not = elim (cases_Bool (is_word word other)) [
  | inl same ↦ absurd (true≢false (sym is ∙ ap (begins test) (same_text word other (sym same)) ∙ not))
  | inr differs ↦ differs
]

-- a run of letters is no word that begins with another character
pub run_differs : (word other : List ℕ) → IsRun is_letter word → begins is_letter other ≡ false → is_word word other ≡ false
run_differs word other run not = other_word is_letter word other (run_begins is_letter word run) not

letter_no_operator : (character : ℕ) → is_letter character ≡ true → is_operator character ≡ false
letter_no_operator character is = grind (arith, nat_tests)

-- a run of letters doesn't begin with an operator character
pub run_no_operator : (word text : List ℕ) → IsRun is_letter word → begins is_operator (word ++ text) ≡ false
run_no_operator [] text run = absurd run
run_no_operator (first ∷ rest) text run = letter_no_operator first run.0
