-- Items that are spelled as words, and further runs of letters: names of parameters and of the helper.
use Rattle.std.proofs.Common.{◌≡◌, ℕ, Bool, true, false, List, [], ◌∷◌, ◌++◌, refl, sym, ap, ◌∙◌, subst, append_assoc}
use Rattle.std.specs.Fmt.{decimal}
use Rattle.std.specs.List.{AllByRecursion}
use Rattle.std.proofs.lemmas.Grind.{flat_map-append}
use Rattle.dj_names.specs.Identifiers.{IsDigit}
use Rattle.dj_syntax.specs.Items.{Item, render, item_text}
use Rattle.dj_syntax.specs.UnitText.{word}
use Rattle.dj_syntax.specs.WellFormed.{IsDecimalNumeral, IsHelperName}
use Rattle.dj_tokens.specs.Words.{Words, words, begins, is_letter}
use Rattle.dj_tokens.proofs.WordsLemmas.{IsRun, AllPassed, words-name}
use Rattle.dj_tokens.proofs.Runs.{digit_passes, decimal_run, letter_before}

-- ---- items

-- items are spelled as these words, whatever follows that the last of them doesn't go on with
abbrev pub Spells : (ℕ → Bool) → List Item → Words → Type 0
Spells goes_on items list = (text : List ℕ) → begins goes_on text ≡ false → words (render items ++ text) ≡ list ++ words text

-- items, then others
pub then_text : (items more : List Item) (text : List ℕ) → render (items ++ more) ++ text ≡ render items ++ (render more ++ text)
then_text items more text = ap (λ all. all ++ text) (flat_map-append item_text items more) ∙ append_assoc (render items) (render more) text

-- items are spelled before others
pub spelled_before : (goes_on : ℕ → Bool) (items more : List Item) (list after : Words) (text : List ℕ) → Spells goes_on items list → begins goes_on (render more ++ text) ≡ false → words (render more ++ text) ≡ after → words (render (items ++ more) ++ text) ≡ list ++ after
spelled_before goes_on items more list after text spelled ends next =
    ap words (then_text items more text) ∙ spelled (render more ++ text) ends ∙ ap (λ after. list ++ after) next

-- items are spelled before others, whatever they are
pub freely_before : (items more : List Item) (list after : Words) (text : List ℕ) → ((text : List ℕ) → words (render items ++ text) ≡ list ++ words text) → words (render more ++ text) ≡ after → words (render (items ++ more) ++ text) ≡ list ++ after
freely_before items more list after text spelled next =
    ap words (then_text items more text) ∙ spelled (render more ++ text) ∙ ap (λ after. list ++ after) next

-- a run of letters is spelled before others
pub word_before : (run : List ℕ) (more : List Item) (after : Words) (text : List ℕ) → IsRun is_letter run → begins is_letter (render more ++ text) ≡ false → words (render more ++ text) ≡ after → words (render (word run ∷ more) ++ text) ≡ run ∷ after
word_before run more after text is ends next =
    ap words (append_assoc run (render more) text) ∙ words-name run (render more ++ text) is ends ∙ ap (λ after. run ∷ after) next

-- ---- runs of letters

-- a letter and a decimal are a run of letters
pub numbered_run : (letter n : ℕ) → is_letter letter ≡ true → IsRun is_letter (letter ∷ decimal n)
numbered_run letter n is = letter_before letter (decimal n) is (decimal_run n)

numeral_letters : (digits : List ℕ) → AllByRecursion IsDigit digits → AllPassed is_letter digits
numeral_letters [] are = tt
numeral_letters (digit ∷ rest) (here, there) = (digit_passes digit here, numeral_letters rest there)

helper_letters : (digits : List ℕ) → IsDecimalNumeral digits → AllPassed is_letter digits
helper_letters [] numeral = absurd numeral
helper_letters (digit ∷ []) numeral = (digit_passes digit numeral, tt)
helper_letters (first ∷ next ∷ rest) numeral = numeral_letters (first ∷ next ∷ rest) numeral.1

-- the name of a helper is a run of letters
pub helper_run : (name : List ℕ) → IsHelperName name → IsRun is_letter name
helper_run name (digits, numeral, is) =
    subst (IsRun is_letter) (sym is) (refl, (refl, (refl, (refl, (refl, (refl, (refl, (refl, helper_letters digits numeral))))))))
