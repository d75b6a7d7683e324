-- How a text falls into words: a run of letters or operators is one word, a blank none, each other character one (JLS 3.5).
use Rattle.std.proofs.Common.{◌≡◌, ◌≢◌, ℕ, zero, suc, ◌+◌, ◌-◌, ◌<◌, ◌≤◌, Bool, true, false, cond, List, [], ◌∷◌, ◌++◌, length, get_or, take, drop, refl, sym, ap, ◌∙◌, arith, one-add, add-one}
use Rattle.std.specs.Prelude.{if◌then◌else◌, nat_eq}
use Rattle.std.specs.List.{AllByRecursion, take_while, prefix_len}
use Rattle.std.proofs.lemmas.Bool.{false≢true}
use Rattle.std.proofs.lemmas.Bool.Decides.{nat_tests}
use Rattle.std.proofs.lemmas.List.{drop_more, take-append-drop, take_all}
use Rattle.std.proofs.lemmas.List.Folds.{length-prefix_len}
use Rattle.dj_names.specs.ClassNames.{in_front}
use Rattle.dj_tokens.specs.Words.{Words, Sort, Blank, Letter, Operator, Quote, Single, is_blank, is_letter, is_operator, is_quote, sort_of, begins, put_before, words, literal_words, literal_length, found_in, first_word, other_words}

-- ---- one character

sort-blank : (character : ℕ) → is_blank character ≡ true → sort_of character ≡ Blank
sort-blank character is = rw is

-- a blank is no word
pub words-blank : (character : ℕ) (text : List ℕ) → is_blank character ≡ true → words (character ∷ text) ≡ words text
words-blank character text is = ap (λ sort. put_before sort character text (words text) (literal_words text)) (sort-blank character is)

sort-letter : (character : ℕ) → is_letter character ≡ true → sort_of character ≡ Letter
sort-letter character is =
    let blank : is_blank character ≡ false = grind (arith, nat_tests) in
    rw (blank, is)

sort-operator : (character : ℕ) → is_operator character ≡ true → sort_of character ≡ Operator
sort-operator character is =
    let blank : is_blank character ≡ false = grind (arith, nat_tests) in
    let letter : is_letter character ≡ false = grind (arith, nat_tests) in
    rw (blank, letter, is)

-- ---- runs

-- one character or more, each of which passes
abbrev pub IsRun : (ℕ → Bool) → List ℕ → Type 0
IsRun test [] = ⊥
IsRun test (first ∷ rest) = (test first ≡ true) × AllByRecursion (λ character. test character ≡ true) rest

-- a character that passes is one word with the characters behind it that pass
abbrev Joins : (ℕ → Bool) → Type 0
Joins test = (character : ℕ) (text : List ℕ) → test character ≡ true → words (character ∷ text) ≡ (if begins test text then in_front character (words text) else (character ∷ []) ∷ words text)

letters_join : Joins is_letter
letters_join character text is = ap (λ sort. put_before sort character text (words text) (literal_words text)) (sort-letter character is)

operators_join : Joins is_operator
operators_join character text is = ap (λ sort. put_before sort character text (words text) (literal_words text)) (sort-operator character is)

run_from : (test : ℕ → Bool) → Joins test → (first : ℕ) (rest text : List ℕ) → test first ≡ true → AllByRecursion (λ character. test character ≡ true) rest → begins test text ≡ false → words (first ∷ (rest ++ text)) ≡ (first ∷ rest) ∷ words text
run_from test joins first [] text is others ends =
    joins first text is ∙ ap (λ more. if more then in_front first (words text) else (first ∷ []) ∷ words text) ends
run_from test joins first (next ∷ rest) text is (here, there) ends =
    joins first (next ∷ (rest ++ text)) is
    ∙ ap (λ more. if more then in_front first (words (next ∷ (rest ++ text))) else (first ∷ []) ∷ words (next ∷ (rest ++ text))) here
    ∙ ap (in_front first) (run_from test joins next rest text here there ends)

run_word : (test : ℕ → Bool) → Joins test → (word text : List ℕ) → IsRun test word → begins test text ≡ false → words (word ++ text) ≡ word ∷ words text
run_word test joins [] text run ends = absurd run
run_word test joins (first ∷ rest) text (is, others) ends = run_from test joins first rest text is others ends

-- a run of letters is a word, where no letter follows
pub words-name : (word text : List ℕ) → IsRun is_letter word → begins is_letter text ≡ false → words (word ++ text) ≡ word ∷ words text
words-name = run_word is_letter letters_join

-- a run of operator characters is a word, where no such character follows
pub words-operator : (word text : List ℕ) → IsRun is_operator word → begins is_operator text ≡ false → words (word ++ text) ≡ word ∷ words text
words-operator = run_word is_operator operators_join

-- ---- the front of a text

-- each of the characters passes
abbrev pub AllPassed : (ℕ → Bool) → List ℕ → Type 0
AllPassed test = AllByRecursion (λ character. test character ≡ true)

passes_more : (test : ℕ → Bool) (first : ℕ) (rest : List ℕ) (passes : Bool) → test first ≡ passes → AllPassed test (take (prefix_len test rest) rest) → AllPassed test (take (cond passes (1 + prefix_len test rest) 0) (first ∷ rest))
passes_more test first rest true is others = rw (one-add (prefix_len test rest)) (is, others)
passes_more test first rest false is others = tt

front_passes : (test : ℕ → Bool) (text : List ℕ) → AllPassed test (take (prefix_len test text) text)
front_passes test [] = tt
front_passes test (first ∷ rest) = passes_more test first rest (test first) refl (front_passes test rest)

front_run : (test : ℕ → Bool) (text : List ℕ) → begins test text ≡ true → IsRun test (take (prefix_len test text) text)
front_run test [] is = absurd (false≢true is)
front_run test (first ∷ rest) is = rw (is, one-add (prefix_len test rest)) (is, front_passes test rest)

ends_more : (test : ℕ → Bool) (first : ℕ) (rest : List ℕ) (passes : Bool) → test first ≡ passes → begins test (drop (prefix_len test rest) rest) ≡ false → begins test (drop (cond passes (1 + prefix_len test rest) 0) (first ∷ rest)) ≡ false
ends_more test first rest true is ends = rw (one-add (prefix_len test rest)) ends
ends_more test first rest false is ends = is

-- what stands behind them doesn't begin with one that passes
front_ends : (test : ℕ → Bool) (text : List ℕ) → begins test (drop (prefix_len test text) text) ≡ false
front_ends test [] = refl
front_ends test (first ∷ rest) = ends_more test first rest (test first) refl (front_ends test rest)

-- a text begins with its first character
pub begins_first : (test : ℕ → Bool) (text : List ℕ) → 1 ≤ length text → test (get_or text 0 0) ≡ true → begins test text ≡ true
begins_first test [] some is = absurd (omega arith)
begins_first test (first ∷ rest) some is = is

-- the first word of a text ends here
abbrev EndsFirst : List ℕ → ℕ → Type 0
EndsFirst text end = (take end text ≡ first_word (words text)) × (words (drop end text) ≡ other_words (words text))

front_word : (test : ℕ → Bool) → Joins test → (text : List ℕ) (end : ℕ) → begins test text ≡ true → end ≡ length (take_while test text) → EndsFirst text end
front_word test joins text end is at =
    let e : end ≡ prefix_len test text = at ∙ length-prefix_len test text in
    let run : IsRun test (take end text) = rw e (front_run test text is) in
    let ends : begins test (drop end text) ≡ false = rw e (front_ends test text) in
    let are : words text ≡ take end text ∷ words (drop end text) = ap words (sym (take-append-drop end text)) ∙ run_word test joins (take end text) (drop end text) run ends in
    (sym (ap first_word are), sym (ap other_words are))

-- the letters from the front on are the first word
pub front_name : (text : List ℕ) (end : ℕ) → begins is_letter text ≡ true → end ≡ length (take_while is_letter text) → (take end text ≡ first_word (words text)) × (words (drop end text) ≡ other_words (words text))
front_name = front_word is_letter letters_join

-- the operator characters from the front on are the first word
pub front_operator : (text : List ℕ) (end : ℕ) → begins is_operator text ≡ true → end ≡ length (take_while is_operator text) → (take end text ≡ first_word (words text)) × (words (drop end text) ≡ other_words (words text))
front_operator = front_word is_operator operators_join

-- ---- string literals

-- a string literal's rest is read to its end, and the words behind it follow
abbrev EndsLiteral : Words → List ℕ → ℕ → Type 0
EndsLiteral found text end = found ≡ take end text ∷ words (drop end text)

ends_behind : (character : ℕ) (text : List ℕ) (found : Words) (end : ℕ) → EndsLiteral found text end → EndsLiteral (in_front character found) (character ∷ text) (1 + end)
ends_behind character text found end ends = rw (one-add end) (ap (in_front character) ends)

mutual
  literal_ends : (text : List ℕ) → EndsLiteral (found_in text).inside text (literal_length false text)
  literal_ends [] = refl
  literal_ends (character ∷ text) = go (is_quote character) (nat_eq character 92) refl refl (literal_ends text) (escape_ends text)
    where
      go : (quote backslash : Bool) → is_quote character ≡ quote → nat_eq character 92 ≡ backslash → EndsLiteral (found_in text).inside text (literal_length false text) → EndsLiteral (found_in text).escaped text (literal_length true text)
          → EndsLiteral (found_in (character ∷ text)).inside (character ∷ text) (literal_length false (character ∷ text))
      go true backslash e b inside escaped = rw e refl
      go false true e b inside escaped = rw (e, b) (ends_behind character text (found_in text).escaped (literal_length true text) escaped)
      go false false e b inside escaped = rw (e, b) (ends_behind character text (found_in text).inside (literal_length false text) inside)

  escape_ends : (text : List ℕ) → EndsLiteral (found_in text).escaped text (literal_length true text)
  escape_ends [] = refl
  escape_ends (character ∷ text) = ends_behind character text (found_in text).inside (literal_length false text) (literal_ends text)

sort-quote : (character : ℕ) → is_quote character ≡ true → sort_of character ≡ Quote
sort-quote character is =
    let blank : is_blank character ≡ false = grind (arith, nat_tests) in
    let letter : is_letter character ≡ false = grind (arith, nat_tests) in
    let operator : is_operator character ≡ false = grind (arith, nat_tests) in
    rw (blank, letter, operator, is)

-- a quote begins a word that goes on to the end of its literal
pub words-quote : (character : ℕ) (text : List ℕ) → is_quote character ≡ true → words (character ∷ text) ≡ in_front character (literal_words text)
words-quote character text is = ap (λ sort. put_before sort character text (words text) (literal_words text)) (sort-quote character is)

-- a string literal from the front on is the first word
pub front_literal : (character : ℕ) (text : List ℕ) (end : ℕ) → is_quote character ≡ true → end ≡ 1 + literal_length false text
    → (take end (character ∷ text) ≡ first_word (words (character ∷ text))) × (words (drop end (character ∷ text)) ≡ other_words (words (character ∷ text)))
front_literal character text end is at =
    let are = words-quote character text is ∙ ends_behind character text (literal_words text) (literal_length false text) (literal_ends text) in
    rw at (sym (ap first_word are), sym (ap other_words are))

-- the same, of a text that begins with a quote
pub front_quote : (text : List ℕ) (inside : ℕ) → 1 ≤ length text → is_quote (get_or text 0 0) ≡ true → inside ≡ literal_length false (take (length text - 1) (drop 1 text))
    → (take (1 + inside) text ≡ first_word (words text)) × (words (drop (1 + inside) text) ≡ other_words (words text))
front_quote [] inside some is at = absurd (omega arith)
front_quote (first ∷ rest) inside some is at =
    let all : take (length (first ∷ rest) - 1) rest ≡ rest = take_all (length (first ∷ rest) - 1) rest (omega arith) in
    front_literal first rest (1 + inside) is (ap (λ more. 1 + more) at ∙ ap (λ text. 1 + literal_length false text) all)

-- a character behind a backslash is passed over
pub literal_escaped : (escaped next : Bool) (place : ℕ) (text : List ℕ) → place < length text → escaped ≡ true → next ≡ false
    → (place + 1) + literal_length next (drop (place + 1) text) ≡ place + literal_length escaped (drop place text)
literal_escaped escaped next place text within is after = rw (is, after, drop_more text place 0 within) (omega arith)

-- so is another character that is no quote
pub literal_goes_on : (escaped next : Bool) (place : ℕ) (text : List ℕ) → place < length text → escaped ≡ false → is_quote (get_or text place 0) ≡ false → next ≡ nat_eq (get_or text place 0) 92
    → (place + 1) + literal_length next (drop (place + 1) text) ≡ place + literal_length escaped (drop place text)
literal_goes_on escaped next place text within is no_quote after = rw (is, after, drop_more text place 0 within, no_quote) (omega arith)

-- ---- blanks

blanks_more : (first : ℕ) (rest : List ℕ) (passes : Bool) → is_blank first ≡ passes → words (drop (prefix_len is_blank rest) rest) ≡ words rest → words (drop (cond passes (1 + prefix_len is_blank rest) 0) (first ∷ rest)) ≡ words (first ∷ rest)
blanks_more first rest true is others = rw (one-add (prefix_len is_blank rest)) (others ∙ sym (words-blank first rest is))
blanks_more first rest false is others = refl

words_past : (text : List ℕ) → words (drop (prefix_len is_blank text) text) ≡ words text
words_past [] = refl
words_past (first ∷ rest) = blanks_more first rest (is_blank first) refl (words_past rest)

-- the blanks from the front on are no words, and behind them no blank stands
pub past_blanks : (text : List ℕ) (end : ℕ) → end ≡ length (take_while is_blank text) → (words (drop end text) ≡ words text) × (begins is_blank (drop end text) ≡ false)
past_blanks text end at =
    let e : end ≡ prefix_len is_blank text = at ∙ length-prefix_len is_blank text in
    (rw e (words_past text), rw e (front_ends is_blank text))

-- ---- the end

joined_some : (more : Bool) (character : ℕ) (found : Words) → (if more then in_front character found else (character ∷ []) ∷ found) ≢ []
joined_some true character [] = λ none. cc
joined_some true character (first ∷ rest) = λ none. cc
joined_some false character found = λ none. cc

in_front_some : (character : ℕ) (found : Words) → in_front character found ≢ []
in_front_some character [] = λ none. cc
in_front_some character (first ∷ rest) = λ none. cc

put_some : (sort : Sort) (character : ℕ) (text : List ℕ) (found literal : Words) → sort ≢ Blank → put_before sort character text found literal ≢ []
put_some Blank character text found literal other = absurd (other refl)
put_some Letter character text found literal other = joined_some (begins is_letter text) character found
put_some Operator character text found literal other = joined_some (begins is_operator text) character found
put_some Quote character text found literal other = in_front_some character literal
put_some Single character text found literal other = λ none. cc

sort_other : (blank letter operator quote : Bool) → blank ≡ false → (if blank then Blank else (if letter then Letter else (if operator then Operator else (if quote then Quote else Single)))) ≢ Blank
sort_other true letter operator quote not_blank = absurd (false≢true (sym not_blank))
sort_other false true operator quote not_blank = λ same. cc
sort_other false false true quote not_blank = λ same. cc
sort_other false false false true not_blank = λ same. cc
sort_other false false false false not_blank = λ same. cc

-- a text without words that doesn't begin with a blank is empty
pub words_none : (text : List ℕ) → begins is_blank text ≡ false → words text ≡ [] → text ≡ []
words_none [] front none = refl
words_none (first ∷ rest) front none =
    absurd (put_some (sort_of first) first rest (words rest) (literal_words rest) (sort_other (is_blank first) (is_letter first) (is_operator first) (is_quote first) front) none)

others_drop : (n : ℕ) (list : Words) → other_words (drop n list) ≡ drop (suc n) list
others_drop zero [] = refl
others_drop zero (word ∷ rest) = refl
others_drop (suc n) [] = refl
others_drop (suc n) (word ∷ rest) = others_drop n rest

-- one word more is left out
pub drop_next : (n : ℕ) (list : Words) → other_words (drop n list) ≡ drop (n + 1) list
drop_next n list = rw (add-one n) (others_drop n list)
