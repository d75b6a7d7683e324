-- What it means that a word is among words.
use Rattle.std.proofs.Common.{◌≡◌, ◌≢◌, ℕ, Bool, true, false, nat_eq, if◌then◌else◌, subst, ◌≤◌, refl, ◌<◌, List, [], ◌∷◌, ◌++◌, ◌⊎◌, ◌↔◌, map, Any, Contains, filter, length, get_or, Bor, inl, inr, sym, ◌∙◌, ap, arith}
use Rattle.std.specs.List.{AllByRecursion}
use Rattle.std.proofs.lemmas.Bool.{false≢true}
use Rattle.std.proofs.lemmas.Bool.Decides.{nat_tests}
use Rattle.dj_names.specs.Identifiers.{begins_with, keywords, reserved_by_first, word_literals}
use Rattle.std.proofs.lemmas.List.{get_or-map, length-map, get_or_default}
use Rattle.std.proofs.lemmas.List.Elements.{Contains-push, Contains-push_cases, Contains-append_cases, Contains-append_left, Contains-append_right}

-- the words that are shown
abbrev shown : List (Bor (List ℕ)) → List (List ℕ)
shown = map (λ word. word.now)

Contains-from_any : (words : List (Bor (List ℕ))) (units : List ℕ) → Any (λ word. word.now ≡ units) words → Contains (shown words) units
Contains-from_any words units (k, x, within, is, same) =
    (k, grind (arith, length-map), get_or-map (λ (word : Bor (List ℕ)). word.now) words k x units within ∙ ap (λ (word : Bor (List ℕ)). word.now) is ∙ same)

Any-from_contains : (words : List (Bor (List ℕ))) (units : List ℕ) → Contains (shown words) units → Any (λ word. word.now ≡ units) words
Any-from_contains [] units (k, within, is) = absurd (omega arith)
Any-from_contains (w ∷ ws) units (k, within, is) =
    let inside : k < length (w ∷ ws) = grind (arith, length-map) in
    let word : Bor (List ℕ) = get_or (w ∷ ws) k w in
    (k, word, inside, get_or_default (w ∷ ws) k word w inside, sym (get_or-map (λ (word : Bor (List ℕ)). word.now) (w ∷ ws) k w units inside) ∙ is)

-- a word is among words where it is shown among them
pub among : (words : List (Bor (List ℕ))) (units : List ℕ) → Any (λ word. word.now ≡ units) words ↔ Contains (map (λ word. word.now) words) units
among words units = (Contains-from_any words units, Any-from_contains words units)

-- a word is among two lists together where it is in one of them
pub either_list : (front back : List (List ℕ)) (units : List ℕ) → Contains (front ++ back) units ↔ (Contains front units ⊎ Contains back units)
either_list front back units = (
  Contains-append_cases front back units,
  λ either. elim either [ inl in_front ↦ Contains-append_left front back units in_front | inr in_back ↦ Contains-append_right front back units in_back ],
)

-- the words that begin with the letter, where the letter is known
pub begins_same : (known letter : ℕ) → letter ≡ known → filter (begins_with known) (keywords ++ word_literals) ≡ reserved_by_first letter
unfolding reserved_by_first
begins_same known letter is = ap (λ l. filter (begins_with l) (keywords ++ word_literals)) (sym is)

-- a letter is none of these, by the test
other_letter : (letter known : ℕ) → letter ≢ known → nat_eq letter known ≡ false
other_letter letter known other = grind (arith, nat_tests)

-- no word of the list begins with the letter
none_in : (letter : ℕ) (words : List (List ℕ)) → AllByRecursion (λ word. begins_with letter word ≡ false) words → [] ≡ filter (begins_with letter) words
none_in letter [] none = refl
none_in letter (word ∷ words) (first, rest) = rw first (none_in letter words rest)

-- no reserved word begins with another letter than these
pub none_begins : (letter : ℕ) → letter ≢ 97 → letter ≢ 98 → letter ≢ 99 → letter ≢ 100 → letter ≢ 101 → letter ≢ 102 → letter ≢ 103 → letter ≢ 105 → letter ≢ 108 → letter ≢ 110 → letter ≢ 112 → letter ≢ 114 → letter ≢ 115 → letter ≢ 116 → letter ≢ 118 → letter ≢ 119 → [] ≡ reserved_by_first letter
unfolding reserved_by_first
none_begins letter o97 o98 o99 o100 o101 o102 o103 o105 o108 o110 o112 o114 o115 o116 o118 o119 =
    let n97 = other_letter letter 97 o97 in
    let n98 = other_letter letter 98 o98 in
    let n99 = other_letter letter 99 o99 in
    let n100 = other_letter letter 100 o100 in
    let n101 = other_letter letter 101 o101 in
    let n102 = other_letter letter 102 o102 in
    let n103 = other_letter letter 103 o103 in
    let n105 = other_letter letter 105 o105 in
    let n108 = other_letter letter 108 o108 in
    let n110 = other_letter letter 110 o110 in
    let n112 = other_letter letter 112 o112 in
    let n114 = other_letter letter 114 o114 in
    let n115 = other_letter letter 115 o115 in
    let n116 = other_letter letter 116 o116 in
    let n118 = other_letter letter 118 o118 in
    let n119 = other_letter letter 119 o119 in
    none_in letter (keywords ++ word_literals) (search (n97, n98, n99, n100, n101, n102, n103, n105, n108, n110, n112, n114, n115, n116, n118, n119))

-- what is among words is the first of them, or is among the rest
cons_cases : (word : List ℕ) (words : List (List ℕ)) (units : List ℕ) → Contains (word ∷ words) units → (word ≡ units) ⊎ Contains words units
cons_cases word words units found = elim (Contains-append_cases (word ∷ []) words units found) [
  | inl one ↦ elim (Contains-push_cases [] word units one) [ inl (k, within, is) ↦ absurd (omega arith) | inr same ↦ inl same ]
  | inr more ↦ inr more
]

-- the first word is among words
at_head : (word : List ℕ) (words : List (List ℕ)) (units : List ℕ) → word ≡ units → Contains (word ∷ words) units
at_head word words units same = Contains-append_left (word ∷ []) words units (subst (Contains (word ∷ [])) same (Contains-push [] word))

-- and so is what is among the rest
in_rest : (word : List ℕ) (words : List (List ℕ)) (units : List ℕ) → Contains words units → Contains (word ∷ words) units
in_rest word words units more = Contains-append_right (word ∷ []) words units more

-- a word that is kept was there
kept_step : (keeps : Bool) (word : List ℕ) (kept words : List (List ℕ)) (units : List ℕ) → (Contains kept units → Contains words units) → Contains (if keeps then word ∷ kept else kept) units → Contains (word ∷ words) units
kept_step true word kept words units was found = elim (cons_cases word kept units found) [ inl same ↦ at_head word words units same | inr more ↦ in_rest word words units (was more) ]
kept_step false word kept words units was found = in_rest word words units (was found)

-- a word that was there is kept, if it is to be
keeps_step : (keeps : Bool) (word : List ℕ) (kept words : List (List ℕ)) (units : List ℕ) → (word ≡ units → keeps ≡ true) → (Contains words units → Contains kept units) → Contains (word ∷ words) units → Contains (if keeps then word ∷ kept else kept) units
keeps_step true word kept words units to_keep still found = elim (cons_cases word words units found) [ inl same ↦ at_head word kept units same | inr more ↦ in_rest word kept units (still more) ]
keeps_step false word kept words units to_keep still found = elim (cons_cases word words units found) [ inl same ↦ absurd (false≢true (to_keep same)) | inr more ↦ still more ]

-- a word begins with its first letter
begins_so : (letter : ℕ) (rest word : List ℕ) → word ≡ letter ∷ rest → begins_with letter word ≡ true
begins_so letter rest word same = rw same (grind (arith, nat_tests))

-- a word is among words where it is among those that begin as it does
kept_were : (letter : ℕ) (rest : List ℕ) (words : List (List ℕ)) → Contains (filter (begins_with letter) words) (letter ∷ rest) → Contains words (letter ∷ rest)
kept_were letter rest [] found = found
kept_were letter rest (word ∷ words) found = kept_step (begins_with letter word) word (filter (begins_with letter) words) words (letter ∷ rest) (kept_were letter rest words) found

are_kept : (letter : ℕ) (rest : List ℕ) (words : List (List ℕ)) → Contains words (letter ∷ rest) → Contains (filter (begins_with letter) words) (letter ∷ rest)
are_kept letter rest [] found = found
are_kept letter rest (word ∷ words) found = keeps_step (begins_with letter word) word (filter (begins_with letter) words) words (letter ∷ rest) (begins_so letter rest word) (are_kept letter rest words) found

-- a word is reserved where it is among the reserved words that begin with its first letter
pub by_first : (units : List ℕ) → 1 ≤ length units → Contains (reserved_by_first (get_or units 0 0)) units ↔ (Contains keywords units ⊎ Contains word_literals units)
unfolding reserved_by_first
by_first [] some = absurd (omega arith)
by_first (letter ∷ rest) some =
    let either = either_list keywords word_literals (letter ∷ rest) in
    (λ found. either.0 (kept_were letter rest (keywords ++ word_literals) found), λ is. are_kept letter rest (keywords ++ word_literals) (either.1 is))

-- each word has a letter
all_have : List (List ℕ) → Bool
all_have [] = true
all_have ([] ∷ _) = false
all_have ((_ ∷ _) ∷ words) = all_have words

-- a list with an element is not the empty one
not_empty : (letter : ℕ) (rest : List ℕ) → letter ∷ rest ≢ []
not_empty letter rest same =
    let none : length (letter ∷ rest) ≡ 0 = ap length same in
    omega arith

-- the empty word is not among words that have letters
no_empty : (words : List (List ℕ)) → all_have words ≡ true → ¬ Contains words []
unfolding all_have
no_empty [] all (k, within, is) = omega arith
no_empty ([] ∷ words) all found = false≢true all
no_empty ((letter ∷ rest) ∷ words) all found = elim (cons_cases (letter ∷ rest) words [] found) [ inl same ↦ absurd (not_empty letter rest same) | inr more ↦ no_empty words all more ]

-- no word of no letters is reserved
pub empty_is_free : (units : List ℕ) → length units < 1 → ¬ (Contains keywords units ⊎ Contains word_literals units)
unfolding all_have
empty_is_free [] none is = no_empty (keywords ++ word_literals) refl ((either_list keywords word_literals []).1 is)
empty_is_free (letter ∷ rest) none is = omega arith
