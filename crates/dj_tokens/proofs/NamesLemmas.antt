-- How names and lists of them are read on, and that words are used up by it.
use Rattle.std.proofs.Common.{◌≡◌, ℕ, ◌≤◌, ◌<◌, Bool, true, false, List, [], ◌∷◌, ◌++◌, length, codes, refl, ap, sym, append_assoc, arith}
use Rattle.std.proofs.lemmas.Bool.{false≢true}
use Rattle.std.specs.Prelude.{if◌then◌else◌}
use Rattle.dj_tokens.specs.Words.{Words, is_word, first_word, other_words, comes}
use Rattle.dj_tokens.specs.Names.{more_name, read_name, more_names, read_names}

-- this name and these words are what is read
abbrev pub NameIsRead : List ℕ → Words → Words → Type 0
NameIsRead name rest list = let read : List ℕ × Words = (name, rest) in read ≡ read_name list

-- ---- names

-- a name goes on behind a dot
more_name-on : (name : List ℕ) (list : Words) → comes (codes ".") list ≡ true → more_name name list ≡ more_name (name ++ 47 ∷ first_word (other_words list)) (other_words (other_words list))
more_name-on name [] at = absurd (false≢true at)
more_name-on name (word ∷ []) at = rw at
more_name-on name (word ∷ next ∷ rest) at = rw at

-- a segment more, word by word
pub name_goes_on : (name pushed added word : List ℕ) (list behind rest : Words) → true ≡ comes (codes ".") list → behind ≡ other_words list
    → pushed ≡ name ++ 47 ∷ [] → word ≡ first_word behind → rest ≡ other_words behind → added ≡ pushed ++ word → more_name added rest ≡ more_name name list
name_goes_on name pushed added word list behind rest at e p w r a =
    let on = more_name-on name list (sym at) in
    let one = append_assoc name (47 ∷ []) word in
    cc

-- a name leaves no more words than there were
more_name-fewer : (name : List ℕ) (list : Words) → length (more_name name list).1 ≤ length list
more_name-fewer name [] = omega arith
more_name-fewer name (word ∷ []) = go (is_word word (codes ".")) refl
  where
    go : (dot : Bool) → is_word word (codes ".") ≡ dot → length (more_name name (word ∷ [])).1 ≤ 1
    go true e = rw e (omega arith)
    go false e = rw e (omega arith)
more_name-fewer name (word ∷ next ∷ rest) = go (is_word word (codes ".")) refl (more_name-fewer (name ++ 47 ∷ next) rest)
  where
    go : (dot : Bool) → is_word word (codes ".") ≡ dot → length (more_name (name ++ 47 ∷ next) rest).1 ≤ length rest → length (more_name name (word ∷ next ∷ rest)).1 ≤ length (word ∷ next ∷ rest)
    go true e fewer = rw e (omega (arith, fewer))
    go false e fewer = rw e (omega arith)

-- a name that is read leaves no more words than there were
read_name-fewer : (list : Words) → length (read_name list).1 ≤ length list
read_name-fewer [] = omega arith
read_name-fewer (word ∷ rest) = omega (arith, more_name-fewer word rest)

-- ---- lists of names

-- names with commas between them, of which these are read
abbrev pub names_on : List (List ℕ) → Words → List (List ℕ) × Words
names_on names list =
    if comes (codes ",") list then more_names names (first_word (other_words list)) (other_words (other_words list)) else (names, list)

-- the name that is begun is read to its end first
more_names-by_name : (names : List (List ℕ)) (name : List ℕ) (list : Words) → more_names names name list ≡ names_on (names ++ (more_name name list).0 ∷ []) (more_name name list).1
more_names-by_name names name [] = refl
more_names-by_name names name (word ∷ []) = go (is_word word (codes ".")) refl
  where
    go : (dot : Bool) → is_word word (codes ".") ≡ dot → more_names names name (word ∷ []) ≡ names_on (names ++ (more_name name (word ∷ [])).0 ∷ []) (more_name name (word ∷ [])).1
    go true e = rw e
    go false e = rw e
more_names-by_name names name (word ∷ next ∷ rest) = go (is_word word (codes ".")) refl (more_names-by_name names (name ++ 47 ∷ next) rest)
  where
    go : (dot : Bool) → is_word word (codes ".") ≡ dot → more_names names (name ++ 47 ∷ next) rest ≡ names_on (names ++ (more_name (name ++ 47 ∷ next) rest).0 ∷ []) (more_name (name ++ 47 ∷ next) rest).1
        → more_names names name (word ∷ next ∷ rest) ≡ names_on (names ++ (more_name name (word ∷ next ∷ rest)).0 ∷ []) (more_name name (word ∷ next ∷ rest)).1
    go true e more = rw e more
    go false e more = rw e

-- a name more behind a comma
names_on-more : (names : List (List ℕ)) (list : Words) → comes (codes ",") list ≡ true → names_on names list ≡ names_on (names ++ (read_name (other_words list)).0 ∷ []) (read_name (other_words list)).1
names_on-more names list at = rw at (more_names-by_name names (first_word (other_words list)) (other_words (other_words list)))

-- a name more, word by word
pub names_go_on : (names pushed : List (List ℕ)) (name : List ℕ) (list behind rest : Words) → true ≡ comes (codes ",") list → behind ≡ other_words list → NameIsRead name rest behind → pushed ≡ names ++ name ∷ []
    → names_on pushed rest ≡ names_on names list
names_go_on names pushed name list behind rest at e r p =
    let more = names_on-more names list (sym at) in
    let named = ap (λ read. read.0) r in
    let left = ap (λ read. read.1) r in
    cc

-- a name more uses words up
pub names_fewer : (name : List ℕ) (list behind rest : Words) → true ≡ comes (codes ",") list → behind ≡ other_words list → NameIsRead name rest behind → length rest < length list
names_fewer name [] behind rest at e r = absurd (false≢true (sym at))
names_fewer name (word ∷ list) behind rest at e r =
    let left = ap (λ read. length read.1) r in
    let same = ap length e in
    omega (arith, read_name-fewer behind)

-- the first name behind a keyword, word by word
pub names_begin : (keyword : List ℕ) (none pushed : List (List ℕ)) (name : List ℕ) (list behind rest : Words) → true ≡ comes keyword list → behind ≡ other_words list → NameIsRead name rest behind → none ≡ [] → pushed ≡ none ++ name ∷ []
    → names_on pushed rest ≡ read_names keyword list
names_begin keyword none pushed name list behind rest at e r n p =
    let on : read_names keyword list ≡ more_names [] (first_word (other_words list)) (other_words (other_words list)) = rw (← at) refl in
    let by_name = more_names-by_name [] (first_word (other_words list)) (other_words (other_words list)) in
    let named = ap (λ read. read.0) r in
    let left = ap (λ read. read.1) r in
    let first = ap (λ before. before ++ name ∷ []) n in
    cc

-- names end where no comma comes
pub names_on-end : (names : List (List ℕ)) (list : Words) → false ≡ comes (codes ",") list → names_on names list ≡ (names, list)
names_on-end names list at = rw (← at) refl
