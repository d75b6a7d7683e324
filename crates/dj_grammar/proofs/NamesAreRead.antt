-- What the words of names spell is read from them, whatever follows.
use Rattle.std.proofs.Common.{◌≡◌, ℕ, ◌==◌, Bool, true, false, List, [], ◌∷◌, ◌++◌, refl, sym, ap, ◌∙◌, subst, append_assoc, eqb-true}
use Rattle.std.specs.Prelude.{codes}
use Rattle.dj_names.specs.ClassNames.{in_front, segments}
use Rattle.dj_tokens.specs.Words.{Words, comes}
use Rattle.dj_tokens.specs.Names.{more_name, read_name, more_names, read_names}

-- the words of segments that stand behind a first one
abbrev pub after_dots : List (List ℕ) → Words
after_dots [] = []
after_dots (segment ∷ rest) = codes "." ∷ segment ∷ after_dots rest

-- the words of segments
abbrev pub dotted_words : List (List ℕ) → Words
dotted_words [] = []
dotted_words (first ∷ rest) = first ∷ after_dots rest

-- the words of a class's name in full
abbrev pub name_words : List ℕ → Words
name_words name = dotted_words (segments name)

-- ---- a name from its segments

-- a name with more segments, each behind a slash
abbrev pub qualified : List ℕ → List (List ℕ) → List ℕ
qualified name [] = name
qualified name (segment ∷ rest) = qualified (name ++ 47 ∷ segment) rest

-- the segments of a name, and that they make it
pub record Parts (name : List ℕ) : Type 0 where
  pub first : List ℕ
  pub rest : List (List ℕ)
  pub are : segments name ≡ first ∷ rest
  pub whole : qualified first rest ≡ name

qualified-cons : (unit : ℕ) (name : List ℕ) (rest : List (List ℕ)) → qualified (unit ∷ name) rest ≡ unit ∷ qualified name rest
qualified-cons unit name [] = refl
qualified-cons unit name (segment ∷ rest) = qualified-cons unit (name ++ 47 ∷ segment) rest

parts-slash : (name : List ℕ) → Parts name → Parts (47 ∷ name)
parts-slash name parts = record {
  first = [];
  rest = parts.first ∷ parts.rest;
  are = ap (λ segments. [] ∷ segments) parts.are;
  whole = qualified-cons 47 parts.first parts.rest ∙ ap (λ name. 47 ∷ name) parts.whole;
}

parts-other : (unit : ℕ) (name : List ℕ) → (unit == 47) ≡ false → Parts name → Parts (unit ∷ name)
parts-other unit name other parts = record {
  first = unit ∷ parts.first;
  rest = parts.rest;
  are = rw other (ap (in_front unit) parts.are);
  whole = qualified-cons unit parts.first parts.rest ∙ ap (λ name. unit ∷ name) parts.whole;
}

-- the segments of a name make it
pub parts_of : (name : List ℕ) → Parts name
parts_of [] = record { first = []; rest = []; are = refl; whole = refl }
parts_of (unit ∷ rest) = go (unit == 47) refl (parts_of rest)
  where
    go : (slash : Bool) → (unit == 47) ≡ slash → Parts rest → Parts (unit ∷ rest)
    go true e parts = subst (λ unit. Parts (unit ∷ rest)) (sym (eqb-true unit 47 e)) (parts-slash rest parts)
    go false e parts = parts-other unit rest e parts

-- ---- names are read

more_name-ends : (name : List ℕ) (list : Words) → comes (codes ".") list ≡ false → more_name name list ≡ (name, list)
more_name-ends name [] other = refl
more_name-ends name (word ∷ []) other = rw other
more_name-ends name (word ∷ next ∷ rest) other = rw other

more_name-reads : (name : List ℕ) (parts : List (List ℕ)) (list : Words) → comes (codes ".") list ≡ false → more_name name (after_dots parts ++ list) ≡ (qualified name parts, list)
more_name-reads name [] list other = more_name-ends name list other
more_name-reads name (segment ∷ rest) list other = more_name-reads (name ++ 47 ∷ segment) rest list other

-- a name is read from its words
pub name_is_read : (name : List ℕ) (list : Words) → comes (codes ".") list ≡ false → read_name (name_words name ++ list) ≡ (name, list)
name_is_read name list other =
    let parts = parts_of name in
    rw parts.are (more_name-reads parts.first parts.rest list other ∙ ap (λ name. (name, list)) parts.whole)

-- ---- names with commas between them

-- the words of names, each behind a comma
abbrev pub after_commas : List (List ℕ) → Words
after_commas [] = []
after_commas (name ∷ rest) = codes "," ∷ (name_words name ++ after_commas rest)

-- the words of names behind a keyword, where there are any
abbrev pub names_words : List ℕ → List (List ℕ) → Words
names_words keyword [] = []
names_words keyword (first ∷ rest) = keyword ∷ (name_words first ++ after_commas rest)

-- the names go on with neither a segment nor a name
abbrev pub EndsNames : Words → Type 0
EndsNames list = (comes (codes ".") list ≡ false) × (comes (codes ",") list ≡ false)

more_names-ends : (names : List (List ℕ)) (name : List ℕ) (list : Words) → EndsNames list → more_names names name list ≡ (names ++ name ∷ [], list)
more_names-ends names name [] ends = refl
more_names-ends names name (word ∷ []) ends = rw (ends.0, ends.1)
more_names-ends names name (word ∷ next ∷ rest) ends = rw (ends.0, ends.1)

more_names-name : (names : List (List ℕ)) (name : List ℕ) (parts : List (List ℕ)) (list : Words) → more_names names name (after_dots parts ++ list) ≡ more_names names (qualified name parts) list
more_names-name names name [] list = refl
more_names-name names name (segment ∷ rest) list = more_names-name names (name ++ 47 ∷ segment) rest list

more_names-reads : (names : List (List ℕ)) (name : List ℕ) (rest : List (List ℕ)) (list : Words) → EndsNames list → more_names names name (after_commas rest ++ list) ≡ (names ++ name ∷ rest, list)
more_names-reads names name [] list ends = more_names-ends names name list ends
more_names-reads names name (next ∷ rest) list ends =
    let parts = parts_of next in
    rw (parts.are, append_assoc (after_dots parts.rest) (after_commas rest) list)
    (more_names-name (names ++ name ∷ []) parts.first parts.rest (after_commas rest ++ list)
    ∙ ap (λ next. more_names (names ++ name ∷ []) next (after_commas rest ++ list)) parts.whole
    ∙ more_names-reads (names ++ name ∷ []) next rest list ends
    ∙ ap (λ names. (names, list)) (append_assoc names (name ∷ []) (next ∷ rest)))

-- names are read from their words
pub names_are_read : (keyword : List ℕ) (names : List (List ℕ)) (list : Words) → comes keyword (keyword ∷ []) ≡ true → comes keyword list ≡ false → EndsNames list → read_names keyword (names_words keyword names ++ list) ≡ (names, list)
names_are_read keyword [] list own other ends = rw other
names_are_read keyword (first ∷ rest) list own other ends =
    let parts = parts_of first in
    rw (own, parts.are, append_assoc (after_dots parts.rest) (after_commas rest) list)
    (more_names-name [] parts.first parts.rest (after_commas rest ++ list)
    ∙ ap (λ name. more_names [] name (after_commas rest ++ list)) parts.whole
    ∙ more_names-reads [] first rest list ends)
