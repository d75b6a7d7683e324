-- How types and parameters are read on, and that words are used up by it.
use Rattle.std.proofs.Common.{◌≡◌, ℕ, ◌≤◌, ◌<◌, Bool, true, false, List, [], ◌∷◌, ◌++◌, length, drop, Some, None, codes, refl, ap, sym, ◌∙◌, arith}
use Rattle.std.proofs.lemmas.Bool.{false≢true}
use Rattle.std.proofs.lemmas.Slice.Eq.{bytes_eq-Decides}
use Rattle.std.specs.Prelude.{if◌then◌else◌}
use Rattle.dj_names.specs.Types.{JType, Class, Array}
use Rattle.dj_tokens.specs.Words.{Words, is_word, first_word, other_words, comes}
use Rattle.dj_tokens.specs.Names.{IsWhole, more_name, type_of, qualify, more_type, read_type, more_parameters}
use Rattle.dj_tokens.proofs.NamesLemmas.{NameIsRead}

-- this type and these words are what is read
abbrev pub TypeIsRead : JType → Words → Words → Type 0
TypeIsRead kind rest list = let read : JType × Words = (kind, rest) in read ≡ read_type list

-- ---- types

-- a segment more, which is added where the type is a class
more_type-segment : (kind : JType) (list : Words) → comes (codes ".") list ≡ true → more_type kind list ≡ more_type (qualify kind (first_word (other_words list))) (drop 2 list)
more_type-segment kind [] at = absurd (false≢true at)
more_type-segment kind (word ∷ []) at = rw at
more_type-segment kind (word ∷ next ∷ rest) at = rw at

-- the type of arrays of a type
more_type-array : (kind : JType) (list : Words) → comes (codes ".") list ≡ false → comes (codes "[") list ≡ true → more_type kind list ≡ more_type (Array kind) (drop 2 list)
more_type-array kind [] not_dot at = absurd (false≢true at)
more_type-array kind (word ∷ []) not_dot at = rw (not_dot, at)
more_type-array kind (word ∷ next ∷ rest) not_dot at = rw (not_dot, at)

-- where brackets come, no dot does
no_dot : (list : Words) → comes (codes "[") list ≡ true → comes (codes ".") list ≡ false
no_dot list at = ap (λ word. is_word word (codes ".")) ((bytes_eq-Decides (first_word list) (codes "[")).0 at)

-- brackets more, word by word
pub type_takes_brackets : (kind : JType) (list rest : Words) → true ≡ comes (codes "[") list → rest ≡ drop 2 list → more_type (Array kind) rest ≡ more_type kind list
type_takes_brackets kind list rest at r = ap (more_type (Array kind)) r ∙ sym (more_type-array kind list (no_dot list (sym at)) (sym at))

-- a segment that isn't added, word by word
pub type_passes_segment : (kind : JType) (list rest : Words) → IsWhole kind → true ≡ comes (codes ".") list → rest ≡ drop 2 list → more_type kind rest ≡ more_type kind list
type_passes_segment kind list rest whole at r =
    let on = more_type-segment kind list (sym at) in
    let same = whole (first_word (other_words list)) in
    cc

-- the name of a class is read to its end first
more_type-by_name : (name : List ℕ) (list : Words) → more_type (Class (more_name name list).0) (more_name name list).1 ≡ more_type (Class name) list
more_type-by_name name [] = refl
more_type-by_name name (word ∷ []) = go (is_word word (codes ".")) refl
  where
    go : (dot : Bool) → is_word word (codes ".") ≡ dot → more_type (Class (more_name name (word ∷ [])).0) (more_name name (word ∷ [])).1 ≡ more_type (Class name) (word ∷ [])
    go true e = rw e
    go false e = rw (e, e)
more_type-by_name name (word ∷ next ∷ rest) = go (is_word word (codes ".")) refl (more_type-by_name (name ++ 47 ∷ next) rest)
  where
    go : (dot : Bool) → is_word word (codes ".") ≡ dot → more_type (Class (more_name (name ++ 47 ∷ next) rest).0) (more_name (name ++ 47 ∷ next) rest).1 ≡ more_type (Class (name ++ 47 ∷ next)) rest
        → more_type (Class (more_name name (word ∷ next ∷ rest)).0) (more_name name (word ∷ next ∷ rest)).1 ≡ more_type (Class name) (word ∷ next ∷ rest)
    go true e more = rw e more
    go false e more = rw (e, e)

-- a type that is a class, from its name
pub read_type-class : (name : List ℕ) (list rest : Words) → type_of (first_word list) ≡ Class (first_word list) → NameIsRead name rest list → more_type (Class name) rest ≡ read_type list
read_type-class name list rest class r =
    let by_name = more_type-by_name (first_word list) (other_words list) in
    let named = ap (λ read. read.0) r in
    let left = ap (λ read. read.1) r in
    cc

-- a name is read past its last dot
more_name-no_dot : (name : List ℕ) (list : Words) → comes (codes ".") (more_name name list).1 ≡ false
more_name-no_dot name [] = refl
more_name-no_dot name (word ∷ []) = go (is_word word (codes ".")) refl
  where
    go : (dot : Bool) → is_word word (codes ".") ≡ dot → comes (codes ".") (more_name name (word ∷ [])).1 ≡ false
    go true e = rw e
    go false e = rw e e
more_name-no_dot name (word ∷ next ∷ rest) = go (is_word word (codes ".")) refl (more_name-no_dot (name ++ 47 ∷ next) rest)
  where
    go : (dot : Bool) → is_word word (codes ".") ≡ dot → comes (codes ".") (more_name (name ++ 47 ∷ next) rest).1 ≡ false → comes (codes ".") (more_name name (word ∷ next ∷ rest)).1 ≡ false
    go true e more = rw e more
    go false e more = rw e e

-- no dot comes behind a name
pub no_dot_behind : (name : List ℕ) (list rest : Words) → NameIsRead name rest list → comes (codes ".") rest ≡ true → ⊥
no_dot_behind name list rest r at =
    false≢true (sym (more_name-no_dot (first_word list) (other_words list)) ∙ ap (λ read. comes (codes ".") read.1) (sym r) ∙ at)

-- a type leaves no more words than there were
more_type-fewer : (kind : JType) (list : Words) → length (more_type kind list).1 ≤ length list
more_type-fewer kind [] = omega arith
more_type-fewer kind (word ∷ []) = go (is_word word (codes ".")) (is_word word (codes "[")) refl refl
  where
    go : (dot brackets : Bool) → is_word word (codes ".") ≡ dot → is_word word (codes "[") ≡ brackets → length (more_type kind (word ∷ [])).1 ≤ 1
    go true brackets e f = rw e (omega arith)
    go false true e f = rw (e, f) (omega arith)
    go false false e f = rw (e, f) (omega arith)
more_type-fewer kind (word ∷ next ∷ rest) =
    go (is_word word (codes ".")) (is_word word (codes "[")) refl refl (more_type-fewer (qualify kind next) rest) (more_type-fewer (Array kind) rest)
  where
    go : (dot brackets : Bool) → is_word word (codes ".") ≡ dot → is_word word (codes "[") ≡ brackets → length (more_type (qualify kind next) rest).1 ≤ length rest → length (more_type (Array kind) rest).1 ≤ length rest
        → length (more_type kind (word ∷ next ∷ rest)).1 ≤ length (word ∷ next ∷ rest)
    go true brackets e f segment array = rw e (omega (arith, segment))
    go false true e f segment array = rw (e, f) (omega (arith, array))
    go false false e f segment array = rw (e, f) (omega arith)

-- a type that is read leaves no more words than there were
read_type-fewer : (list : Words) → length (read_type list).1 ≤ length list
read_type-fewer [] = omega arith
read_type-fewer (word ∷ rest) = omega (arith, more_type-fewer (type_of word) rest)

-- ---- parameters

-- parameters behind a type that is read: its name, and a comma where another follows
abbrev pub behind_type : List JType → JType → Words → List JType × Words
behind_type kinds kind list =
    if comes (codes ",") (other_words list) then more_parameters (kinds ++ kind ∷ []) None (other_words (other_words list))
    else (kinds ++ kind ∷ [], other_words (other_words list))

-- the type that is begun is read to its end first
more_parameters-by_type : (kinds : List JType) (kind : JType) (list : Words) → more_parameters kinds (Some kind) list ≡ behind_type kinds (more_type kind list).0 (more_type kind list).1
more_parameters-by_type kinds kind [] = refl
more_parameters-by_type kinds kind (word ∷ []) = go (is_word word (codes ".")) (is_word word (codes "[")) refl refl
  where
    go : (dot brackets : Bool) → is_word word (codes ".") ≡ dot → is_word word (codes "[") ≡ brackets
        → more_parameters kinds (Some kind) (word ∷ []) ≡ behind_type kinds (more_type kind (word ∷ [])).0 (more_type kind (word ∷ [])).1
    go true brackets e f = rw e
    go false true e f = rw (e, f)
    go false false e f = rw (e, f)
more_parameters-by_type kinds kind (word ∷ next ∷ rest) =
    go (is_word word (codes ".")) (is_word word (codes "[")) refl refl (more_parameters-by_type kinds (qualify kind next) rest) (more_parameters-by_type kinds (Array kind) rest)
  where
    go : (dot brackets : Bool) → is_word word (codes ".") ≡ dot → is_word word (codes "[") ≡ brackets
        → more_parameters kinds (Some (qualify kind next)) rest ≡ behind_type kinds (more_type (qualify kind next) rest).0 (more_type (qualify kind next) rest).1
        → more_parameters kinds (Some (Array kind)) rest ≡ behind_type kinds (more_type (Array kind) rest).0 (more_type (Array kind) rest).1
        → more_parameters kinds (Some kind) (word ∷ next ∷ rest) ≡ behind_type kinds (more_type kind (word ∷ next ∷ rest)).0 (more_type kind (word ∷ next ∷ rest)).1
    go true brackets e f segment array = rw e segment
    go false true e f segment array = rw (e, f) array
    go false false e f segment array = rw (e, f)

-- a parameter more before the parenthesis
more_parameters-more : (kinds : List JType) (list : Words) → comes (codes ")") list ≡ false → more_parameters kinds None list ≡ behind_type kinds (read_type list).0 (read_type list).1
more_parameters-more kinds [] not_at = refl
more_parameters-more kinds (word ∷ rest) not_at = rw not_at (more_parameters-by_type kinds (type_of word) rest)

-- behind a type stand a parameter's name, then a comma or another word, and then the rest
pub record IsBehindType (comma : Bool) (behind named rest : Words) : Type 0 where
  pub named_is : named ≡ other_words behind
  pub comma_is : comma ≡ comes (codes ",") named
  pub rest_is : rest ≡ other_words named

parameters-from : (comma : Bool) (kinds : List JType) (kind : JType) (list behind named rest : Words) → false ≡ comes (codes ")") list → TypeIsRead kind behind list → IsBehindType comma behind named rest
    → (if comma then more_parameters (kinds ++ kind ∷ []) None rest else (kinds ++ kind ∷ [], rest)) ≡ more_parameters kinds None list
parameters-from comma kinds kind list behind named rest not_at r ends =
    rw (ends.comma_is, ends.rest_is, ends.named_is) (ap (λ read. behind_type kinds read.0 read.1) r ∙ sym (more_parameters-more kinds list (sym not_at)))

-- a parameter more before a comma
pub parameters_go_on : (kinds pushed : List JType) (kind : JType) (list behind named rest : Words) → false ≡ comes (codes ")") list → TypeIsRead kind behind list → pushed ≡ kinds ++ kind ∷ [] → IsBehindType true behind named rest
    → more_parameters pushed None rest ≡ more_parameters kinds None list
parameters_go_on kinds pushed kind list behind named rest not_at r p ends =
    ap (λ kinds. more_parameters kinds None rest) p ∙ parameters-from true kinds kind list behind named rest not_at r ends

-- the last parameter
pub parameters_stop : (kinds pushed : List JType) (kind : JType) (list behind named rest : Words) → false ≡ comes (codes ")") list → TypeIsRead kind behind list → pushed ≡ kinds ++ kind ∷ [] → IsBehindType false behind named rest
    → (let read : List JType × Words = (pushed, rest) in read ≡ more_parameters kinds None list)
parameters_stop kinds pushed kind list behind named rest not_at r p ends =
    ap (λ kinds. (kinds, rest)) p ∙ parameters-from false kinds kind list behind named rest not_at r ends

-- a parameter before a comma uses words up
pub parameters_fewer : (kind : JType) (list behind named rest : Words) → TypeIsRead kind behind list → IsBehindType true behind named rest → length rest < length list
parameters_fewer kind list behind [] rest r ends = absurd (false≢true (sym ends.comma_is))
parameters_fewer kind list [] (word ∷ named) rest r ends = absurd (cc ends.named_is)
parameters_fewer kind list (first ∷ behind) (word ∷ named) rest r ends =
    let left = ap (λ read. length read.1) r in
    let named_left = ap length ends.named_is in
    let rest_left = ap length ends.rest_is in
    omega (arith, read_type-fewer list)
