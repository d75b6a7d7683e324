-- What the words of types spell is read from them, whatever follows.
use Rattle.std.proofs.Common.{◌≡◌, ℕ, ◌+◌, false, List, [], ◌∷◌, ◌++◌, refl, ap, ◌∙◌, subst, append_assoc, arith}
use Rattle.std.specs.Prelude.{codes, Option, Some, None, IfSome}
use Rattle.std.specs.Fmt.{decimal}
use Rattle.std.specs.List.{AllByRecursion}
use Rattle.dj_names.specs.Types.{JType, Boolean, Byte, Char, Short, Int, Long, Float, Double, Class, Array}
use Rattle.dj_names.specs.Identifiers.{IsIdentifier}
use Rattle.dj_syntax.specs.WellFormed.{IsNamed, IsQualified}
use Rattle.dj_tokens.specs.Words.{Words, comes}
use Rattle.dj_tokens.specs.Names.{more_type, read_type, read_result, more_parameters, read_parameters}
use Rattle.dj_grammar.proofs.NamesAreRead.{after_dots, name_words, qualified, Parts, parts_of}
use Rattle.dj_grammar.proofs.IdentifiersAreWords.{type_of-identifier, no_keyword}
use Rattle.dj_tokens.proofs.Runs.{identifier_run, run_differs}

-- the words of a type
abbrev pub type_words : JType → Words
type_words Boolean = codes "boolean" ∷ []
type_words Byte = codes "byte" ∷ []
type_words Char = codes "char" ∷ []
type_words Short = codes "short" ∷ []
type_words Int = codes "int" ∷ []
type_words Long = codes "long" ∷ []
type_words Float = codes "float" ∷ []
type_words Double = codes "double" ∷ []
type_words (Class name) = name_words name
type_words (Array element) = type_words element ++ codes "[" ∷ codes "]" ∷ []

-- the words of a result
abbrev pub result_words : Option JType → Words
result_words None = codes "void" ∷ []
result_words (Some kind) = type_words kind

-- the first segment of a qualified name is an identifier
pub first_segment : (name : List ℕ) (parts : Parts name) → IsQualified name → IsIdentifier parts.first
first_segment name parts named = (subst (AllByRecursion IsIdentifier) parts.are named).0

-- ---- types

more_type-name : (name : List ℕ) (parts : List (List ℕ)) (list : Words) → more_type (Class name) (after_dots parts ++ list) ≡ more_type (Class (qualified name parts)) list
more_type-name name [] list = refl
more_type-name name (segment ∷ rest) list = more_type-name (name ++ 47 ∷ segment) rest list

-- the words of a type begin it
type_begins : (kind : JType) (list : Words) → IsNamed kind → read_type (type_words kind ++ list) ≡ more_type kind list
type_begins Boolean list named = refl
type_begins Byte list named = refl
type_begins Char list named = refl
type_begins Short list named = refl
type_begins Int list named = refl
type_begins Long list named = refl
type_begins Float list named = refl
type_begins Double list named = refl
type_begins (Class name) list named =
    let parts = parts_of name in
    rw (parts.are, type_of-identifier parts.first (first_segment name parts named))
    (more_type-name parts.first parts.rest list ∙ ap (λ name. more_type (Class name) list) parts.whole)
type_begins (Array element) list named =
    rw (append_assoc (type_words element) (codes "[" ∷ codes "]" ∷ []) list) (type_begins element (codes "[" ∷ codes "]" ∷ list) named)

-- a type goes on with neither a segment nor brackets
abbrev pub EndsType : Words → Type 0
EndsType list = (comes (codes ".") list ≡ false) × (comes (codes "[") list ≡ false)

more_type-ends : (kind : JType) (list : Words) → EndsType list → more_type kind list ≡ (kind, list)
more_type-ends kind [] ends = refl
more_type-ends kind (word ∷ []) ends = rw (ends.0, ends.1)
more_type-ends kind (word ∷ next ∷ rest) ends = rw (ends.0, ends.1)

-- a type is read from its words
pub type_is_read : (kind : JType) (list : Words) → IsNamed kind → EndsType list → read_type (type_words kind ++ list) ≡ (kind, list)
type_is_read kind list named ends = type_begins kind list named ∙ more_type-ends kind list ends

-- a type doesn't begin with `void`
type_is_not_void : (kind : JType) (list : Words) → IsNamed kind → comes (codes "void") (type_words kind ++ list) ≡ false
type_is_not_void Boolean list named = refl
type_is_not_void Byte list named = refl
type_is_not_void Char list named = refl
type_is_not_void Short list named = refl
type_is_not_void Int list named = refl
type_is_not_void Long list named = refl
type_is_not_void Float list named = refl
type_is_not_void Double list named = refl
type_is_not_void (Class name) list named =
    let parts = parts_of name in
    rw parts.are (no_keyword parts.first (codes "void") (first_segment name parts named) (39, omega arith, refl))
type_is_not_void (Array element) list named =
    rw (append_assoc (type_words element) (codes "[" ∷ codes "]" ∷ []) list) (type_is_not_void element (codes "[" ∷ codes "]" ∷ list) named)

-- a result is read from its words
pub result_is_read : (result : Option JType) (list : Words) → IfSome result IsNamed → EndsType list → read_result (result_words result ++ list) ≡ (result, list)
result_is_read None list named ends = refl
result_is_read (Some kind) list named ends =
    rw (type_is_not_void kind list named, type_is_read kind list named ends)

-- ---- parameters

-- the words of parameters from this number on, each behind a comma
abbrev pub after_parameter : ℕ → List JType → Words
after_parameter number [] = []
after_parameter number (kind ∷ rest) = codes "," ∷ (type_words kind ++ (112 ∷ decimal number) ∷ after_parameter (number + 1) rest)

-- the words of parameters
abbrev pub parameters_words : List JType → Words
parameters_words [] = []
parameters_words (kind ∷ rest) = type_words kind ++ (112 ∷ decimal 0) ∷ after_parameter 1 rest

more_parameters-name : (kinds : List JType) (name : List ℕ) (parts : List (List ℕ)) (list : Words) → more_parameters kinds (Some (Class name)) (after_dots parts ++ list) ≡ more_parameters kinds (Some (Class (qualified name parts))) list
more_parameters-name kinds name [] list = refl
more_parameters-name kinds name (segment ∷ rest) list = more_parameters-name kinds (name ++ 47 ∷ segment) rest list

-- the words of a type begin a parameter
parameter_begins : (kinds : List JType) (kind : JType) (list : Words) → IsNamed kind → more_parameters kinds None (type_words kind ++ list) ≡ more_parameters kinds (Some kind) list
parameter_begins kinds Boolean list named = refl
parameter_begins kinds Byte list named = refl
parameter_begins kinds Char list named = refl
parameter_begins kinds Short list named = refl
parameter_begins kinds Int list named = refl
parameter_begins kinds Long list named = refl
parameter_begins kinds Float list named = refl
parameter_begins kinds Double list named = refl
parameter_begins kinds (Class name) list named =
    let parts = parts_of name in
    let first = first_segment name parts named in
    rw (parts.are, run_differs parts.first (codes ")") (identifier_run parts.first first) refl, type_of-identifier parts.first first)
    (more_parameters-name kinds parts.first parts.rest list ∙ ap (λ name. more_parameters kinds (Some (Class name)) list) parts.whole)
parameter_begins kinds (Array element) list named =
    rw (append_assoc (type_words element) (codes "[" ∷ codes "]" ∷ []) list) (parameter_begins kinds element (codes "[" ∷ codes "]" ∷ list) named)

-- the parameters from a name on are read up to their parenthesis
parameters_go_on : (kinds : List JType) (kind : JType) (name : List ℕ) (number : ℕ) (rest : List JType) (list : Words) → AllByRecursion IsNamed rest
    → more_parameters kinds (Some kind) ((112 ∷ name) ∷ (after_parameter number rest ++ codes ")" ∷ list)) ≡ (kinds ++ kind ∷ rest, list)
parameters_go_on kinds kind name number [] list named = refl
parameters_go_on kinds kind name number (next ∷ rest) list named =
    rw (append_assoc (type_words next) ((112 ∷ decimal number) ∷ after_parameter (number + 1) rest) (codes ")" ∷ list))
    (parameter_begins (kinds ++ kind ∷ []) next ((112 ∷ decimal number) ∷ (after_parameter (number + 1) rest ++ codes ")" ∷ list)) named.0
    ∙ parameters_go_on (kinds ++ kind ∷ []) next (decimal number) (number + 1) rest list named.1
    ∙ ap (λ kinds. (kinds, list)) (append_assoc kinds (kind ∷ []) (next ∷ rest)))

-- parameters are read from their words and the parenthesis behind them
pub parameters_are_read : (kinds : List JType) (list : Words) → AllByRecursion IsNamed kinds → read_parameters (parameters_words kinds ++ codes ")" ∷ list) ≡ (kinds, list)
parameters_are_read [] list named = refl
parameters_are_read (kind ∷ rest) list named =
    rw (append_assoc (type_words kind) ((112 ∷ decimal 0) ∷ after_parameter 1 rest) (codes ")" ∷ list))
    (parameter_begins [] kind ((112 ∷ decimal 0) ∷ (after_parameter 1 rest ++ codes ")" ∷ list)) named.0
    ∙ parameters_go_on [] kind (decimal 0) 1 rest list named.1)
