-- Names, types and lists of them read from words (JLS 4, 6.5, 8.4.1). Behind the last word empty words are read.
use Rattle.std.specs.Prelude.{◌≡◌, ℕ, if◌then◌else◌, List, [], ◌∷◌, ◌++◌, Option, Some, None, codes}
use Rattle.dj_names.specs.Types.{JType, Boolean, Byte, Char, Short, Int, Long, Float, Double, Class, Array}
use Rattle.dj_tokens.specs.Words.{Words, is_word, first_word, other_words, comes}

-- a name that so begins, to its end, with a slash for each dot, and the words behind it
abbrev pub more_name : List ℕ → Words → List ℕ × Words
more_name name [] = (name, [])
more_name name (word ∷ []) = if is_word word (codes ".") then (name ++ 47 ∷ [], []) else (name, word ∷ [])
more_name name (word ∷ next ∷ rest) =
    if is_word word (codes ".") then more_name (name ++ 47 ∷ next) rest else (name, word ∷ next ∷ rest)

-- a name of segments with dots between them
abbrev pub read_name : Words → List ℕ × Words
read_name list = more_name (first_word list) (other_words list)

-- the type that a word begins: a primitive type, or a class
abbrev pub type_of : List ℕ → JType
type_of word =
    if is_word word (codes "boolean") then Boolean
    else if is_word word (codes "byte") then Byte
    else if is_word word (codes "char") then Char
    else if is_word word (codes "short") then Short
    else if is_word word (codes "int") then Int
    else if is_word word (codes "long") then Long
    else if is_word word (codes "float") then Float
    else if is_word word (codes "double") then Double
    else Class word

-- a segment more of a class's name
abbrev pub qualify : JType → List ℕ → JType
qualify Boolean segment = Boolean
qualify Byte segment = Byte
qualify Char segment = Char
qualify Short segment = Short
qualify Int segment = Int
qualify Long segment = Long
qualify Float segment = Float
qualify Double segment = Double
qualify (Class name) segment = Class (name ++ 47 ∷ segment)
qualify (Array element) segment = Array element

-- a type to which no segment is added
abbrev pub IsWhole : JType → Type 0
IsWhole kind = (segment : List ℕ) → qualify kind segment ≡ kind

-- a type that so begins, to its end, and the words behind it
abbrev pub more_type : JType → Words → JType × Words
more_type kind [] = (kind, [])
more_type kind (word ∷ []) =
    if is_word word (codes ".") then (qualify kind [], [])
    else (if is_word word (codes "[") then (Array kind, []) else (kind, word ∷ []))
more_type kind (word ∷ next ∷ rest) =
    if is_word word (codes ".") then more_type (qualify kind next) rest
    else (if is_word word (codes "[") then more_type (Array kind) rest else (kind, word ∷ next ∷ rest))

-- a type
abbrev pub read_type : Words → JType × Words
read_type list = more_type (type_of (first_word list)) (other_words list)

-- a result: a type, or `void`
abbrev pub read_result : Words → Option JType × Words
read_result list =
    if comes (codes "void") list then (None, other_words list)
    else (let kind = read_type list in (Some kind.0, kind.1))

-- the types of parameters up to the parenthesis that ends them, the type that is begun given, and the words behind it
abbrev pub more_parameters : List JType → Option JType → Words → List JType × Words
more_parameters kinds None [] = (kinds ++ type_of [] ∷ [], [])
more_parameters kinds None (word ∷ rest) =
    if is_word word (codes ")") then (kinds, rest) else more_parameters kinds (Some (type_of word)) rest
more_parameters kinds (Some kind) [] = (kinds ++ kind ∷ [], [])
more_parameters kinds (Some kind) (word ∷ []) =
    if is_word word (codes ".") then (kinds ++ qualify kind [] ∷ [], [])
    else (if is_word word (codes "[") then (kinds ++ Array kind ∷ [], []) else (kinds ++ kind ∷ [], []))
more_parameters kinds (Some kind) (word ∷ next ∷ rest) =
    if is_word word (codes ".") then more_parameters kinds (Some (qualify kind next)) rest
    else (if is_word word (codes "[") then more_parameters kinds (Some (Array kind)) rest
    else (if is_word next (codes ",") then more_parameters (kinds ++ kind ∷ []) None rest else (kinds ++ kind ∷ [], rest)))

-- the types of parameters, behind their parenthesis
abbrev pub read_parameters : Words → List JType × Words
read_parameters = more_parameters [] None

-- names with commas between them, the last of them begun, and the words behind them
abbrev pub more_names : List (List ℕ) → List ℕ → Words → List (List ℕ) × Words
more_names names name [] = (names ++ name ∷ [], [])
more_names names name (word ∷ []) =
    if is_word word (codes ".") then (names ++ (name ++ 47 ∷ []) ∷ [], [])
    else (if is_word word (codes ",") then (names ++ name ∷ [] ++ [] ∷ [], []) else (names ++ name ∷ [], word ∷ []))
more_names names name (word ∷ next ∷ rest) =
    if is_word word (codes ".") then more_names names (name ++ 47 ∷ next) rest
    else (if is_word word (codes ",") then more_names (names ++ name ∷ []) next rest else (names ++ name ∷ [], word ∷ next ∷ rest))

-- names with commas between them, behind this keyword, where it stands
abbrev pub read_names : List ℕ → Words → List (List ℕ) × Words
read_names keyword list =
    if comes keyword list then more_names [] (first_word (other_words list)) (other_words (other_words list)) else ([], list)
