-- Names of words with dots between them, read a word at a time: what each may be a name of (JLS 6.5).
use Rattle.std.specs.Prelude.{ℕ, Bool, false, if◌then◌else◌, List, [], ◌∷◌, ◌++◌, Option, Some, None, codes}
use Rattle.dj_names.specs.Types.{JType, Boolean, Byte, Char, Short, Int, Long, Float, Double, Class}
use Rattle.dj_syntax.specs.Trees.{Exp, Variable, Field, Static}
use Rattle.dj_tokens.specs.Words.{is_word}
use Rattle.dj_tokens.specs.Literals.{is_variable_word, variable_of, number_behind_letter}

-- A name as far as it is read: its value, where it begins with a variable; the primitive type whose keyword it is;
-- the number behind the letter of its first word; the words before its last one, and that one; whether the one
-- before the last, and the last one, is `super`.
pub record DottedName : Type 0 where
  pub value : Option Exp
  pub primitive : Option JType
  pub number : ℕ
  pub prefix : Option (List ℕ)
  pub last : List ℕ
  pub behind_super : Bool
  pub is_super : Bool

-- the primitive type whose keyword a word is
abbrev pub primitive_of : List ℕ → Option JType
primitive_of word =
    if is_word word (codes "boolean") then Some Boolean
    else if is_word word (codes "byte") then Some Byte
    else if is_word word (codes "char") then Some Char
    else if is_word word (codes "short") then Some Short
    else if is_word word (codes "int") then Some Int
    else if is_word word (codes "long") then Some Long
    else if is_word word (codes "float") then Some Float
    else if is_word word (codes "double") then Some Double
    else None

-- a variable, where a word is spelled like one
abbrev pub variable_in : List ℕ → Option Exp
variable_in word = if is_variable_word word then Some (Variable (variable_of word)) else None

-- a name of one word
abbrev pub begun : List ℕ → DottedName
begun word = record {
  value = variable_in word;
  primitive = primitive_of word;
  number = number_behind_letter word;
  prefix = None;
  last = word;
  behind_super = false;
  is_super = is_word word (codes "super");
}

-- units with a slash and others behind them, where there are any before
abbrev pub joined_to : Option (List ℕ) → List ℕ → List ℕ
joined_to None last = last
joined_to (Some prefix) last = prefix ++ 47 ∷ last

-- the whole name, with a slash for each dot
abbrev pub whole : DottedName → List ℕ
whole name = joined_to name.prefix name.last

-- a field of a value, where there is one; none is called `super`
abbrev pub field_of_value : Option Exp → List ℕ → Option Exp
field_of_value None name = None
field_of_value (Some object) name = if is_word name (codes "super") then None else Some (Field object name)

-- a name with a word more
abbrev pub extended : DottedName → List ℕ → DottedName
extended name word = record {
  value = field_of_value name.value word;
  primitive = None;
  number = name.number;
  prefix = Some (whole name);
  last = word;
  behind_super = name.is_super;
  is_super = is_word word (codes "super");
}

-- the units of a prefix, none where there is none
abbrev pub prefix_units : Option (List ℕ) → List ℕ
prefix_units None = []
prefix_units (Some units) = units

-- a value, where there is one, or else the other
abbrev pub value_or : Option Exp → Exp → Exp
value_or None other = other
value_or (Some value) other = value

-- a name's value: a variable or a field of one, and else a static field
abbrev pub value_of : DottedName → Exp
value_of name = value_or name.value (Static (prefix_units name.prefix) name.last)

-- a type, where there is one, or else the other
abbrev pub type_or : Option JType → JType → JType
type_or None other = other
type_or (Some kind) other = kind

-- the type that a name names
abbrev pub type_of_name : DottedName → JType
type_of_name name = type_or name.primitive (Class (whole name))
