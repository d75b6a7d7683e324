-- The words of Java's text, and how it spells names, variables and types (JLS 3.8, 4.1, 6.7).
use Rattle.std.specs.Prelude.{ℕ, List, [], ◌∷◌, ◌++◌, map, Option, Some, None, codes}
use Rattle.std.specs.Fmt.{decimal}
use Rattle.dj_names.specs.ClassNames.{segments}
use Rattle.dj_names.specs.Types.{JType, Boolean, Byte, Char, Short, Int, Long, Float, Double, Class, Array}
use Rattle.dj_syntax.specs.declared.variable.VarKind.{VarKind}
use Rattle.dj_syntax.specs.declared.variable.VarKind.TheVariants as kind
use Rattle.dj_syntax.specs.declared.variable.Var.{Var}
use Rattle.dj_syntax.specs.Items.{Name, Sign, Item, Word, separated}

-- a keyword or a name
abbrev pub word : List ℕ → Item
word characters = Word (Name characters)

-- a sign of punctuation or an operator
abbrev pub sign : List ℕ → Item
sign characters = Word (Sign characters)

-- How a unit writes a class's name; the simple name that its constructors have; its class, by whose name a
-- body calls the helper, and the helper's name, empty where it has none.
pub record Spellings : Type 0 where
  pub class_name : List ℕ → List Item
  pub own : List ℕ
  pub class : List ℕ
  pub helper : List ℕ

-- ---- names

-- a class's name in full, with dots (JLS 6.7)
abbrev pub dotted : List ℕ → List Item
dotted name = separated (sign (codes ".") ∷ []) (map (λ segment. word segment ∷ []) (segments name))

-- the letter of a kind of variable
abbrev pub letter : VarKind → ℕ
letter kind.Param = 112
letter kind.Local = 118
letter kind.Caught = 101
letter kind.State = 115

-- a variable: its kind's letter and its number
abbrev pub variable_name : Var → List ℕ
variable_name variable = letter variable.kind ∷ decimal variable.number

-- a label: `l` and its number
abbrev pub label_name : ℕ → List ℕ
label_name label = 108 ∷ decimal label

-- ---- types

-- a type, an array as its element's type and a pair of brackets (JLS 4.1)
abbrev pub type_items : Spellings → JType → List Item
type_items names Boolean = word (codes "boolean") ∷ []
type_items names Byte = word (codes "byte") ∷ []
type_items names Char = word (codes "char") ∷ []
type_items names Short = word (codes "short") ∷ []
type_items names Int = word (codes "int") ∷ []
type_items names Long = word (codes "long") ∷ []
type_items names Float = word (codes "float") ∷ []
type_items names Double = word (codes "double") ∷ []
type_items names (Class name) = names.class_name name
type_items names (Array element) = type_items names element ++ sign (codes "[") ∷ sign (codes "]") ∷ []

-- a result: a type, or `void`
abbrev pub result_items : Spellings → Option JType → List Item
result_items names None = word (codes "void") ∷ []
result_items names (Some kind) = type_items names kind
