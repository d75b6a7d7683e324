-- The text of expressions (JLS 3.10, 15).
use Rattle.std.specs.Prelude.{ℕ, zero, suc, ℤ, pos, negsuc, Bool, true, false, List, [], ◌∷◌, ◌++◌, Option, Some, None, codes}
use Rattle.dj_syntax.specs.declared.operator.Op.{Op}
use Rattle.dj_syntax.specs.declared.operator.Op.TheVariants as op
use Rattle.dj_syntax.specs.declared.shape.Shape.{Shape}
use Rattle.dj_syntax.specs.declared.shape.Shape.TheVariants.{Numeral, StaticField, Atom, Compound}
use Rattle.dj_syntax.specs.Trees.{Exp, Text, Truth, Null, This, Variable, ClassOf, Field, Static, Element, Call, StaticCall, SuperCall, New, NewArray, Cast, InstanceOf, Negative, Not, Binary, Choice, Assign, Exps, NoExps, AndExp}
use Rattle.dj_syntax.specs.Trees as trees
use Rattle.dj_syntax.specs.Items.{Number, LongNumber, Quoted, Item, Word, Space}
use Rattle.dj_syntax.specs.NameText.{Spellings, word, sign, variable_name, type_items}

-- the spelling of an operator
abbrev pub operator_text : Op → List ℕ
operator_text op.Mul = codes "*"
operator_text op.Div = codes "/"
operator_text op.Rem = codes "%"
operator_text op.Add = codes "+"
operator_text op.Sub = codes "-"
operator_text op.Shl = codes "<<"
operator_text op.Shr = codes ">>"
operator_text op.Ushr = codes ">>>"
operator_text op.Lt = codes "<"
operator_text op.Le = codes "<="
operator_text op.Gt = codes ">"
operator_text op.Ge = codes ">="
operator_text op.Eq = codes "=="
operator_text op.Ne = codes "!="
operator_text op.And = codes "&"
operator_text op.Xor = codes "^"
operator_text op.Or = codes "|"
operator_text op.AndAlso = codes "&&"
operator_text op.OrElse = codes "||"

-- ---- parentheses

-- what a number is: one of 0 or more has no sign
abbrev pub number_shape : ℤ → Shape
number_shape (pos n) = Numeral
number_shape (negsuc n) = Compound

-- what an expression is as a part of another: a number of 0 or more, a static field, another atom, or what isn't one
abbrev pub shape : Exp → Shape
shape (trees.Int value) = number_shape value
shape (trees.Long value) = number_shape value
shape (Text units) = Atom
shape (Truth value) = Atom
shape Null = Atom
shape This = Atom
shape (Variable variable) = Atom
shape (ClassOf kind) = Atom
shape (Field object name) = Atom
shape (Static class name) = StaticField
shape (Element array index) = Atom
shape (Call object name arguments) = Atom
shape (StaticCall class name arguments) = Atom
shape (SuperCall above name arguments) = Atom
shape (New class arguments) = Compound
shape (NewArray kind sizes more) = Compound
shape (Cast kind operand) = Compound
shape (InstanceOf operand kind) = Compound
shape (Negative operand) = Compound
shape (Not operand) = Compound
shape (Binary operator left right) = Compound
shape (Choice test first second) = Compound
shape (Assign variable value) = Compound

-- as an operand it stands bare
abbrev pub is_atom : Shape → Bool
is_atom Numeral = true
is_atom StaticField = true
is_atom Atom = true
is_atom Compound = false

-- in front of a dot it stands bare; a static field doesn't, since `a.b.c` would spell two units
abbrev pub is_receiver : Shape → Bool
is_receiver Numeral = true
is_receiver StaticField = false
is_receiver Atom = true
is_receiver Compound = false

-- behind a minus sign it stands bare; a number doesn't, since `-5` is a literal
abbrev pub is_negated : Shape → Bool
is_negated Numeral = false
is_negated StaticField = true
is_negated Atom = true
is_negated Compound = false

-- items in parentheses
abbrev pub parenthesised : List Item → List Item
parenthesised items = sign (codes "(") ∷ (items ++ sign (codes ")") ∷ [])

-- items in parentheses, unless they stand bare
abbrev pub operand : Bool → List Item → List Item
operand true items = items
operand false items = parenthesised items

-- ---- expressions

-- an int literal; a negative one is a minus sign and digits
abbrev pub int_items : ℤ → List Item
int_items (pos n) = Word (Number n) ∷ []
int_items (negsuc n) = sign (codes "-") ∷ Word (Number (suc n)) ∷ []

-- a long literal
abbrev pub long_items : ℤ → List Item
long_items (pos n) = Word (LongNumber n) ∷ []
long_items (negsuc n) = sign (codes "-") ∷ Word (LongNumber (suc n)) ∷ []

-- `true` or `false`
abbrev pub truth_text : Bool → List ℕ
truth_text true = codes "true"
truth_text false = codes "false"

-- `super`, of an interface where one is named
abbrev pub super_items : Spellings → Option (List ℕ) → List Item
super_items names None = word (codes "super") ∷ []
super_items names (Some interface) = names.class_name interface ++ sign (codes ".") ∷ word (codes "super") ∷ []

-- pairs of brackets with nothing between them
abbrev pub pairs_items : ℕ → List Item
pairs_items zero = []
pairs_items (suc n) = sign (codes "[") ∷ sign (codes "]") ∷ pairs_items n

abbrev mutual
  -- an expression
  pub exp_items : Spellings → Exp → List Item
  exp_items names (trees.Int value) = int_items value
  exp_items names (trees.Long value) = long_items value
  exp_items names (Text units) = Word (Quoted units) ∷ []
  exp_items names (Truth value) = word (truth_text value) ∷ []
  exp_items names Null = word (codes "null") ∷ []
  exp_items names This = word (codes "this") ∷ []
  exp_items names (Variable variable) = word (variable_name variable) ∷ []
  exp_items names (ClassOf kind) = type_items names kind ++ sign (codes ".") ∷ word (codes "class") ∷ []
  exp_items names (Field object name) =
      operand (is_receiver (shape object)) (exp_items names object) ++ sign (codes ".") ∷ word name ∷ []
  exp_items names (Static class name) = names.class_name class ++ sign (codes ".") ∷ word name ∷ []
  exp_items names (Element array index) =
      operand (is_atom (shape array)) (exp_items names array) ++ sign (codes "[") ∷ (exp_items names index ++ sign (codes "]") ∷ [])
  exp_items names (Call object name arguments) =
      operand (is_receiver (shape object)) (exp_items names object)
      ++ sign (codes ".") ∷ word name ∷ parenthesised (arguments_items names arguments)
  exp_items names (StaticCall class name arguments) =
      names.class_name class ++ sign (codes ".") ∷ word name ∷ parenthesised (arguments_items names arguments)
  exp_items names (SuperCall above name arguments) =
      super_items names above ++ sign (codes ".") ∷ word name ∷ parenthesised (arguments_items names arguments)
  exp_items names (New class arguments) =
      word (codes "new") ∷ Space ∷ (names.class_name class ++ parenthesised (arguments_items names arguments))
  exp_items names (NewArray kind sizes more) =
      word (codes "new") ∷ Space ∷ (type_items names kind ++ (sizes_items names sizes ++ pairs_items more))
  exp_items names (Cast kind value) =
      parenthesised (type_items names kind) ++ Space ∷ operand (is_atom (shape value)) (exp_items names value)
  exp_items names (InstanceOf value kind) =
      operand (is_atom (shape value)) (exp_items names value) ++ Space ∷ word (codes "instanceof") ∷ Space ∷ type_items names kind
  exp_items names (Negative value) = sign (codes "-") ∷ operand (is_negated (shape value)) (exp_items names value)
  exp_items names (Not value) = sign (codes "!") ∷ operand (is_atom (shape value)) (exp_items names value)
  exp_items names (Binary operator left right) =
      operand (is_atom (shape left)) (exp_items names left)
      ++ Space ∷ sign (operator_text operator) ∷ Space ∷ operand (is_atom (shape right)) (exp_items names right)
  exp_items names (Choice test first second) =
      operand (is_atom (shape test)) (exp_items names test)
      ++ Space ∷ sign (codes "?") ∷ Space ∷ (operand (is_atom (shape first)) (exp_items names first)
      ++ Space ∷ sign (codes ":") ∷ Space ∷ operand (is_atom (shape second)) (exp_items names second))
  exp_items names (Assign variable value) =
      word (variable_name variable) ∷ Space ∷ sign (codes "=") ∷ Space ∷ exp_items names value

  -- arguments, with commas between them
  pub arguments_items : Spellings → Exps → List Item
  arguments_items names NoExps = []
  arguments_items names (AndExp first rest) = exp_items names first ++ more_arguments names rest

  -- arguments, each with the comma before it
  pub more_arguments : Spellings → Exps → List Item
  more_arguments names NoExps = []
  more_arguments names (AndExp first rest) = sign (codes ",") ∷ Space ∷ (exp_items names first ++ more_arguments names rest)

  -- sizes of a new array, each in brackets
  pub sizes_items : Spellings → Exps → List Item
  sizes_items names NoExps = []
  sizes_items names (AndExp first rest) =
      sign (codes "[") ∷ (exp_items names first ++ sign (codes "]") ∷ sizes_items names rest)
