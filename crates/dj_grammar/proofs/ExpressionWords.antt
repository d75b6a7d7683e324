-- The words of expressions (JLS 3.10, 15).
use Rattle.std.specs.Prelude.{ℕ, zero, suc, ℤ, pos, negsuc, Bool, true, false, List, [], ◌∷◌, ◌++◌, Option, Some, None, codes}
use Rattle.std.specs.Fmt.{decimal}
use Rattle.dj_syntax.specs.Trees.{Exp, Text, Truth, Null, This, Variable, ClassOf, Field, Static, Element, Call, StaticCall, SuperCall, New, NewArray, Cast, InstanceOf, Negative, Not, Binary, Choice, Assign, Exps, NoExps, AndExp}
use Rattle.dj_syntax.specs.Trees as trees
use Rattle.dj_syntax.specs.Items.{Quoted, token_text}
use Rattle.dj_syntax.specs.UnitText.{variable_name, operator_text, shape, is_atom, is_receiver, is_negated, truth_text}
use Rattle.dj_tokens.specs.Words.{Words}
use Rattle.dj_grammar.proofs.NamesAreRead.{name_words}
use Rattle.dj_grammar.proofs.TypesAreRead.{type_words}

-- words in parentheses
abbrev pub enclosed : Words → Words
enclosed inside = codes "(" ∷ (inside ++ codes ")" ∷ [])

-- words in parentheses, unless they stand bare
abbrev pub operand_words : Bool → Words → Words
operand_words true inside = inside
operand_words false inside = enclosed inside

-- the words of an int literal
abbrev pub int_words : ℤ → Words
int_words (pos n) = decimal n ∷ []
int_words (negsuc n) = codes "-" ∷ decimal (suc n) ∷ []

-- the words of a long literal
abbrev pub long_words : ℤ → Words
long_words (pos n) = (decimal n ++ codes "L") ∷ []
long_words (negsuc n) = codes "-" ∷ (decimal (suc n) ++ codes "L") ∷ []

-- the words of `super`
abbrev pub super_words : Option (List ℕ) → Words
super_words None = codes "super" ∷ []
super_words (Some interface) = name_words interface ++ codes "." ∷ codes "super" ∷ []

-- the words of pairs of brackets
abbrev pub pairs_words : ℕ → Words
pairs_words zero = []
pairs_words (suc n) = codes "[" ∷ codes "]" ∷ pairs_words n

abbrev mutual
  -- the words of an expression
  pub exp_words : Exp → Words
  exp_words (trees.Int value) = int_words value
  exp_words (trees.Long value) = long_words value
  exp_words (Text units) = token_text (Quoted units) ∷ []
  exp_words (Truth value) = truth_text value ∷ []
  exp_words Null = codes "null" ∷ []
  exp_words This = codes "this" ∷ []
  exp_words (Variable variable) = variable_name variable ∷ []
  exp_words (ClassOf kind) = type_words kind ++ codes "." ∷ codes "class" ∷ []
  exp_words (Field object name) = operand_words (is_receiver (shape object)) (exp_words object) ++ codes "." ∷ name ∷ []
  exp_words (Static class name) = name_words class ++ codes "." ∷ name ∷ []
  exp_words (Element array index) =
      operand_words (is_atom (shape array)) (exp_words array) ++ codes "[" ∷ (exp_words index ++ codes "]" ∷ [])
  exp_words (Call object name arguments) =
      operand_words (is_receiver (shape object)) (exp_words object) ++ codes "." ∷ name ∷ enclosed (arguments_words arguments)
  exp_words (StaticCall class name arguments) = name_words class ++ codes "." ∷ name ∷ enclosed (arguments_words arguments)
  exp_words (SuperCall above name arguments) = super_words above ++ codes "." ∷ name ∷ enclosed (arguments_words arguments)
  exp_words (New class arguments) = codes "new" ∷ (name_words class ++ enclosed (arguments_words arguments))
  exp_words (NewArray kind sizes more) = codes "new" ∷ (type_words kind ++ (sizes_words sizes ++ pairs_words more))
  exp_words (Cast kind value) = enclosed (type_words kind) ++ operand_words (is_atom (shape value)) (exp_words value)
  exp_words (InstanceOf value kind) = operand_words (is_atom (shape value)) (exp_words value) ++ codes "instanceof" ∷ type_words kind
  exp_words (Negative value) = codes "-" ∷ operand_words (is_negated (shape value)) (exp_words value)
  exp_words (Not value) = codes "!" ∷ operand_words (is_atom (shape value)) (exp_words value)
  exp_words (Binary operator left right) =
      operand_words (is_atom (shape left)) (exp_words left)
      ++ operator_text operator ∷ operand_words (is_atom (shape right)) (exp_words right)
  exp_words (Choice test first second) =
      operand_words (is_atom (shape test)) (exp_words test)
      ++ codes "?" ∷ (operand_words (is_atom (shape first)) (exp_words first)
      ++ codes ":" ∷ operand_words (is_atom (shape second)) (exp_words second))
  exp_words (Assign variable value) = variable_name variable ∷ codes "=" ∷ exp_words value

  -- the words of arguments
  pub arguments_words : Exps → Words
  arguments_words NoExps = []
  arguments_words (AndExp first rest) = exp_words first ++ more_words rest

  -- the words of arguments, each with the comma before it
  pub more_words : Exps → Words
  more_words NoExps = []
  more_words (AndExp first rest) = codes "," ∷ (exp_words first ++ more_words rest)

  -- the words of sizes, each in brackets
  pub sizes_words : Exps → Words
  sizes_words NoExps = []
  sizes_words (AndExp first rest) = codes "[" ∷ (exp_words first ++ codes "]" ∷ sizes_words rest)
