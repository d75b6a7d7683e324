-- The words of statements (JLS 14).
use Rattle.std.specs.Prelude.{ℕ, ℤ, Bool, true, false, if◌then◌else◌, List, [], ◌∷◌, ◌++◌, Option, Some, None, codes}
use Rattle.std.specs.List.{flat_map}
use Rattle.dj_syntax.specs.declared.variable.Var.{Var}
use Rattle.dj_syntax.specs.Trees.{Exp, Stm, Block, Labelled, Declare, Set, SetField, SetStatic, SetElement, Run, If, While, Switch, Break, Continue, Return, Throw, Rethrow, Try, Synchronized, Construct, Do, For, Finally, Stms, Empty, And, Groups, NoGroups, AndGroup, Catches, NoCatches, AndCatch}
use Rattle.dj_syntax.specs.Trees as trees
use Rattle.dj_syntax.specs.UnitText.{Spellings, variable_name, label_name, is_empty}
use Rattle.dj_tokens.specs.Words.{Words}
use Rattle.dj_grammar.proofs.NamesAreRead.{name_words}
use Rattle.dj_grammar.proofs.TypesAreRead.{type_words}
use Rattle.dj_grammar.proofs.ExpressionWords.{enclosed, int_words, exp_words, arguments_words}

-- the words of what is stored, and the end of its statement
abbrev pub stored_words : Exp → Words
stored_words value = codes "=" ∷ (exp_words value ++ codes ";" ∷ [])

-- the words of a first value, where there is one, and the end of its declaration
abbrev pub value_words : Option Exp → Words
value_words None = codes ";" ∷ []
value_words (Some value) = stored_words value

-- the words of what a `return` answers, and its end
abbrev pub answer_words : Option Exp → Words
answer_words None = codes ";" ∷ []
answer_words (Some value) = exp_words value ++ codes ";" ∷ []

-- words in braces
abbrev pub braced_words : Words → Words
braced_words inside = codes "{" ∷ (inside ++ codes "}" ∷ [])

-- a keyword, an expression in parentheses, and words in braces
abbrev pub headed_words : List ℕ → Exp → Words → Words
headed_words keyword value inside = keyword ∷ (enclosed (exp_words value) ++ braced_words inside)

-- the words of an `else`, unless its list is empty
abbrev pub else_words : Bool → Words → Words
else_words true inside = []
else_words false inside = codes "else" ∷ braced_words inside

-- the words of a label of a switch
abbrev pub case_words : Option ℤ → Words
case_words None = codes "default" ∷ codes ":" ∷ []
case_words (Some number) = codes "case" ∷ (int_words number ++ codes ":" ∷ [])

-- the words of the type at which the helper is called
abbrev pub runtime_words : Words
runtime_words = codes "java" ∷ codes "." ∷ codes "lang" ∷ codes "." ∷ codes "RuntimeException" ∷ []

-- the words of a throw through the helper
abbrev pub rethrow_words : Spellings → Var → Words
rethrow_words names variable =
    codes "throw" ∷ (name_words names.class ++ codes "." ∷ codes "<"
    ∷ (runtime_words ++ codes ">" ∷ names.helper ∷ (enclosed (variable_name variable ∷ []) ++ codes ";" ∷ [])))

abbrev mutual
  -- the words of a statement
  pub stm_words : Spellings → Stm → Words
  stm_words names (Block list) = braced_words (stms_words names list)
  stm_words names (Labelled label statement) = label_name label ∷ codes ":" ∷ stm_words names statement
  stm_words names (Declare variable kind value) = type_words kind ++ variable_name variable ∷ value_words value
  stm_words names (Set variable value) = variable_name variable ∷ stored_words value
  stm_words names (SetField object name value) = exp_words (trees.Field object name) ++ stored_words value
  stm_words names (SetStatic class name value) = exp_words (trees.Static class name) ++ stored_words value
  stm_words names (SetElement array index value) = exp_words (trees.Element array index) ++ stored_words value
  stm_words names (Run call) = exp_words call ++ codes ";" ∷ []
  stm_words names (If test first second) =
      headed_words (codes "if") test (stms_words names first) ++ else_words (is_empty second) (stms_words names second)
  stm_words names (While test body) = headed_words (codes "while") test (stms_words names body)
  stm_words names (Switch value groups) = headed_words (codes "switch") value (groups_words names groups)
  stm_words names (Break label) = codes "break" ∷ label_name label ∷ codes ";" ∷ []
  stm_words names (Continue label) = codes "continue" ∷ label_name label ∷ codes ";" ∷ []
  stm_words names (Return value) = codes "return" ∷ answer_words value
  stm_words names (Throw value) = codes "throw" ∷ (exp_words value ++ codes ";" ∷ [])
  stm_words names (Rethrow variable) = rethrow_words names variable
  stm_words names (Try body catches) = codes "try" ∷ (braced_words (stms_words names body) ++ catches_words names catches)
  stm_words names (Synchronized monitor body) = headed_words (codes "synchronized") monitor (stms_words names body)
  stm_words names (Construct own arguments) =
      (if own then codes "this" else codes "super") ∷ (enclosed (arguments_words arguments) ++ codes ";" ∷ [])
  stm_words names (Do body test) =
      codes "do" ∷ (braced_words (stms_words names body) ++ codes "while" ∷ (enclosed (exp_words test) ++ codes ";" ∷ []))
  stm_words names (For test variable step body) =
      codes "for" ∷ codes "(" ∷ codes ";" ∷ (exp_words test ++ codes ";" ∷ variable_name variable ∷ codes "="
      ∷ (exp_words step ++ codes ")" ∷ braced_words (stms_words names body)))
  stm_words names (Finally body last) =
      codes "try" ∷ (braced_words (stms_words names body) ++ codes "finally" ∷ braced_words (stms_words names last))

  -- the words of statements, in order
  pub stms_words : Spellings → Stms → Words
  stms_words names Empty = []
  stms_words names (And first rest) = stm_words names first ++ stms_words names rest

  -- the words of groups
  pub groups_words : Spellings → Groups → Words
  groups_words names NoGroups = []
  groups_words names (AndGroup labels body rest) =
      flat_map case_words labels ++ (stms_words names body ++ groups_words names rest)

  -- the words of catch clauses
  pub catches_words : Spellings → Catches → Words
  catches_words names NoCatches = []
  catches_words names (AndCatch class variable body rest) =
      codes "catch" ∷ (enclosed (name_words class ++ variable_name variable ∷ [])
      ++ (braced_words (stms_words names body) ++ catches_words names rest))
