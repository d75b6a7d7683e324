-- The text of statements: lines at their level, inner lists one level deeper, at most twenty levels (JLS 14).
use Rattle.std.specs.Prelude.{ℕ, ℤ, ◌+◌, min, Bool, true, false, if◌then◌else◌, List, [], ◌∷◌, ◌++◌, Option, Some, None, codes}
use Rattle.std.specs.List.{flat_map}
use Rattle.dj_names.specs.Types.{JType}
use Rattle.dj_syntax.specs.declared.variable.Var.{Var}
use Rattle.dj_syntax.specs.Trees.{Exp, Stm, Block, Labelled, Declare, Set, SetField, SetStatic, SetElement, Run, If, While, Switch, Break, Continue, Return, Throw, Rethrow, Try, Synchronized, Construct, Do, For, Finally, Stms, Empty, And, Groups, NoGroups, AndGroup, Catches, NoCatches, AndCatch}
use Rattle.dj_syntax.specs.Trees as trees
use Rattle.dj_syntax.specs.Items.{Item, Space, Line}
use Rattle.dj_syntax.specs.NameText.{Spellings, word, sign, dotted, variable_name, label_name, type_items}
use Rattle.dj_syntax.specs.ExpText.{int_items, parenthesised, exp_items, arguments_items}

-- ---- parts of statements

-- one level deeper; the twentieth is the deepest
abbrev pub deeper : ℕ → ℕ
deeper depth = min (depth + 1) 20

-- what is stored, and the end of its statement
abbrev pub stored_items : Spellings → Exp → List Item
stored_items names value = Space ∷ sign (codes "=") ∷ Space ∷ (exp_items names value ++ sign (codes ";") ∷ [])

-- the first value of a variable or a field, where it has one, and the end of its declaration
abbrev pub value_items : Spellings → Option Exp → List Item
value_items names None = sign (codes ";") ∷ []
value_items names (Some value) = stored_items names value

-- what a `return` answers, where it answers something, and its end
abbrev pub answer_items : Spellings → Option Exp → List Item
answer_items names None = sign (codes ";") ∷ []
answer_items names (Some value) = Space ∷ (exp_items names value ++ sign (codes ";") ∷ [])

-- lines in braces, the last of which stands on a line at this level
abbrev pub braced : ℕ → List Item → List Item
braced depth lines = sign (codes "{") ∷ (lines ++ Line depth ∷ sign (codes "}") ∷ [])

-- a keyword, an expression in parentheses, and lines in braces
abbrev pub headed : Spellings → List ℕ → Exp → ℕ → List Item → List Item
headed names keyword value depth lines =
    word keyword ∷ Space ∷ (parenthesised (exp_items names value) ++ Space ∷ braced depth lines)

-- whether a list has no statement
abbrev pub is_empty : Stms → Bool
is_empty Empty = true
is_empty (And first rest) = false

-- the `else` of an `if`, unless its list is empty
abbrev pub else_items : Bool → ℕ → List Item → List Item
else_items true depth lines = []
else_items false depth lines = Space ∷ word (codes "else") ∷ Space ∷ braced depth lines

-- a label of a switch on a line at this level: a number, or None for `default`
abbrev pub case_items : ℕ → Option ℤ → List Item
case_items depth None = Line depth ∷ word (codes "default") ∷ sign (codes ":") ∷ []
case_items depth (Some number) = Line depth ∷ word (codes "case") ∷ Space ∷ (int_items number ++ sign (codes ":") ∷ [])

-- a throw through the helper, named in the unit's own class, at a type that isn't checked
abbrev pub rethrow_items : Spellings → Var → List Item
rethrow_items names variable =
    word (codes "throw") ∷ Space ∷ (names.class_name names.class ++ sign (codes ".") ∷ sign (codes "<")
    ∷ (dotted (codes "java/lang/RuntimeException") ++ sign (codes ">") ∷ word names.helper
    ∷ (parenthesised (word (variable_name variable) ∷ []) ++ sign (codes ";") ∷ [])))

-- ---- statements

abbrev mutual
  -- a statement from its first word on; its further lines stand at this level
  pub stm_items : Spellings → ℕ → Stm → List Item
  stm_items names depth (Block list) = braced depth (stms_items names (deeper depth) list)
  stm_items names depth (Labelled label statement) =
      word (label_name label) ∷ sign (codes ":") ∷ Space ∷ stm_items names depth statement
  stm_items names depth (Declare variable kind value) =
      type_items names kind ++ Space ∷ word (variable_name variable) ∷ value_items names value
  stm_items names depth (Set variable value) = word (variable_name variable) ∷ stored_items names value
  stm_items names depth (SetField object name value) = exp_items names (trees.Field object name) ++ stored_items names value
  stm_items names depth (SetStatic class name value) = exp_items names (trees.Static class name) ++ stored_items names value
  stm_items names depth (SetElement array index value) = exp_items names (trees.Element array index) ++ stored_items names value
  stm_items names depth (Run call) = exp_items names call ++ sign (codes ";") ∷ []
  stm_items names depth (If test first second) =
      headed names (codes "if") test depth (stms_items names (deeper depth) first)
      ++ else_items (is_empty second) depth (stms_items names (deeper depth) second)
  stm_items names depth (While test body) = headed names (codes "while") test depth (stms_items names (deeper depth) body)
  stm_items names depth (Switch value groups) = headed names (codes "switch") value depth (groups_items names (deeper depth) groups)
  stm_items names depth (Break label) = word (codes "break") ∷ Space ∷ word (label_name label) ∷ sign (codes ";") ∷ []
  stm_items names depth (Continue label) = word (codes "continue") ∷ Space ∷ word (label_name label) ∷ sign (codes ";") ∷ []
  stm_items names depth (Return value) = word (codes "return") ∷ answer_items names value
  stm_items names depth (Throw value) = word (codes "throw") ∷ Space ∷ (exp_items names value ++ sign (codes ";") ∷ [])
  stm_items names depth (Rethrow variable) = rethrow_items names variable
  stm_items names depth (Try body catches) =
      word (codes "try") ∷ Space ∷ (braced depth (stms_items names (deeper depth) body) ++ catches_items names depth catches)
  stm_items names depth (Synchronized monitor body) =
      headed names (codes "synchronized") monitor depth (stms_items names (deeper depth) body)
  stm_items names depth (Construct own arguments) =
      word (if own then codes "this" else codes "super")
      ∷ (parenthesised (arguments_items names arguments) ++ sign (codes ";") ∷ [])
  stm_items names depth (Do body test) =
      word (codes "do") ∷ Space ∷ (braced depth (stms_items names (deeper depth) body)
      ++ Space ∷ word (codes "while") ∷ Space ∷ (parenthesised (exp_items names test) ++ sign (codes ";") ∷ []))
  stm_items names depth (For test variable step body) =
      word (codes "for") ∷ Space ∷ sign (codes "(") ∷ sign (codes ";") ∷ Space ∷ (exp_items names test ++ sign (codes ";") ∷ Space
      ∷ word (variable_name variable) ∷ Space ∷ sign (codes "=") ∷ Space ∷ (exp_items names step ++ sign (codes ")") ∷ Space
      ∷ braced depth (stms_items names (deeper depth) body)))
  stm_items names depth (Finally body last) =
      word (codes "try") ∷ Space ∷ (braced depth (stms_items names (deeper depth) body)
      ++ Space ∷ word (codes "finally") ∷ Space ∷ braced depth (stms_items names (deeper depth) last))

  -- statements at this level, each on a line of its own with the line end before it
  pub stms_items : Spellings → ℕ → Stms → List Item
  stms_items names depth Empty = []
  stms_items names depth (And first rest) = Line depth ∷ (stm_items names depth first ++ stms_items names depth rest)

  -- groups of a switch: labels at this level, statements one level deeper
  pub groups_items : Spellings → ℕ → Groups → List Item
  groups_items names depth NoGroups = []
  groups_items names depth (AndGroup labels body rest) =
      flat_map (case_items depth) labels ++ (stms_items names (deeper depth) body ++ groups_items names depth rest)

  -- catch clauses, each behind the brace before it
  pub catches_items : Spellings → ℕ → Catches → List Item
  catches_items names depth NoCatches = []
  catches_items names depth (AndCatch class variable body rest) =
      Space ∷ word (codes "catch") ∷ Space ∷ (parenthesised (names.class_name class ++ Space ∷ word (variable_name variable) ∷ [])
      ++ Space ∷ (braced depth (stms_items names (deeper depth) body) ++ catches_items names depth rest))
