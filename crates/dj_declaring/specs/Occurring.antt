-- The variables that a tree names, each once, in the order in which it names them first: those that have kinds, and those that hold states. A parameter, the
-- variable of a catch clause, and what the tree declares itself are none of them.
use Rattle.std.specs.Prelude.{◌≡◌, ℕ, Bool, true, false, ◌||◌, if◌then◌else◌, List, [], ◌∷◌, ◌++◌, map, slice_get, slice_set, Option, Some, None}
use Rattle.dj_names.specs.Types.{JType}
use Rattle.dj_syntax.specs.declared.variable.VarKind.{VarKind}
use Rattle.dj_syntax.specs.declared.variable.VarKind.TheVariants as kind
use Rattle.dj_syntax.specs.declared.variable.Var.{Var}
use Rattle.dj_syntax.specs.Trees.{Exp, Text, Truth, This, Variable, ClassOf, Field, Static, Element, Call, StaticCall, SuperCall, New, NewArray, Cast, InstanceOf, Negative, Not, Binary, Choice, Assign, Exps, NoExps, AndExp, Stm, Block, Labelled, Declare, Set, SetField, SetStatic, SetElement, Run, If, While, Switch, Break, Continue, Return, Throw, Rethrow, Try, Synchronized, Construct, Do, For, Finally, Stms, Empty, And, Groups, NoGroups, AndGroup, Catches, NoCatches, AndCatch}
use Rattle.dj_syntax.specs.Trees as trees
use Rattle.dj_meaning.specs.StaticTypes.{is_same_variable}
use Rattle.dj_meaning.specs.Variables.{EachInStms}
use Rattle.dj_declaring.specs.declared.found.Found.{Found}

-- ---- one variable

-- nothing is found yet of the variables that have these kinds
abbrev pub nothing_found : List JType → Found
nothing_found kinds = record { seen = map (λ (type : JType). false) kinds; locals = []; states = [] }

-- a variable is one of these
abbrev pub is_among : Var → List Var → Bool
is_among variable [] = false
is_among variable (first ∷ rest) = is_same_variable first variable || is_among variable rest

-- a variable that may have a kind, given whether it was found before: None where it has none
abbrev pub noted_local : Var → Option Bool → Found → Found
noted_local variable None found = found
noted_local variable (Some true) found = found
noted_local variable (Some false) found = record { seen = slice_set found.seen variable.number true; locals = found.locals ++ variable ∷ []; states = found.states }

-- a variable that holds a state
abbrev pub noted_state : Var → Found → Found
noted_state variable found =
    if is_among variable found.states then found else record { seen = found.seen; locals = found.locals; states = found.states ++ variable ∷ [] }

-- a variable
abbrev pub noted : Var → Found → Found
noted variable found = by_kind variable.kind
  where
    by_kind : VarKind → Found
    by_kind kind.Param = found
    by_kind kind.Local = noted_local variable (slice_get found.seen variable.number) found
    by_kind kind.Caught = found
    by_kind kind.State = noted_state variable found

-- ---- trees

abbrev mutual
  -- what is found behind an expression
  pub exp_found : Exp → Found → Found
  exp_found (trees.Int number) found = found
  exp_found (trees.Long number) found = found
  exp_found (Text units) found = found
  exp_found (Truth known) found = found
  exp_found trees.Null found = found
  exp_found This found = found
  exp_found (Variable variable) found = noted variable found
  exp_found (ClassOf type) found = found
  exp_found (Field object name) found = exp_found object found
  exp_found (Static class name) found = found
  exp_found (Element array index) found = exp_found index (exp_found array found)
  exp_found (Call object name arguments) found = exps_found arguments (exp_found object found)
  exp_found (StaticCall class name arguments) found = exps_found arguments found
  exp_found (SuperCall above name arguments) found = exps_found arguments found
  exp_found (New class arguments) found = exps_found arguments found
  exp_found (NewArray type sizes more) found = exps_found sizes found
  exp_found (Cast type operand) found = exp_found operand found
  exp_found (InstanceOf operand type) found = exp_found operand found
  exp_found (Negative operand) found = exp_found operand found
  exp_found (Not operand) found = exp_found operand found
  exp_found (Binary operator left right) found = exp_found right (exp_found left found)
  exp_found (Choice test first second) found = exp_found second (exp_found first (exp_found test found))
  exp_found (Assign variable new) found = exp_found new (noted variable found)

  -- behind expressions
  pub exps_found : Exps → Found → Found
  exps_found NoExps found = found
  exps_found (AndExp first rest) found = exps_found rest (exp_found first found)

-- behind an expression that may be left out
abbrev pub option_found : Option Exp → Found → Found
option_found None found = found
option_found (Some exp) found = exp_found exp found

abbrev mutual
  -- behind a statement
  pub stm_found : Stm → Found → Found
  stm_found (Block list) found = stms_found list found
  stm_found (Labelled label statement) found = stm_found statement found
  stm_found (Declare variable type initial) found = option_found initial (noted variable found)
  stm_found (Set variable new) found = exp_found new (noted variable found)
  stm_found (SetField object name new) found = exp_found new (exp_found object found)
  stm_found (SetStatic class name new) found = exp_found new found
  stm_found (SetElement array index new) found = exp_found new (exp_found index (exp_found array found))
  stm_found (Run call) found = exp_found call found
  stm_found (If test first second) found = stms_found second (stms_found first (exp_found test found))
  stm_found (While test body) found = stms_found body (exp_found test found)
  stm_found (Switch on groups) found = groups_found groups (exp_found on found)
  stm_found (Break label) found = found
  stm_found (Continue label) found = found
  stm_found (Return result) found = option_found result found
  stm_found (Throw exception) found = exp_found exception found
  stm_found (Rethrow variable) found = noted variable found
  stm_found (Try body clauses) found = catches_found clauses (stms_found body found)
  stm_found (Synchronized monitor body) found = stms_found body (exp_found monitor found)
  stm_found (Construct own arguments) found = exps_found arguments found
  stm_found (Do body test) found = exp_found test (stms_found body found)
  stm_found (For test variable step body) found = stms_found body (exp_found step (noted variable (exp_found test found)))
  stm_found (Finally body last) found = stms_found last (stms_found body found)

  -- behind statements
  pub stms_found : Stms → Found → Found
  stms_found Empty found = found
  stms_found (And first rest) found = stms_found rest (stm_found first found)

  -- behind the groups of a switch
  pub groups_found : Groups → Found → Found
  groups_found NoGroups found = found
  groups_found (AndGroup labels body rest) found = groups_found rest (stms_found body found)

  -- behind catch clauses
  pub catches_found : Catches → Found → Found
  catches_found NoCatches found = found
  catches_found (AndCatch class variable body rest) found = catches_found rest (stms_found body (noted variable found))

-- all that are found
abbrev pub variables_of : Found → List Var
variables_of found = found.locals ++ found.states

-- ---- the law

-- a variable without a kind isn't looked for
abbrev pub is_marked : Option Bool → Bool
is_marked None = true
is_marked (Some mark) = mark

-- a variable is found, or isn't looked for
abbrev pub covers : Found → Var → Bool
covers found variable = by_kind variable.kind
  where
    by_kind : VarKind → Bool
    by_kind kind.Param = true
    by_kind kind.Local = is_marked (slice_get found.seen variable.number)
    by_kind kind.Caught = true
    by_kind kind.State = is_among variable found.states

-- each variable that statements name is found behind them, or isn't looked for
abbrev pub OccurringAreFound : Type 0
OccurringAreFound = (list : Stms) (found : Found) → EachInStms (λ variable. covers (stms_found list found) variable ≡ true) list
