-- Which parts of a body give a variable a value, or declare it anew (JLS 4.12.4): one that nothing does this to is effectively final.
use Rattle.std.specs.Prelude.{Bool, false, ◌||◌, Option, Some, None}
use Rattle.dj_syntax.specs.declared.variable.Var.{Var}
use Rattle.dj_syntax.specs.Trees.{Exp, Text, Truth, Null, This, Variable, ClassOf, Field, Static, Element, Call, StaticCall, SuperCall, New, NewArray, Cast, InstanceOf, Negative, Not, Binary, Choice, Assign, Exps, NoExps, AndExp, Stm, Block, Labelled, Declare, Set, SetField, SetStatic, SetElement, Run, If, While, Switch, Break, Continue, Return, Throw, Rethrow, Try, Synchronized, Construct, Do, For, Finally, Stms, Empty, And, Groups, NoGroups, AndGroup, Catches, NoCatches, AndCatch}
use Rattle.dj_syntax.specs.Trees as trees
use Rattle.dj_meaning.specs.StaticTypes.{is_same_variable}

abbrev mutual
  -- an expression does
  pub exp_sets : Var → Exp → Bool
  exp_sets wanted (trees.Int number) = false
  exp_sets wanted (trees.Long number) = false
  exp_sets wanted (Text units) = false
  exp_sets wanted (Truth known) = false
  exp_sets wanted Null = false
  exp_sets wanted This = false
  exp_sets wanted (Variable variable) = false
  exp_sets wanted (ClassOf kind) = false
  exp_sets wanted (Field object name) = exp_sets wanted object
  exp_sets wanted (Static class name) = false
  exp_sets wanted (Element array index) = exp_sets wanted array || exp_sets wanted index
  exp_sets wanted (Call object name arguments) = exp_sets wanted object || exps_set wanted arguments
  exp_sets wanted (StaticCall class name arguments) = exps_set wanted arguments
  exp_sets wanted (SuperCall above name arguments) = exps_set wanted arguments
  exp_sets wanted (New class arguments) = exps_set wanted arguments
  exp_sets wanted (NewArray kind sizes more) = exps_set wanted sizes
  exp_sets wanted (Cast kind operand) = exp_sets wanted operand
  exp_sets wanted (InstanceOf operand kind) = exp_sets wanted operand
  exp_sets wanted (Negative operand) = exp_sets wanted operand
  exp_sets wanted (Not operand) = exp_sets wanted operand
  exp_sets wanted (Binary operator left right) = exp_sets wanted left || exp_sets wanted right
  exp_sets wanted (Choice test first second) = exp_sets wanted test || (exp_sets wanted first || exp_sets wanted second)
  exp_sets wanted (Assign variable new) = is_same_variable variable wanted || exp_sets wanted new

  pub exps_set : Var → Exps → Bool
  exps_set wanted NoExps = false
  exps_set wanted (AndExp first rest) = exp_sets wanted first || exps_set wanted rest

-- an expression, if there is one, assigns the variable
abbrev pub option_sets : Var → Option Exp → Bool
option_sets wanted None = false
option_sets wanted (Some exp) = exp_sets wanted exp

abbrev mutual
  -- a statement does
  pub sets : Var → Stm → Bool
  sets wanted (Block list) = list_sets wanted list
  sets wanted (Labelled label statement) = sets wanted statement
  sets wanted (Declare variable kind initial) = is_same_variable variable wanted || option_sets wanted initial
  sets wanted (Set variable new) = is_same_variable variable wanted || exp_sets wanted new
  sets wanted (SetField object name new) = exp_sets wanted object || exp_sets wanted new
  sets wanted (SetStatic class name new) = exp_sets wanted new
  sets wanted (SetElement array index new) = exp_sets wanted array || (exp_sets wanted index || exp_sets wanted new)
  sets wanted (Run call) = exp_sets wanted call
  sets wanted (If test first second) = exp_sets wanted test || (list_sets wanted first || list_sets wanted second)
  sets wanted (While test body) = exp_sets wanted test || list_sets wanted body
  sets wanted (Switch on groups) = exp_sets wanted on || groups_set wanted groups
  sets wanted (Break label) = false
  sets wanted (Continue label) = false
  sets wanted (Return result) = option_sets wanted result
  sets wanted (Throw exception) = exp_sets wanted exception
  sets wanted (Rethrow variable) = false
  sets wanted (Try body catches) = list_sets wanted body || catches_set wanted catches
  sets wanted (Synchronized monitor body) = exp_sets wanted monitor || list_sets wanted body
  sets wanted (Construct own arguments) = exps_set wanted arguments
  sets wanted (Do body test) = list_sets wanted body || exp_sets wanted test
  sets wanted (For test variable step body) = is_same_variable variable wanted || (exp_sets wanted test || (exp_sets wanted step || list_sets wanted body))
  sets wanted (Finally body last) = list_sets wanted body || list_sets wanted last

  pub list_sets : Var → Stms → Bool
  list_sets wanted Empty = false
  list_sets wanted (And first rest) = sets wanted first || list_sets wanted rest

  pub groups_set : Var → Groups → Bool
  groups_set wanted NoGroups = false
  groups_set wanted (AndGroup labels body rest) = list_sets wanted body || groups_set wanted rest

  pub catches_set : Var → Catches → Bool
  catches_set wanted NoCatches = false
  catches_set wanted (AndCatch class variable body rest) = is_same_variable variable wanted || (list_sets wanted body || catches_set wanted rest)
