-- The weight of trees: how many statements and expressions they have.
use Rattle.std.specs.Prelude.{ℕ, ◌+◌, min, Option, Some, None}
use Rattle.dj_syntax.specs.Trees.{Exp, Text, Truth, Null, This, Variable, ClassOf, Static, Element, Call, StaticCall, SuperCall, New, NewArray, Cast, InstanceOf, Negative, Not, Binary, Choice, Assign, Exps, NoExps, AndExp, Stm, Block, Labelled, Declare, Set, SetField, SetStatic, SetElement, Run, If, While, Switch, Break, Continue, Return, Throw, Rethrow, Try, Synchronized, Construct, Do, For, Finally, Stms, Empty, And, Groups, NoGroups, AndGroup, Catches, NoCatches, AndCatch}
use Rattle.dj_syntax.specs.Trees as trees

-- the greatest number that a weight is told as: 2 ^ 64 - 1
abbrev pub most_weight : ℕ
most_weight = 18446744073709551615

-- a weight as it is told: itself, or the greatest number where it is more
abbrev pub told_weight : ℕ → ℕ
told_weight weight = min weight most_weight

abbrev mutual
  -- an expression and those in it
  pub weight_of_exp : Exp → ℕ
  weight_of_exp (trees.Int value) = 1
  weight_of_exp (trees.Long value) = 1
  weight_of_exp (Text units) = 1
  weight_of_exp (Truth value) = 1
  weight_of_exp Null = 1
  weight_of_exp This = 1
  weight_of_exp (Variable variable) = 1
  weight_of_exp (ClassOf kind) = 1
  weight_of_exp (trees.Field object name) = 1 + weight_of_exp object
  weight_of_exp (Static class name) = 1
  weight_of_exp (Element array index) = 1 + (weight_of_exp array + weight_of_exp index)
  weight_of_exp (Call object name arguments) = 1 + (weight_of_exp object + weight_of_exps arguments)
  weight_of_exp (StaticCall class name arguments) = 1 + weight_of_exps arguments
  weight_of_exp (SuperCall above name arguments) = 1 + weight_of_exps arguments
  weight_of_exp (New class arguments) = 1 + weight_of_exps arguments
  weight_of_exp (NewArray kind sizes more) = 1 + weight_of_exps sizes
  weight_of_exp (Cast kind operand) = 1 + weight_of_exp operand
  weight_of_exp (InstanceOf operand kind) = 1 + weight_of_exp operand
  weight_of_exp (Negative operand) = 1 + weight_of_exp operand
  weight_of_exp (Not operand) = 1 + weight_of_exp operand
  weight_of_exp (Binary operator left right) = 1 + (weight_of_exp left + weight_of_exp right)
  weight_of_exp (Choice test first second) = 1 + (weight_of_exp test + (weight_of_exp first + weight_of_exp second))
  weight_of_exp (Assign variable value) = 1 + weight_of_exp value

  -- expressions, together
  pub weight_of_exps : Exps → ℕ
  weight_of_exps NoExps = 0
  weight_of_exps (AndExp first rest) = weight_of_exp first + weight_of_exps rest

-- an expression, where there is one
abbrev pub weight_of_value : Option Exp → ℕ
weight_of_value None = 0
weight_of_value (Some value) = weight_of_exp value

abbrev mutual
  -- a statement, and the statements and expressions in it
  pub weight_of : Stm → ℕ
  weight_of (Block list) = 1 + weight_of_stms list
  weight_of (Labelled label statement) = 1 + weight_of statement
  weight_of (Declare variable kind value) = 1 + weight_of_value value
  weight_of (Set variable value) = 1 + weight_of_exp value
  weight_of (SetField object name value) = 1 + (weight_of_exp object + weight_of_exp value)
  weight_of (SetStatic class name value) = 1 + weight_of_exp value
  weight_of (SetElement array index value) = 1 + (weight_of_exp array + (weight_of_exp index + weight_of_exp value))
  weight_of (Run call) = 1 + weight_of_exp call
  weight_of (If test first second) = 1 + (weight_of_exp test + (weight_of_stms first + weight_of_stms second))
  weight_of (While test body) = 1 + (weight_of_exp test + weight_of_stms body)
  weight_of (Switch value groups) = 1 + (weight_of_exp value + weight_of_groups groups)
  weight_of (Break label) = 1
  weight_of (Continue label) = 1
  weight_of (Return value) = 1 + weight_of_value value
  weight_of (Throw value) = 1 + weight_of_exp value
  weight_of (Rethrow variable) = 1
  weight_of (Try body catches) = 1 + (weight_of_stms body + weight_of_catches catches)
  weight_of (Synchronized monitor body) = 1 + (weight_of_exp monitor + weight_of_stms body)
  weight_of (Construct own arguments) = 1 + weight_of_exps arguments
  weight_of (Do body test) = 1 + (weight_of_stms body + weight_of_exp test)
  weight_of (For test variable step body) = 1 + (weight_of_exp test + (weight_of_exp step + weight_of_stms body))
  weight_of (Finally body last) = 1 + (weight_of_stms body + weight_of_stms last)

  -- statements, together
  pub weight_of_stms : Stms → ℕ
  weight_of_stms Empty = 0
  weight_of_stms (And first rest) = weight_of first + weight_of_stms rest

  -- the statements of groups, together
  pub weight_of_groups : Groups → ℕ
  weight_of_groups NoGroups = 0
  weight_of_groups (AndGroup labels body rest) = weight_of_stms body + weight_of_groups rest

  -- the statements of catch clauses, together
  pub weight_of_catches : Catches → ℕ
  weight_of_catches NoCatches = 0
  weight_of_catches (AndCatch class variable body rest) = weight_of_stms body + weight_of_catches rest
