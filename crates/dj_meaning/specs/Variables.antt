-- The variables that a tree names, each of which has a property.
use Rattle.std.specs.Prelude.{Option, Some, None}
use Rattle.dj_syntax.specs.declared.variable.Var.{Var}
use Rattle.dj_syntax.specs.Trees.{Exp, Text, Truth, This, Variable, ClassOf, Field, Static, Element, Call, StaticCall, SuperCall, New, NewArray, Cast, InstanceOf, Negative, Not, Binary, Choice, Assign, Exps, NoExps, AndExp, Stm, Block, Labelled, Declare, Set, SetField, SetStatic, SetElement, Run, If, While, Switch, Break, Continue, Return, Throw, Rethrow, Try, Synchronized, Construct, Do, For, Finally, Stms, Empty, And, Groups, NoGroups, AndGroup, Catches, NoCatches, AndCatch}
use Rattle.dj_syntax.specs.Trees as trees

abbrev mutual
  -- each variable that an expression names
  pub EachInExp : (Var → Type 0) → Exp → Type 0
  EachInExp Has (trees.Int number) = Unit {0}
  EachInExp Has (trees.Long number) = Unit {0}
  EachInExp Has (Text units) = Unit {0}
  EachInExp Has (Truth known) = Unit {0}
  EachInExp Has trees.Null = Unit {0}
  EachInExp Has This = Unit {0}
  EachInExp Has (Variable variable) = Has variable
  EachInExp Has (ClassOf kind) = Unit {0}
  EachInExp Has (Field object name) = EachInExp Has object
  EachInExp Has (Static class name) = Unit {0}
  EachInExp Has (Element array index) = EachInExp Has array × EachInExp Has index
  EachInExp Has (Call object name arguments) = EachInExp Has object × EachInExps Has arguments
  EachInExp Has (StaticCall class name arguments) = EachInExps Has arguments
  EachInExp Has (SuperCall above name arguments) = EachInExps Has arguments
  EachInExp Has (New class arguments) = EachInExps Has arguments
  EachInExp Has (NewArray kind sizes more) = EachInExps Has sizes
  EachInExp Has (Cast kind operand) = EachInExp Has operand
  EachInExp Has (InstanceOf operand kind) = EachInExp Has operand
  EachInExp Has (Negative operand) = EachInExp Has operand
  EachInExp Has (Not operand) = EachInExp Has operand
  EachInExp Has (Binary operator left right) = EachInExp Has left × EachInExp Has right
  EachInExp Has (Choice test first second) = EachInExp Has test × EachInExp Has first × EachInExp Has second
  EachInExp Has (Assign variable new) = Has variable × EachInExp Has new

  -- each that expressions name
  pub EachInExps : (Var → Type 0) → Exps → Type 0
  EachInExps Has NoExps = Unit {0}
  EachInExps Has (AndExp first rest) = EachInExp Has first × EachInExps Has rest

-- each that an expression names, where there is one
abbrev pub EachInOption : (Var → Type 0) → Option Exp → Type 0
EachInOption Has None = Unit {0}
EachInOption Has (Some exp) = EachInExp Has exp

abbrev mutual
  -- each variable that a statement names
  pub EachInStm : (Var → Type 0) → Stm → Type 0
  EachInStm Has (Block list) = EachInStms Has list
  EachInStm Has (Labelled label statement) = EachInStm Has statement
  EachInStm Has (Declare variable kind initial) = Has variable × EachInOption Has initial
  EachInStm Has (Set variable new) = Has variable × EachInExp Has new
  EachInStm Has (SetField object name new) = EachInExp Has object × EachInExp Has new
  EachInStm Has (SetStatic class name new) = EachInExp Has new
  EachInStm Has (SetElement array index new) = EachInExp Has array × EachInExp Has index × EachInExp Has new
  EachInStm Has (Run call) = EachInExp Has call
  EachInStm Has (If test first second) = EachInExp Has test × EachInStms Has first × EachInStms Has second
  EachInStm Has (While test body) = EachInExp Has test × EachInStms Has body
  EachInStm Has (Switch on cases) = EachInExp Has on × EachInGroups Has cases
  EachInStm Has (Break label) = Unit {0}
  EachInStm Has (Continue label) = Unit {0}
  EachInStm Has (Return result) = EachInOption Has result
  EachInStm Has (Throw exception) = EachInExp Has exception
  EachInStm Has (Rethrow variable) = Has variable
  EachInStm Has (Try body clauses) = EachInStms Has body × EachInCatches Has clauses
  EachInStm Has (Synchronized monitor body) = EachInExp Has monitor × EachInStms Has body
  EachInStm Has (Construct own arguments) = EachInExps Has arguments
  EachInStm Has (Do body test) = EachInStms Has body × EachInExp Has test
  EachInStm Has (For test variable step body) = EachInExp Has test × Has variable × EachInExp Has step × EachInStms Has body
  EachInStm Has (Finally body last) = EachInStms Has body × EachInStms Has last

  -- each that statements name
  pub EachInStms : (Var → Type 0) → Stms → Type 0
  EachInStms Has Empty = Unit {0}
  EachInStms Has (And first rest) = EachInStm Has first × EachInStms Has rest

  -- each that the groups of a switch name
  pub EachInGroups : (Var → Type 0) → Groups → Type 0
  EachInGroups Has NoGroups = Unit {0}
  EachInGroups Has (AndGroup labels body rest) = EachInStms Has body × EachInGroups Has rest

  -- each that catch clauses name
  pub EachInCatches : (Var → Type 0) → Catches → Type 0
  EachInCatches Has NoCatches = Unit {0}
  EachInCatches Has (AndCatch class variable body rest) = Has variable × EachInStms Has body × EachInCatches Has rest
