-- What every variable has each variable of a tree has.
use Rattle.std.proofs.Common.{Option, Some, None}
use Rattle.dj_syntax.specs.declared.variable.Var.{Var}
use Rattle.dj_syntax.specs.Trees.{Exp, Text, Truth, This, Variable, ClassOf, Field, Static, Element, Call, StaticCall, SuperCall, New, NewArray, Cast, InstanceOf, Negative, Not, Binary, Choice, Assign, Exps, NoExps, AndExp, Stm, Block, Labelled, Declare, Set, SetField, SetStatic, SetElement, Run, If, While, Switch, Break, Continue, Return, Throw, Rethrow, Try, Synchronized, Construct, Do, For, Finally, Stms, Empty, And, Groups, NoGroups, AndGroup, Catches, NoCatches, AndCatch}
use Rattle.dj_syntax.specs.Trees as trees
use Rattle.dj_meaning.specs.Variables.{EachInExp, EachInExps, EachInOption, EachInStm, EachInStms, EachInGroups, EachInCatches}

module _ {Has : Var → Type 0} (has : (variable : Var) → Has variable) where
  mutual
    pub each-exp : (exp : Exp) → EachInExp Has exp
    each-exp (trees.Int number) = tt
    each-exp (trees.Long number) = tt
    each-exp (Text units) = tt
    each-exp (Truth known) = tt
    each-exp trees.Null = tt
    each-exp This = tt
    each-exp (Variable variable) = has variable
    each-exp (ClassOf kind) = tt
    each-exp (Field object name) = each-exp object
    each-exp (Static class name) = tt
    each-exp (Element array index) = (each-exp array, each-exp index)
    each-exp (Call object name arguments) = (each-exp object, each-exps arguments)
    each-exp (StaticCall class name arguments) = each-exps arguments
    each-exp (SuperCall above name arguments) = each-exps arguments
    each-exp (New class arguments) = each-exps arguments
    each-exp (NewArray kind sizes more) = each-exps sizes
    each-exp (Cast kind operand) = each-exp operand
    each-exp (InstanceOf operand kind) = each-exp operand
    each-exp (Negative operand) = each-exp operand
    each-exp (Not operand) = each-exp operand
    each-exp (Binary operator left right) = (each-exp left, each-exp right)
    each-exp (Choice test first second) = (each-exp test, each-exp first, each-exp second)
    each-exp (Assign variable new) = (has variable, each-exp new)

    each-exps : (exps : Exps) → EachInExps Has exps
    each-exps NoExps = tt
    each-exps (AndExp first rest) = (each-exp first, each-exps rest)

  each-option : (found : Option Exp) → EachInOption Has found
  each-option None = tt
  each-option (Some exp) = each-exp exp

  mutual
    pub each-stm : (stm : Stm) → EachInStm Has stm
    each-stm (Block list) = each-stms list
    each-stm (Labelled label statement) = each-stm statement
    each-stm (Declare variable kind initial) = (has variable, each-option initial)
    each-stm (Set variable new) = (has variable, each-exp new)
    each-stm (SetField object name new) = (each-exp object, each-exp new)
    each-stm (SetStatic class name new) = each-exp new
    each-stm (SetElement array index new) = (each-exp array, each-exp index, each-exp new)
    each-stm (Run call) = each-exp call
    each-stm (If test first second) = (each-exp test, each-stms first, each-stms second)
    each-stm (While test body) = (each-exp test, each-stms body)
    each-stm (Switch on cases) = (each-exp on, each-groups cases)
    each-stm (Break label) = tt
    each-stm (Continue label) = tt
    each-stm (Return result) = each-option result
    each-stm (Throw exception) = each-exp exception
    each-stm (Rethrow variable) = has variable
    each-stm (Try body clauses) = (each-stms body, each-catches clauses)
    each-stm (Synchronized monitor body) = (each-exp monitor, each-stms body)
    each-stm (Construct own arguments) = each-exps arguments
    each-stm (Do body test) = (each-stms body, each-exp test)
    each-stm (For test variable step body) = (each-exp test, has variable, each-exp step, each-stms body)
    each-stm (Finally body last) = (each-stms body, each-stms last)

    pub each-stms : (list : Stms) → EachInStms Has list
    each-stms Empty = tt
    each-stms (And first rest) = (each-stm first, each-stms rest)

    each-groups : (groups : Groups) → EachInGroups Has groups
    each-groups NoGroups = tt
    each-groups (AndGroup labels body rest) = (each-stms body, each-groups rest)

    each-catches : (clauses : Catches) → EachInCatches Has clauses
    each-catches NoCatches = tt
    each-catches (AndCatch class variable body rest) = (has variable, each-stms body, each-catches rest)
