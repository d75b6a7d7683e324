-- What expressions and statements can throw (JLS 11.2.1, 11.2.2): classes of exceptions, each with the place of the call, the `new`, the call of a
-- constructor or the `throw` that throws it. `scope` and `held` are the variables in scope, and what catch variables hold there.
use Rattle.std.specs.Prelude.{ℕ, ◌+◌, Bool, not, List, [], ◌∷◌, ◌++◌, map, filter, Option, Some, None, option_and_then, if◌then◌else◌}
use Rattle.dj_names.specs.declared.header.Header.{Header}
use Rattle.dj_names.specs.Headers.{Name}
use Rattle.dj_names.specs.Types as types
use Rattle.dj_names.specs.Types.{JType, Boolean, Byte, Char, Short, Float, Double, Class, Array, StaticType, Of}
use Rattle.dj_syntax.specs.declared.variable.Var.{Var}
use Rattle.dj_syntax.specs.Trees.{Exp, Text, Truth, Null, This, Variable, ClassOf, Field, Static, Element, Call, StaticCall, SuperCall, New, NewArray, Cast, InstanceOf, Negative, Not, Binary, Choice, Assign, Exps, NoExps, AndExp, Stm, Block, Labelled, Declare, Set, SetField, SetStatic, SetElement, Run, If, While, Switch, Break, Continue, Return, Throw, Rethrow, Try, Synchronized, Construct, Do, For, Finally, Stms, Empty, And, Groups, NoGroups, AndGroup, Catches, NoCatches, AndCatch}
use Rattle.dj_syntax.specs.Trees as trees
use Rattle.dj_syntax.specs.Weight.{weight_of, weight_of_exp, weight_of_stms}
use Rattle.dj_values.specs.Deciding.{is_subclass}
use Rattle.dj_meaning.specs.StaticTypes.{Scope, is_same_variable, with_type, plain, type_of, types_of}
use Rattle.dj_meaning.specs.Declarations.{declared, within, behind}
use Rattle.dj_reach.specs.Reach.{list_completes}
use Rattle.dj_thrown.specs.declared.throwing.Throwing.{Throwing}
use Rattle.dj_thrown.specs.declared.throwing.Held.{Held}
use Rattle.dj_thrown.specs.Settings.{Setting, context_of, around}
use Rattle.dj_thrown.specs.Listed.{object_listed, class_listed, super_listed, new_listed, construct_listed}
use Rattle.dj_thrown.specs.Assigning.{list_sets}

-- ---- classes that are thrown

-- these classes, thrown at a place
abbrev pub thrown_at : ℕ → List Name → List Throwing
thrown_at place classes = map (λ class. record { place = place; class = class }) classes

-- of what is thrown, what a clause of a class takes (11.2.3)
abbrev pub taken : List Header → Name → List Throwing → List Throwing
taken headers class = filter (λ (thrown : Throwing). is_subclass headers thrown.class class)

-- and what it leaves
abbrev pub left : List Header → Name → List Throwing → List Throwing
left headers class = filter (λ (thrown : Throwing). not (is_subclass headers thrown.class class))

-- the classes of what is thrown
abbrev pub classes_of : List Throwing → List Name
classes_of thrown = map (λ (one : Throwing). one.class) thrown

-- ---- catch variables

-- the classes of what a catch variable holds, none where its clause assigns it
abbrev pub holding : List Header → Name → Var → Stms → List Throwing → Held
holding headers class variable body thrown = record {
  variable = variable;
  classes = if list_sets variable body then None else Some (classes_of (taken headers class thrown));
}

-- the later of two that there is
abbrev pub later : Option Held → Option Held → Option Held
later first None = first
later first (Some second) = Some second

-- it, if it is of this variable
abbrev pub of_variable : Var → Held → Option Held
of_variable variable one = if is_same_variable one.variable variable then Some one else None

-- the innermost clause of a variable, the last in the list
abbrev pub held_in : List Held → Var → Option Held
held_in [] variable = None
held_in (one ∷ rest) variable = later (of_variable variable one) (held_in rest variable)

-- the classes of what a variable holds, where it is a catch variable that nothing assigns
abbrev pub classes_in : List Held → Var → Option (List Name)
classes_in held variable = option_and_then (λ (one : Held). one.classes) (held_in held variable)

-- ---- `throw`

-- the variable that an expression is
abbrev pub variable_of : Exp → Option Var
variable_of (trees.Int number) = None
variable_of (trees.Long number) = None
variable_of (Text units) = None
variable_of (Truth known) = None
variable_of Null = None
variable_of This = None
variable_of (Variable variable) = Some variable
variable_of (ClassOf kind) = None
variable_of (Field object name) = None
variable_of (Static class name) = None
variable_of (Element array index) = None
variable_of (Call object name arguments) = None
variable_of (StaticCall class name arguments) = None
variable_of (SuperCall above name arguments) = None
variable_of (New class arguments) = None
variable_of (NewArray kind sizes more) = None
variable_of (Cast kind operand) = None
variable_of (InstanceOf operand kind) = None
variable_of (Negative operand) = None
variable_of (Not operand) = None
variable_of (Binary operator left right) = None
variable_of (Choice test first second) = None
variable_of (Assign variable new) = None

-- the class of a type
abbrev pub class_in : JType → List Name
class_in Boolean = []
class_in Byte = []
class_in Char = []
class_in Short = []
class_in types.Int = []
class_in types.Long = []
class_in Float = []
class_in Double = []
class_in (Class name) = name ∷ []
class_in (Array element) = []

-- the class of an expression's type, that of null being none
abbrev pub class_of : Option StaticType → List Name
class_of None = []
class_of (Some types.Null) = []
class_of (Some (Of type)) = class_in type

-- these classes, or else the class of an expression's type
abbrev pub or_class : Option (List Name) → Option StaticType → List Name
or_class None type = class_of type
or_class (Some classes) type = classes

-- what `throw` throws of an expression: the class of its type, or, of a catch variable that nothing assigns, what it holds (11.2.2)
abbrev pub throw_throws : Setting → List Held → Scope → Exp → List Name
throw_throws setting held scope exp = or_class (option_and_then (classes_in held) (variable_of exp)) (type_of (context_of setting) scope exp)

-- ---- expressions

abbrev mutual
  -- what an expression at a place can throw
  pub exp_throws : Setting → Scope → ℕ → Exp → List Throwing
  exp_throws setting scope place (trees.Int number) = []
  exp_throws setting scope place (trees.Long number) = []
  exp_throws setting scope place (Text units) = []
  exp_throws setting scope place (Truth known) = []
  exp_throws setting scope place Null = []
  exp_throws setting scope place This = []
  exp_throws setting scope place (Variable variable) = []
  exp_throws setting scope place (ClassOf kind) = []
  exp_throws setting scope place (Field object name) = exp_throws setting scope (place + 1) object
  exp_throws setting scope place (Static class name) = []
  exp_throws setting scope place (Element array index) =
      exp_throws setting scope (place + 1) array ++ exp_throws setting scope (place + 1 + weight_of_exp array) index
  exp_throws setting scope place (Call object name arguments) =
      thrown_at place (object_listed setting name (plain (type_of (context_of setting) scope object)) (types_of (context_of setting) scope arguments))
      ++ (exp_throws setting scope (place + 1) object ++ exps_throw setting scope (place + 1 + weight_of_exp object) arguments)
  exp_throws setting scope place (StaticCall class name arguments) =
      thrown_at place (class_listed setting class name (types_of (context_of setting) scope arguments)) ++ exps_throw setting scope (place + 1) arguments
  exp_throws setting scope place (SuperCall above name arguments) =
      thrown_at place (super_listed setting above name (types_of (context_of setting) scope arguments)) ++ exps_throw setting scope (place + 1) arguments
  exp_throws setting scope place (New class arguments) =
      thrown_at place (new_listed setting class (types_of (context_of setting) scope arguments)) ++ exps_throw setting scope (place + 1) arguments
  exp_throws setting scope place (NewArray kind sizes more) = exps_throw setting scope (place + 1) sizes
  exp_throws setting scope place (Cast kind operand) = exp_throws setting scope (place + 1) operand
  exp_throws setting scope place (InstanceOf operand kind) = exp_throws setting scope (place + 1) operand
  exp_throws setting scope place (Negative operand) = exp_throws setting scope (place + 1) operand
  exp_throws setting scope place (Not operand) = exp_throws setting scope (place + 1) operand
  exp_throws setting scope place (Binary operator left right) =
      exp_throws setting scope (place + 1) left ++ exp_throws setting scope (place + 1 + weight_of_exp left) right
  exp_throws setting scope place (Choice test first second) =
      exp_throws setting scope (place + 1) test
      ++ (exp_throws setting scope (place + 1 + weight_of_exp test) first ++ exp_throws setting scope (place + 1 + weight_of_exp test + weight_of_exp first) second)
  exp_throws setting scope place (Assign variable new) = exp_throws setting scope (place + 1) new

  -- what expressions can throw
  pub exps_throw : Setting → Scope → ℕ → Exps → List Throwing
  exps_throw setting scope place NoExps = []
  exps_throw setting scope place (AndExp first rest) = exp_throws setting scope place first ++ exps_throw setting scope (place + weight_of_exp first) rest

-- an expression, where there is one
abbrev pub option_throws : Setting → Scope → ℕ → Option Exp → List Throwing
option_throws setting scope place None = []
option_throws setting scope place (Some exp) = exp_throws setting scope place exp

-- ---- statements

-- what the first part of a `finally` throws comes through where its last part can complete normally
abbrev pub through : Bool → List Throwing → List Throwing
through completes thrown = if completes then thrown else []

abbrev mutual
  -- what a statement at a place can throw
  pub throws : Setting → List Held → Scope → ℕ → Stm → List Throwing
  throws setting held scope place (Block list) = list_throws setting held scope (place + 1) list
  throws setting held scope place (Labelled label statement) = throws setting held scope (place + 1) statement
  throws setting held scope place (Declare variable kind initial) = option_throws setting (with_type variable kind scope) (place + 1) initial
  throws setting held scope place (Set variable new) = exp_throws setting scope (place + 1) new
  throws setting held scope place (SetField object name new) =
      exp_throws setting scope (place + 1) object ++ exp_throws setting scope (place + 1 + weight_of_exp object) new
  throws setting held scope place (SetStatic class name new) = exp_throws setting scope (place + 1) new
  throws setting held scope place (SetElement array index new) =
      exp_throws setting scope (place + 1) array
      ++ (exp_throws setting scope (place + 1 + weight_of_exp array) index ++ exp_throws setting scope (place + 1 + weight_of_exp array + weight_of_exp index) new)
  throws setting held scope place (Run call) = exp_throws setting scope (place + 1) call
  throws setting held scope place (If test first second) =
      exp_throws setting scope (place + 1) test
      ++ (list_throws setting held scope (place + 1 + weight_of_exp test) first
      ++ list_throws setting held scope (place + 1 + weight_of_exp test + weight_of_stms first) second)
  throws setting held scope place (While test body) =
      exp_throws setting scope (place + 1) test ++ list_throws setting held scope (place + 1 + weight_of_exp test) body
  throws setting held scope place (Switch on groups) =
      exp_throws setting scope (place + 1) on ++ groups_throw setting held scope (place + 1 + weight_of_exp on) groups
  throws setting held scope place (Break label) = []
  throws setting held scope place (Continue label) = []
  throws setting held scope place (Return result) = option_throws setting scope (place + 1) result
  throws setting held scope place (Throw exception) =
      thrown_at place (throw_throws setting held scope exception) ++ exp_throws setting scope (place + 1) exception
  throws setting held scope place (Rethrow variable) = []
  throws setting held scope place (Try body catches) =
      catches_throw setting held scope (list_throws setting held scope (place + 1) body) (place + 1 + weight_of_stms body) catches
  throws setting held scope place (Synchronized monitor body) =
      exp_throws setting scope (place + 1) monitor ++ list_throws setting held scope (place + 1 + weight_of_exp monitor) body
  throws setting held scope place (Construct own arguments) =
      thrown_at place (construct_listed setting own (types_of (context_of setting) scope arguments)) ++ exps_throw setting scope (place + 1) arguments
  throws setting held scope place (Do body test) =
      list_throws setting held scope (place + 1) body ++ exp_throws setting scope (place + 1 + weight_of_stms body) test
  throws setting held scope place (For test variable step body) =
      exp_throws setting scope (place + 1) test
      ++ (exp_throws setting scope (place + 1 + weight_of_exp test) step
      ++ list_throws setting held scope (place + 1 + weight_of_exp test + weight_of_exp step) body)
  throws setting held scope place (Finally body last) =
      through (list_completes (around setting) last) (list_throws setting held scope (place + 1) body)
      ++ list_throws setting held scope (place + 1 + weight_of_stms body) last

  -- what statements can throw
  pub list_throws : Setting → List Held → Scope → ℕ → Stms → List Throwing
  list_throws setting held scope place Empty = []
  list_throws setting held scope place (And first rest) =
      throws setting held scope place first ++ list_throws setting held (within (declared first) scope) (place + weight_of first) rest

  -- what catch clauses can throw to which this comes, and what they let through of it
  pub catches_throw : Setting → List Held → Scope → List Throwing → ℕ → Catches → List Throwing
  catches_throw setting held scope thrown place NoCatches = thrown
  catches_throw setting held scope thrown place (AndCatch class variable body rest) =
      list_throws setting (held ++ holding setting.headers class variable body thrown ∷ []) (with_type variable (Class class) scope) place body
      ++ catches_throw setting held scope (left setting.headers class thrown) (place + weight_of_stms body) rest

  -- what the groups of a switch can throw
  pub groups_throw : Setting → List Held → Scope → ℕ → Groups → List Throwing
  groups_throw setting held scope place NoGroups = []
  groups_throw setting held scope place (AndGroup labels body rest) =
      list_throws setting held scope place body ++ groups_throw setting held (behind body scope) (place + weight_of_stms body) rest
