-- Which expressions and statements have a text that no other has (JLS 3.8, 3.10, 14, 15).
use Rattle.std.specs.Prelude.{ℕ, ℤ, ◌≢◌, ◌<◌, ◌^◌, Bool, true, false, IsTrue, IsFalse, ◌||◌, not, List, [], ◌∷◌, Option, Some, None, IfSome, FitsSigned}
use Rattle.std.specs.Int.{w32, w64}
use Rattle.std.specs.List.{AllByRecursion}
use Rattle.dj_names.specs.ClassNames.{segments}
use Rattle.dj_names.specs.Identifiers.{IsIdentifier}
use Rattle.dj_names.specs.Sayable.{IsSayable}
use Rattle.dj_names.specs.Types.{JType, Boolean, Byte, Char, Short, Int, Long, Float, Double, Class, Array}
use Rattle.dj_syntax.specs.declared.variable.Var.{Var}
use Rattle.dj_syntax.specs.Trees.{Exp, Text, Truth, Null, This, Variable, ClassOf, Static, Element, Call, StaticCall, SuperCall, New, NewArray, Cast, InstanceOf, Negative, Not, Binary, Choice, Assign, Exps, NoExps, AndExp, Stm, Block, Labelled, Declare, Set, SetField, SetStatic, SetElement, Run, If, While, Switch, Break, Continue, Return, Throw, Rethrow, Try, Synchronized, Construct, Do, For, Finally, Stms, Empty, And, Groups, NoGroups, AndGroup, Catches, NoCatches, AndCatch}
use Rattle.dj_syntax.specs.Trees as trees
use Rattle.dj_syntax.specs.StmText.{is_empty}

-- ---- names

-- a name of segments with slashes between them, each an identifier
abbrev pub IsQualified : List ℕ → Type 0
IsQualified name = AllByRecursion IsIdentifier (segments name)

-- each class that a type names is one that can be written
abbrev pub IsNamed : JType → Type 0
IsNamed Boolean = Unit {0}
IsNamed Byte = Unit {0}
IsNamed Char = Unit {0}
IsNamed Short = Unit {0}
IsNamed Int = Unit {0}
IsNamed Long = Unit {0}
IsNamed Float = Unit {0}
IsNamed Double = Unit {0}
IsNamed (Class name) = IsQualified name
IsNamed (Array element) = IsNamed element

-- whether a type is an array
abbrev pub is_array : JType → Bool
is_array Boolean = false
is_array Byte = false
is_array Char = false
is_array Short = false
is_array Int = false
is_array Long = false
is_array Float = false
is_array Double = false
is_array (Class name) = false
is_array (Array element) = true

-- ---- expressions

-- a variable, whose number has 32 bits
abbrev pub IsVariable : Var → Type 0
IsVariable variable = variable.number < 2 ^ 32

-- whether a list has no expression
abbrev pub has_no_exp : Exps → Bool
has_no_exp NoExps = true
has_no_exp (AndExp first rest) = false

abbrev mutual
  -- an expression: numbers of their size, names that are identifiers, and a class before a static member that isn't
  -- taken for a variable; a new array has a size, and its innermost elements are no arrays
  pub IsWellFormedExp : Exp → Type 0
  IsWellFormedExp (trees.Int number) = FitsSigned w32 number
  IsWellFormedExp (trees.Long number) = FitsSigned w64 number
  IsWellFormedExp (Text units) = AllByRecursion (λ unit. unit < 2 ^ 16) units
  IsWellFormedExp (Truth value) = Unit {0}
  IsWellFormedExp Null = Unit {0}
  IsWellFormedExp This = Unit {0}
  IsWellFormedExp (Variable variable) = IsVariable variable
  IsWellFormedExp (ClassOf kind) = IsNamed kind
  IsWellFormedExp (trees.Field object name) = IsWellFormedExp object × IsIdentifier name
  IsWellFormedExp (Static class name) = IsSayable class × IsIdentifier name
  IsWellFormedExp (Element array index) = IsWellFormedExp array × IsWellFormedExp index
  IsWellFormedExp (Call object name arguments) = IsWellFormedExp object × IsIdentifier name × AreWellFormedExps arguments
  IsWellFormedExp (StaticCall class name arguments) = IsSayable class × IsIdentifier name × AreWellFormedExps arguments
  IsWellFormedExp (SuperCall above name arguments) = IfSome above IsQualified × IsIdentifier name × AreWellFormedExps arguments
  IsWellFormedExp (New class arguments) = IsQualified class × AreWellFormedExps arguments
  IsWellFormedExp (NewArray kind sizes more) =
      IsNamed kind × IsFalse (is_array kind) × IsFalse (has_no_exp sizes) × AreWellFormedExps sizes × (more < 2 ^ 32)
  IsWellFormedExp (Cast kind operand) = IsNamed kind × IsWellFormedExp operand
  IsWellFormedExp (InstanceOf operand kind) = IsWellFormedExp operand × IsNamed kind
  IsWellFormedExp (Negative operand) = IsWellFormedExp operand
  IsWellFormedExp (Not operand) = IsWellFormedExp operand
  IsWellFormedExp (Binary operator left right) = IsWellFormedExp left × IsWellFormedExp right
  IsWellFormedExp (Choice test first second) = IsWellFormedExp test × IsWellFormedExp first × IsWellFormedExp second
  IsWellFormedExp (Assign variable value) = IsVariable variable × IsWellFormedExp value

  -- expressions, each well formed
  pub AreWellFormedExps : Exps → Type 0
  AreWellFormedExps NoExps = Unit {0}
  AreWellFormedExps (AndExp first rest) = IsWellFormedExp first × AreWellFormedExps rest

-- whether an expression may be a statement: a call, or a new object
abbrev pub is_call : Exp → Bool
is_call (trees.Int value) = false
is_call (trees.Long value) = false
is_call (Text units) = false
is_call (Truth value) = false
is_call Null = false
is_call This = false
is_call (Variable variable) = false
is_call (ClassOf kind) = false
is_call (trees.Field object name) = false
is_call (Static class name) = false
is_call (Element array index) = false
is_call (Call object name arguments) = true
is_call (StaticCall class name arguments) = true
is_call (SuperCall above name arguments) = true
is_call (New class arguments) = true
is_call (NewArray kind sizes more) = false
is_call (Cast kind operand) = false
is_call (InstanceOf operand kind) = false
is_call (Negative operand) = false
is_call (Not operand) = false
is_call (Binary operator left right) = false
is_call (Choice test first second) = false
is_call (Assign variable value) = false

-- ---- statements

-- whether a statement declares a variable, so that no label stands right before it
abbrev pub is_declaration : Stm → Bool
is_declaration (Block list) = false
is_declaration (Labelled label statement) = false
is_declaration (Declare variable kind value) = true
is_declaration (Set variable value) = false
is_declaration (SetField object name value) = false
is_declaration (SetStatic class name value) = false
is_declaration (SetElement array index value) = false
is_declaration (Run call) = false
is_declaration (If test first second) = false
is_declaration (While test body) = false
is_declaration (Switch value list) = false
is_declaration (Break label) = false
is_declaration (Continue label) = false
is_declaration (Return value) = false
is_declaration (Throw value) = false
is_declaration (Rethrow variable) = false
is_declaration (Try body clauses) = false
is_declaration (Synchronized monitor body) = false
is_declaration (Construct own arguments) = false
is_declaration (Do body test) = false
is_declaration (For test variable step body) = false
is_declaration (Finally body last) = false

-- whether a switch has no group behind this one
abbrev pub has_no_group : Groups → Bool
has_no_group NoGroups = true
has_no_group (AndGroup labels body rest) = false

-- whether a try has no catch clause
abbrev pub has_no_catch : Catches → Bool
has_no_catch NoCatches = true
has_no_catch (AndCatch class variable body rest) = false

-- a label of a switch: a number of 32 bits, or `default`
abbrev pub IsCase : Option ℤ → Type 0
IsCase label = IfSome label (FitsSigned w32)

abbrev mutual
  -- a statement, given whether its unit has a helper: its parts are well formed; a `switch` has a group, a `try` a catch clause
  pub IsWellFormedStm : Bool → Stm → Type 0
  IsWellFormedStm helper (Block list) = AreWellFormedStms helper list
  IsWellFormedStm helper (Labelled label statement) =
      (label < 2 ^ 32) × IsFalse (is_declaration statement) × IsWellFormedStm helper statement
  IsWellFormedStm helper (Declare variable kind value) = IsVariable variable × IsNamed kind × IfSome value IsWellFormedExp
  IsWellFormedStm helper (Set variable value) = IsVariable variable × IsWellFormedExp value
  IsWellFormedStm helper (SetField object name value) = IsWellFormedExp object × IsIdentifier name × IsWellFormedExp value
  IsWellFormedStm helper (SetStatic class name value) = IsSayable class × IsIdentifier name × IsWellFormedExp value
  IsWellFormedStm helper (SetElement array index value) = IsWellFormedExp array × IsWellFormedExp index × IsWellFormedExp value
  IsWellFormedStm helper (Run call) = IsTrue (is_call call) × IsWellFormedExp call
  IsWellFormedStm helper (If test first second) =
      IsWellFormedExp test × AreWellFormedStms helper first × AreWellFormedStms helper second
  IsWellFormedStm helper (While test body) = IsWellFormedExp test × AreWellFormedStms helper body
  IsWellFormedStm helper (Switch value groups) =
      IsWellFormedExp value × IsFalse (has_no_group groups) × AreWellFormedGroups helper groups
  IsWellFormedStm helper (Break label) = label < 2 ^ 32
  IsWellFormedStm helper (Continue label) = label < 2 ^ 32
  IsWellFormedStm helper (Return value) = IfSome value IsWellFormedExp
  IsWellFormedStm helper (Throw value) = IsWellFormedExp value
  IsWellFormedStm helper (Rethrow variable) = IsTrue helper × IsVariable variable
  IsWellFormedStm helper (Try body catches) =
      AreWellFormedStms helper body × IsFalse (has_no_catch catches) × AreWellFormedCatches helper catches
  IsWellFormedStm helper (Synchronized monitor body) = IsWellFormedExp monitor × AreWellFormedStms helper body
  IsWellFormedStm helper (Construct own arguments) = AreWellFormedExps arguments
  IsWellFormedStm helper (Do body test) = AreWellFormedStms helper body × IsWellFormedExp test
  IsWellFormedStm helper (For test variable step body) =
      IsWellFormedExp test × IsVariable variable × IsWellFormedExp step × AreWellFormedStms helper body
  IsWellFormedStm helper (Finally body last) = AreWellFormedStms helper body × AreWellFormedStms helper last

  -- statements, each well formed
  pub AreWellFormedStms : Bool → Stms → Type 0
  AreWellFormedStms helper Empty = Unit {0}
  AreWellFormedStms helper (And first rest) = IsWellFormedStm helper first × AreWellFormedStms helper rest

  -- groups, each with a label, and all but the last with a statement
  pub AreWellFormedGroups : Bool → Groups → Type 0
  AreWellFormedGroups helper NoGroups = Unit {0}
  AreWellFormedGroups helper (AndGroup labels body rest) =
      (labels ≢ []) × AllByRecursion IsCase labels × IsTrue (not (is_empty body) || has_no_group rest)
      × AreWellFormedStms helper body × AreWellFormedGroups helper rest

  -- catch clauses, each of a class that can be written
  pub AreWellFormedCatches : Bool → Catches → Type 0
  AreWellFormedCatches helper NoCatches = Unit {0}
  AreWellFormedCatches helper (AndCatch class variable body rest) =
      IsQualified class × IsVariable variable × AreWellFormedStms helper body × AreWellFormedCatches helper rest
