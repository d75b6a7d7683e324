-- That each variable which an expression reads is assigned there (JLS 16).
use Rattle.std.specs.Prelude.{ℕ, ◌+◌, Bool, true, false, Option, Some, None}
use Rattle.dj_syntax.specs.Trees.{Exp, Text, Truth, Null, This, Variable, ClassOf, Field, Static, Element, Call, StaticCall, SuperCall, New, NewArray, Cast, InstanceOf, Negative, Not, Binary, Choice, Assign, Exps, NoExps, AndExp}
use Rattle.dj_syntax.specs.Trees as trees
use Rattle.dj_syntax.specs.Weight.{weight_of_exp}
use Rattle.dj_places.specs.Constants.{Surroundings}
use Rattle.dj_places.specs.Rules.{Rules, NoRule, Rule, ◌and◌}
use Rattle.dj_places.specs.declared.kind.TypeKind.TheVariants.{Assigned}
use Rattle.dj_variables.specs.Sets.{Set, meet}
use Rattle.dj_conditions.specs.Conditions.{When, when, after_exp, wanted_before}

-- before the right operand, given whether it is evaluated behind one answer of the left one alone
abbrev pub before_right : Option Bool → When → Set
before_right None left = meet left.true left.false
before_right (Some true) left = left.true
before_right (Some false) left = left.false

abbrev mutual
  -- each variable that an expression reads is assigned there
  pub reads : Surroundings → Set → ℕ → Exp → Rules
  reads around set place (trees.Int number) = NoRule
  reads around set place (trees.Long number) = NoRule
  reads around set place (Text units) = NoRule
  reads around set place (Truth known) = NoRule
  reads around set place Null = NoRule
  reads around set place This = NoRule
  reads around set place (Variable variable) = Rule place Assigned (set variable)
  reads around set place (ClassOf kind) = NoRule
  reads around set place (Field object name) = reads around set (place + 1) object
  reads around set place (Static class name) = NoRule
  reads around set place (Element array index) = reads around set (place + 1) array and reads around (after_exp around array set) (place + 1 + weight_of_exp array) index
  reads around set place (Call object name arguments) =
      reads around set (place + 1) object and reads_each around (after_exp around object set) (place + 1 + weight_of_exp object) arguments
  reads around set place (StaticCall class name arguments) = reads_each around set (place + 1) arguments
  reads around set place (SuperCall above name arguments) = reads_each around set (place + 1) arguments
  reads around set place (New class arguments) = reads_each around set (place + 1) arguments
  reads around set place (NewArray kind sizes more) = reads_each around set (place + 1) sizes
  reads around set place (Cast kind operand) = reads around set (place + 1) operand
  reads around set place (InstanceOf operand kind) = reads around set (place + 1) operand
  reads around set place (Negative operand) = reads around set (place + 1) operand
  reads around set place (Not operand) = reads around set (place + 1) operand
  reads around set place (Binary operator left right) =
      reads around set (place + 1) left
      and reads around (before_right (wanted_before operator) (when around left set)) (place + 1 + weight_of_exp left) right
  reads around set place (Choice test first second) =
      reads around set (place + 1) test and reads around (when around test set).true (place + 1 + weight_of_exp test) first
      and reads around (when around test set).false (place + 1 + weight_of_exp test + weight_of_exp first) second
  reads around set place (Assign variable value) = reads around set (place + 1) value

  pub reads_each : Surroundings → Set → ℕ → Exps → Rules
  reads_each around set place NoExps = NoRule
  reads_each around set place (AndExp first rest) = reads around set place first and reads_each around (after_exp around first set) (place + weight_of_exp first) rest

-- the rules of an expression, if there is one
abbrev pub option_reads : Surroundings → Set → ℕ → Option Exp → Rules
option_reads around set place None = NoRule
option_reads around set place (Some exp) = reads around set place exp
