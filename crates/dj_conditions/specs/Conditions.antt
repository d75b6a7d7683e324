-- What is assigned behind an expression, its value being true, or being false (JLS 16.1).
use Rattle.std.specs.Prelude.{Bool, true, false, Option, Some, None}
use Rattle.dj_syntax.specs.declared.operator.Op.{Op}
use Rattle.dj_syntax.specs.Trees.{Exp, Text, Truth, Null, This, Variable, ClassOf, Field, Static, Element, Call, StaticCall, SuperCall, New, NewArray, Cast, InstanceOf, Negative, Not, Binary, Choice, Assign, Exps, NoExps, AndExp}
use Rattle.dj_syntax.specs.Trees as trees
use Rattle.dj_meaning.specs.Operators.{Operator, Strict, After, operator_of}
use Rattle.dj_places.specs.Constants.{Surroundings, constant_truth}
use Rattle.dj_variables.specs.Sets.{Set, everything, with, meet}

-- assigned when true, when false
pub record When : Type 0 where
  pub true : Set
  pub false : Set

-- assigned whatever the value is
abbrev pub after_both : When → Set
after_both sides = meet sides.true sides.false

-- the value says nothing of what is assigned
abbrev pub either_way : Set → When
either_way set = record { true = set; false = set }

-- a constant condition never has the other value (16.1.1)
abbrev pub decided : Option Bool → Set → When
decided None set = either_way set
decided (Some true) set = record { true = set; false = everything }
decided (Some false) set = record { true = everything; false = set }

-- the answer of the left operand that the right one is evaluated behind, where it isn't evaluated behind each
abbrev pub wanted_before : Op → Option Bool
wanted_before operator = of_form (operator_of operator)
  where
    of_form : Operator → Option Bool
    of_form (Strict operation) = None
    of_form (After wanted) = Some wanted

-- behind an operator, its answer known where it is constant, given what is assigned behind the left operand, and behind the right one
-- (16.1.2, 16.1.3)
abbrev pub behind_operator : Option Bool → Option Bool → When → (Set → When) → When
behind_operator None known left right = decided known (after_both (right (after_both left)))
behind_operator (Some true) known left right = record { true = (right left.true).true; false = meet left.false (right left.true).false }
behind_operator (Some false) known left right = record { true = meet left.true (right left.false).true; false = (right left.false).false }

-- behind `a ? b : c` (16.1.5, 16.1.6)
abbrev pub behind_choice : When → When → When
behind_choice first second = record { true = meet first.true second.true; false = meet first.false second.false }

abbrev mutual
  -- behind an expression, given what is assigned before it
  pub when : Surroundings → Exp → Set → When
  when around (trees.Int number) set = either_way set
  when around (trees.Long number) set = either_way set
  when around (Text units) set = either_way set
  when around (Truth known) set = decided (Some known) set
  when around Null set = either_way set
  when around This set = either_way set
  when around (Variable variable) set = either_way set
  when around (ClassOf kind) set = either_way set
  when around (Field object name) set = either_way (after_both (when around object set))
  when around (Static class name) set = decided (constant_truth around (Static class name)) set
  when around (Element array index) set = either_way (after_both (when around index (after_both (when around array set))))
  when around (Call object name arguments) set = either_way (after_each around arguments (after_both (when around object set)))
  when around (StaticCall class name arguments) set = either_way (after_each around arguments set)
  when around (SuperCall above name arguments) set = either_way (after_each around arguments set)
  when around (New class arguments) set = either_way (after_each around arguments set)
  when around (NewArray kind sizes more) set = either_way (after_each around sizes set)
  when around (Cast kind operand) set = decided (constant_truth around (Cast kind operand)) (after_both (when around operand set))
  when around (InstanceOf operand kind) set = either_way (after_both (when around operand set))
  when around (Negative operand) set = either_way (after_both (when around operand set))
  when around (Not operand) set = record { true = (when around operand set).false; false = (when around operand set).true }
  when around (Binary operator left right) set =
      behind_operator (wanted_before operator) (constant_truth around (Binary operator left right)) (when around left set) (when around right)
  when around (Choice test first second) set = behind_choice (when around first (when around test set).true) (when around second (when around test set).false)
  when around (Assign variable value) set = either_way (with variable (after_both (when around value set)))

  -- behind expressions, in order
  pub after_each : Surroundings → Exps → Set → Set
  after_each around NoExps set = set
  after_each around (AndExp first rest) set = after_each around rest (after_both (when around first set))

-- behind an expression, whatever its value is
abbrev pub after_exp : Surroundings → Exp → Set → Set
after_exp around exp set = after_both (when around exp set)
