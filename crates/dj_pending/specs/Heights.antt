-- How high expressions are, and which of them assign nothing.
use Rattle.std.specs.Prelude.{ℕ, ◌+◌, max, min, Bool, true, false, ◌&&◌}
use Rattle.dj_syntax.specs.Trees.{Exp, Text, Truth, This, Variable, ClassOf, Field, Static, Element, Call, StaticCall, SuperCall, New, NewArray, Cast, InstanceOf, Negative, Not, Binary, Choice, Assign, Exps, NoExps, AndExp}
use Rattle.dj_syntax.specs.Trees as trees

abbrev mutual
  -- the levels of an expression: a constant or a variable has one, another one more than its highest part
  pub height : Exp → ℕ
  height (trees.Int number) = 1
  height (trees.Long number) = 1
  height (Text units) = 1
  height (Truth known) = 1
  height trees.Null = 1
  height This = 1
  height (Variable variable) = 1
  height (ClassOf kind) = 1
  height (Field object name) = height object + 1
  height (Static class name) = 1
  height (Element array index) = max (height array) (height index) + 1
  height (Call object name arguments) = max (height object) (height_of_all arguments) + 1
  height (StaticCall class name arguments) = height_of_all arguments + 1
  height (SuperCall above name arguments) = height_of_all arguments + 1
  height (New class arguments) = height_of_all arguments + 1
  height (NewArray kind sizes more) = height_of_all sizes + 1
  height (Cast kind operand) = height operand + 1
  height (InstanceOf operand kind) = height operand + 1
  height (Negative operand) = height operand + 1
  height (Not operand) = height operand + 1
  height (Binary operator first second) = max (height first) (height second) + 1
  height (Choice test first second) = max (height test) (max (height first) (height second)) + 1
  height (Assign variable new) = height new + 1

  -- those of the highest of several
  pub height_of_all : Exps → ℕ
  height_of_all NoExps = 0
  height_of_all (AndExp first rest) = max (height first) (height_of_all rest)

abbrev mutual
  -- no variable is assigned in an expression
  pub is_quiet : Exp → Bool
  is_quiet (trees.Int number) = true
  is_quiet (trees.Long number) = true
  is_quiet (Text units) = true
  is_quiet (Truth known) = true
  is_quiet trees.Null = true
  is_quiet This = true
  is_quiet (Variable variable) = true
  is_quiet (ClassOf kind) = true
  is_quiet (Field object name) = is_quiet object
  is_quiet (Static class name) = true
  is_quiet (Element array index) = is_quiet array && is_quiet index
  is_quiet (Call object name arguments) = is_quiet object && are_quiet arguments
  is_quiet (StaticCall class name arguments) = are_quiet arguments
  is_quiet (SuperCall above name arguments) = are_quiet arguments
  is_quiet (New class arguments) = are_quiet arguments
  is_quiet (NewArray kind sizes more) = are_quiet sizes
  is_quiet (Cast kind operand) = is_quiet operand
  is_quiet (InstanceOf operand kind) = is_quiet operand
  is_quiet (Negative operand) = is_quiet operand
  is_quiet (Not operand) = is_quiet operand
  is_quiet (Binary operator first second) = is_quiet first && is_quiet second
  is_quiet (Choice test first second) = is_quiet test && (is_quiet first && is_quiet second)
  is_quiet (Assign variable new) = false

  -- nor in several
  pub are_quiet : Exps → Bool
  are_quiet NoExps = true
  are_quiet (AndExp first rest) = is_quiet first && are_quiet rest

-- the levels that are told apart: all above are one
abbrev pub most_levels : ℕ
most_levels = 65

-- the levels of an expression, as far as they are told apart
abbrev pub levels_of : Exp → ℕ
levels_of exp = min (height exp) most_levels

-- and of several
abbrev pub levels_of_all : Exps → ℕ
levels_of_all exps = min (height_of_all exps) most_levels
