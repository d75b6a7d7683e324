-- The walk over expressions in the order of the text, as the program makes it: to which place it has come, the lowest place at which a rule was
-- broken, and the variables that are declared and not assigned. The law in `proofs/` says that it finds what the rules say.
use Rattle.std.specs.Prelude.{ℕ, ◌+◌, Bool, true, false, not, if◌then◌else◌, List, [], ◌∷◌, Option, Some, None}
use Rattle.dj_syntax.specs.declared.variable.Var.{Var}
use Rattle.dj_syntax.specs.Trees.{Exp, Text, Truth, Null, This, Variable, ClassOf, Field, Static, Element, Call, StaticCall, SuperCall, New, NewArray, Cast, InstanceOf, Negative, Not, Binary, Choice, Assign, Exps, NoExps, AndExp}
use Rattle.dj_syntax.specs.Trees as trees
use Rattle.dj_places.specs.Constants.{Surroundings, constant_truth, is_always}
use Rattle.dj_places.specs.Places.{told, lower}
use Rattle.dj_variables.specs.Lists.{is_among, removed, union}
use Rattle.dj_conditions.specs.Conditions.{wanted_before}
use Rattle.dj_conditions.specs.declared.walk.Walk.{Walk}

-- ---- places and rules

-- at this place
abbrev pub at_place : ℕ → Walk → Walk
at_place place walk = record { place = place; fault = walk.fault; unassigned = walk.unassigned }

-- past so many places
abbrev pub skip : ℕ → Walk → Walk
skip places walk = at_place (told (walk.place + places)) walk

-- past one place
abbrev pub step : Walk → Walk
step walk = skip 1 walk

-- a variable is read at the place
abbrev pub read : Var → Walk → Walk
read variable walk = record {
  place = walk.place;
  fault = lower walk.fault (if not (is_among variable walk.unassigned) then None else Some walk.place);
  unassigned = walk.unassigned;
}

-- ---- what isn't assigned

-- with these variables not assigned
abbrev pub from : List Var → Walk → Walk
from unassigned walk = record { place = walk.place; fault = walk.fault; unassigned = unassigned }

-- a variable is assigned
abbrev pub write : Var → Walk → Walk
write variable walk = from (removed variable walk.unassigned) walk

-- a variable is declared, and not assigned
abbrev pub forget : Var → Walk → Walk
forget variable walk = from (union walk.unassigned (variable ∷ [])) walk

-- another way comes in, on which these aren't assigned
abbrev pub meet_with : List Var → Walk → Walk
meet_with unassigned walk = from (union walk.unassigned unassigned) walk

-- a condition: how the walk is where it is true, and what isn't assigned where it is false
pub record Sides : Type 0 where
  pub walk : Walk
  pub otherwise : List Var

-- not assigned alike, whichever way the condition comes out
abbrev pub same_sides : Walk → Sides
same_sides walk = record { walk = walk; otherwise = walk.unassigned }

-- a constant condition has one side
abbrev pub sides : Option Bool → Walk → Sides
sides known walk = record {
  walk = from (if is_always false known then [] else walk.unassigned) walk;
  otherwise = if is_always true known then [] else walk.unassigned;
}

-- the sides, the walk being where the condition has this answer
abbrev pub turned : Bool → Sides → Sides
turned true one = one
turned false one = record { walk = from one.otherwise one.walk; otherwise = one.walk.unassigned }

-- two ways to the second side
abbrev pub joined_sides : List Var → Sides → Sides
joined_sides otherwise one = record { walk = one.walk; otherwise = union otherwise one.otherwise }

-- ---- expressions

-- the right operand, behind one answer of the left one
abbrev pub look_behind : Bool → Sides → (Walk → Walk) → Walk
look_behind wanted left right = meet_with (turned wanted left).otherwise (right (turned wanted left).walk)

-- what a second condition leaves on each side, which is evaluated where the first comes out as wanted
abbrev pub test_behind : Bool → Sides → (Walk → Sides) → Sides
test_behind wanted left right = turned wanted (joined_sides (turned wanted left).otherwise (turned wanted (right (turned wanted left).walk)))

-- behind an operator: its right operand is evaluated always, or where the left one comes out as wanted
abbrev pub look_operator : Option Bool → Walk → Sides → (Walk → Walk) → Walk
look_operator None plain left right = right plain
look_operator (Some wanted) plain left right = look_behind wanted left right

-- the same of a condition, with what it leaves on each side
abbrev pub test_operator : Option Bool → Option Bool → Walk → Sides → (Walk → Walk) → (Walk → Sides) → Sides
test_operator None known plain left look test = sides known (look plain)
test_operator (Some wanted) known plain left look test = test_behind wanted left test

abbrev mutual
  -- past an expression, whatever its value is
  pub look : Surroundings → Exp → Walk → Walk
  look around (trees.Int number) walk = step walk
  look around (trees.Long number) walk = step walk
  look around (Text units) walk = step walk
  look around (Truth known) walk = step walk
  look around Null walk = step walk
  look around This walk = step walk
  look around (Variable variable) walk = step (read variable walk)
  look around (ClassOf kind) walk = step walk
  look around (Field object name) walk = look around object (step walk)
  look around (Static class name) walk = step walk
  look around (Element array index) walk = look around index (look around array (step walk))
  look around (Call object name arguments) walk = look_each around arguments (look around object (step walk))
  look around (StaticCall class name arguments) walk = look_each around arguments (step walk)
  look around (SuperCall above name arguments) walk = look_each around arguments (step walk)
  look around (New class arguments) walk = look_each around arguments (step walk)
  look around (NewArray kind sizes more) walk = look_each around sizes (step walk)
  look around (Cast kind operand) walk = look around operand (step walk)
  look around (InstanceOf operand kind) walk = look around operand (step walk)
  look around (Negative operand) walk = look around operand (step walk)
  look around (Not operand) walk = look around operand (step walk)
  look around (Binary operator left right) walk = look_operator (wanted_before operator) (look around left (step walk)) (test around left (step walk)) (look around right)
  look around (Choice condition first second) walk =
      let one = test around condition (step walk) in
      let between = look around first one.walk in
      meet_with between.unassigned (look around second (from one.otherwise between))
  look around (Assign variable value) walk = write variable (look around value (step walk))

  pub look_each : Surroundings → Exps → Walk → Walk
  look_each around NoExps walk = walk
  look_each around (AndExp first rest) walk = look_each around rest (look around first walk)

  -- past a condition, on both its sides
  pub test : Surroundings → Exp → Walk → Sides
  test around (trees.Int number) walk = same_sides (step walk)
  test around (trees.Long number) walk = same_sides (step walk)
  test around (Text units) walk = same_sides (step walk)
  test around (Truth known) walk = sides (Some known) (step walk)
  test around Null walk = same_sides (step walk)
  test around This walk = same_sides (step walk)
  test around (Variable variable) walk = same_sides (step (read variable walk))
  test around (ClassOf kind) walk = same_sides (step walk)
  test around (Field object name) walk = same_sides (look around object (step walk))
  test around (Static class name) walk = sides (constant_truth around (Static class name)) (step walk)
  test around (Element array index) walk = same_sides (look around index (look around array (step walk)))
  test around (Call object name arguments) walk = same_sides (look_each around arguments (look around object (step walk)))
  test around (StaticCall class name arguments) walk = same_sides (look_each around arguments (step walk))
  test around (SuperCall above name arguments) walk = same_sides (look_each around arguments (step walk))
  test around (New class arguments) walk = same_sides (look_each around arguments (step walk))
  test around (NewArray kind sizes more) walk = same_sides (look_each around sizes (step walk))
  test around (Cast kind operand) walk = sides (constant_truth around (Cast kind operand)) (look around operand (step walk))
  test around (InstanceOf operand kind) walk = same_sides (look around operand (step walk))
  test around (Negative operand) walk = same_sides (look around operand (step walk))
  test around (Not operand) walk = turned false (test around operand (step walk))
  test around (Binary operator left right) walk =
      test_operator (wanted_before operator) (constant_truth around (Binary operator left right)) (look around left (step walk)) (test around left (step walk))
      (look around right) (test around right)
  test around (Choice condition first second) walk =
      let one = test around condition (step walk) in
      let two = test around first one.walk in
      let three = test around second (from one.otherwise two.walk) in
      record { walk = meet_with two.walk.unassigned three.walk; otherwise = union two.otherwise three.otherwise }
  test around (Assign variable value) walk = same_sides (write variable (look around value (step walk)))

-- behind an expression, if there is one
abbrev pub look_option : Surroundings → Option Exp → Walk → Walk
look_option around None walk = walk
look_option around (Some exp) walk = look around exp walk

-- a first value of a variable
abbrev pub first_value : Surroundings → Var → Option Exp → Walk → Walk
first_value around variable None walk = walk
first_value around variable (Some value) walk = write variable (look around value walk)

-- as a walk begins
abbrev pub opening : Walk
opening = record { place = 0; fault = None; unassigned = [] }
