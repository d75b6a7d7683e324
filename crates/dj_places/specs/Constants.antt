-- Constant expressions (JLS 15.28): literals, constant variables that are named by their class, and what casts to primitive types and String
-- and operators other than `=` and `instanceof` make of them. The value of one is what its evaluation gives without asking the outside. What
-- would divide by zero is none, nor what would be a float or double, whose values aren't followed.
use Rattle.std.specs.Prelude.{Bool, true, false, not, List, Option, Some, None, option_and_then, codes, if◌then◌else◌}
use Rattle.dj_names.specs.declared.header.Header.{Header}
use Rattle.dj_names.specs.Headers.{Name}
use Rattle.dj_names.specs.Types.{JType, Boolean, Byte, Char, Short, Int, Long, Float, Double, Class, Array}
use Rattle.dj_syntax.specs.Trees.{Exp, Text, Truth, Null, This, Variable, ClassOf, Field, Static, Element, Call, StaticCall, SuperCall, New, NewArray, Cast, InstanceOf, Negative, Not, Binary, Choice, Assign}
use Rattle.dj_syntax.specs.Trees as trees
use Rattle.dj_values.specs.Values as values
use Rattle.dj_values.specs.Values.{Value}
use Rattle.dj_values.specs.Deciding.{is_name}
use Rattle.dj_values.specs.Outcomes.{Reply, Gives, Halts, Asks, then_on}
use Rattle.dj_meaning.specs.Members.{Members}
use Rattle.dj_meaning.specs.Operators.{Operator, Strict, After, operator_of, truth, truth_of, is_wanted}
use Rattle.dj_meaning.specs.UnaryOperators.{negated, inverted}
use Rattle.dj_meaning.specs.Conversions.{cast}
use Rattle.dj_meaning.specs.Fields.{KnownField, named_field}
use Rattle.dj_meaning.specs.Objects.{text, constant_value}

-- the classes that names may mean, the members of each in the same order, and the class in which the names stand
pub record Surroundings : Type 0 where
  pub headers : List Header
  pub members : List Members
  pub class : Name

-- what is given without asking the outside
abbrev pub given_at_once : Reply Value → Option Value
given_at_once (Gives value) = Some value
given_at_once (Halts stop) = None
given_at_once (Asks action after) = None

-- the value of a field that is a constant variable (4.12.4)
abbrev pub field_constant : KnownField → Option Value
field_constant field = option_and_then (λ kept. given_at_once (constant_value field.type kept)) field.constant

-- a primitive type or String
abbrev pub is_constant_type : JType → Bool
is_constant_type Boolean = true
is_constant_type Byte = true
is_constant_type Char = true
is_constant_type Short = true
is_constant_type Int = true
is_constant_type Long = true
is_constant_type Float = true
is_constant_type Double = true
is_constant_type (Class name) = is_name name (codes "java/lang/String")
is_constant_type (Array element) = false

-- a constant that is cast
abbrev pub constant_cast : List Header → JType → Value → Option Value
constant_cast headers type value = if is_constant_type type then given_at_once (cast headers type value) else None

-- the booleans that `&&` and `||` work on, both of which have to be constants: the last one that counts
abbrev pub constant_truths : Bool → Value → Value → Reply Value
constant_truths wanted left right =
    then_on (truth_of left) (λ answer. then_on (truth_of right) (λ last. Gives (truth (if is_wanted wanted answer then last else answer))))

-- an operator between two constants
abbrev pub constant_operation : Operator → Value → Value → Option Value
constant_operation (Strict operation) left right = given_at_once (operation left right)
constant_operation (After wanted) left right = given_at_once (constant_truths wanted left right)

-- `a ? b : c` of three constants
abbrev pub constant_choice : Value → Value → Value → Option Value
constant_choice test first second = given_at_once (then_on (truth_of test) (λ answer. Gives (if answer then first else second)))

-- the value of a constant expression, none where the expression is none
abbrev pub constant : Surroundings → Exp → Option Value
constant around (trees.Int number) = Some (values.Int number)
constant around (trees.Long number) = Some (values.Long number)
constant around (Text units) = Some (text units)
constant around (Truth known) = Some (truth known)
constant around Null = None
constant around This = None
constant around (Variable variable) = None
constant around (ClassOf kind) = None
constant around (Field object name) = None
constant around (Static class name) = option_and_then field_constant (named_field around.headers around.members around.class class name)
constant around (Element array index) = None
constant around (Call object name arguments) = None
constant around (StaticCall class name arguments) = None
constant around (SuperCall above name arguments) = None
constant around (New class arguments) = None
constant around (NewArray kind sizes more) = None
constant around (Cast kind operand) = option_and_then (constant_cast around.headers kind) (constant around operand)
constant around (InstanceOf operand kind) = None
constant around (Negative operand) = option_and_then (λ value. given_at_once (negated value)) (constant around operand)
constant around (Not operand) = option_and_then (λ value. given_at_once (inverted value)) (constant around operand)
constant around (Binary operator left right) =
    option_and_then (λ first. option_and_then (constant_operation (operator_of operator) first) (constant around right)) (constant around left)
constant around (Choice test first second) =
    option_and_then (λ answer. option_and_then (λ one. option_and_then (constant_choice answer one) (constant around second)) (constant around first)) (constant around test)
constant around (Assign variable value) = None

-- the answer of a condition that is a constant expression
abbrev pub constant_truth : Surroundings → Exp → Option Bool
constant_truth around condition = option_and_then known_truth (constant around condition)
  where
    known_truth : Value → Option Bool
    known_truth value = answer (truth_of value)
      where
        answer : Reply Bool → Option Bool
        answer (Gives known) = Some known
        answer (Halts stop) = None
        answer (Asks action after) = None

-- a condition always has this answer
abbrev pub is_always : Bool → Option Bool → Bool
is_always wanted None = false
is_always true (Some known) = known
is_always false (Some known) = not known
