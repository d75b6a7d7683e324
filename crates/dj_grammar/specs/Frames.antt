-- What is open around an expression that is read, and what closes it (JLS 15).
use Rattle.std.specs.Prelude.{ℕ, ◌-◌, ◌+◌, Bool, true, false, nat_le, if◌then◌else◌, List, [], ◌∷◌, ◌++◌, length, take, Option, Some, None, option_map}
use Rattle.dj_names.specs.Types.{JType}
use Rattle.dj_syntax.specs.declared.operator.Op.{Op}
use Rattle.dj_syntax.specs.declared.variable.Var.{Var}
use Rattle.dj_syntax.specs.Trees.{Exp, Text, Truth, Null, This, Variable, ClassOf, Field, Static, Element, Call, StaticCall, SuperCall, New, NewArray, Cast, InstanceOf, Negative, Not, Binary, Choice, Assign, Exps, exps_of}
use Rattle.dj_syntax.specs.Trees as trees
use Rattle.dj_tokens.specs.Literals.{negated}
use Rattle.dj_tokens.specs.Dotted.{DottedName, type_of_name}

-- what is called: a method of an object, of a class, or above; a class, for a new object; a constructor, of this
-- class or else of the one above; the helper
pub data Callee : Type 0 where
  OfObject : Exp → List ℕ → Callee
  OfClass : List ℕ → List ℕ → Callee
  Above : Option (List ℕ) → List ℕ → Callee
  Creation : List ℕ → Callee
  Own : Bool → Callee
  Helper : Callee

-- What waits for an operand behind it: a minus sign before a number, another one, `!`, a name in parentheses, another
-- type in parentheses, an operator with its left operand, `instanceof`, the test of a choice, test and first part,
-- an assignment, `new`.
pub data Joint : Type 0 where
  Sign : Joint
  Negated : Joint
  Inverted : Joint
  Enclosed : DottedName → Joint
  Converted : JType → Joint
  LeftOf : Exp → Op → Joint
  TypeTested : Exp → Joint
  Asked : Exp → Joint
  Answered : Exp → Exp → Joint
  Assigned : Var → Joint
  Created : Joint

-- What opens a place that something closes: a parenthesis; a bracket behind a value, a name or a type; arguments,
-- with those before; a size of a new array, with those before and the pairs of brackets; the beginning of a
-- statement, with its labels from the innermost out, what it stores to, and what it declares.
pub data Opener : Type 0 where
  Parenthesis : Opener
  Bracket : Exp → Opener
  NameBracket : DottedName → Opener
  TypeBracket : JType → Opener
  Arguments : Callee → List Exp → Opener
  Size : JType → List Exp → ℕ → Opener
  Start : List ℕ → Opener
  Stored : List ℕ → Exp → Opener
  Initial : List ℕ → JType → Var → Opener

-- what is open around an expression
pub data Pending : Type 0 where
  Joins : Joint → Pending
  Opens : Opener → Pending

-- a minus sign before a value: a literal with it is one literal
abbrev pub signed : Exp → Exp
signed (trees.Int value) = trees.Int (negated value)
signed (trees.Long value) = trees.Long (negated value)
signed (Text units) = Negative (Text units)
signed (Truth value) = Negative (Truth value)
signed Null = Negative Null
signed This = Negative This
signed (Variable variable) = Negative (Variable variable)
signed (ClassOf kind) = Negative (ClassOf kind)
signed (Field object name) = Negative (Field object name)
signed (Static class name) = Negative (Static class name)
signed (Element array index) = Negative (Element array index)
signed (Call object name arguments) = Negative (Call object name arguments)
signed (StaticCall class name arguments) = Negative (StaticCall class name arguments)
signed (SuperCall above name arguments) = Negative (SuperCall above name arguments)
signed (New class arguments) = Negative (New class arguments)
signed (NewArray kind sizes more) = Negative (NewArray kind sizes more)
signed (Cast kind operand) = Negative (Cast kind operand)
signed (InstanceOf operand kind) = Negative (InstanceOf operand kind)
signed (Negative operand) = Negative (Negative operand)
signed (Not operand) = Negative (Not operand)
signed (Binary operator left right) = Negative (Binary operator left right)
signed (Choice test first second) = Negative (Choice test first second)
signed (Assign variable value) = Negative (Assign variable value)

-- a value behind what waits for it
abbrev pub joined : Joint → Exp → Exp
joined Sign value = signed value
joined Negated value = Negative value
joined Inverted value = Not value
joined (Enclosed name) value = Cast (type_of_name name) value
joined (Converted kind) value = Cast kind value
joined (LeftOf left operator) value = Binary operator left value
joined (TypeTested operand) value = value
joined (Asked test) value = value
joined (Answered test first) value = Choice test first value
joined (Assigned variable) value = Assign variable value
joined Created value = value

-- a value behind all that waits for it, and what is open around it then
abbrev pub collapsed : Exp → List Pending → Exp × List Pending
collapsed value [] = (value, [])
collapsed value (Joins joint ∷ outer) = collapsed (joined joint value) outer
collapsed value (Opens opener ∷ outer) = (value, Opens opener ∷ outer)

-- a call; constructors and the helper are called by statements alone
abbrev pub called : Callee → Exps → Exp
called (OfObject object name) arguments = Call object name arguments
called (OfClass class name) arguments = StaticCall class name arguments
called (Above above name) arguments = SuperCall above name arguments
called (Creation class) arguments = New class arguments
called (Own own) arguments = Null
called Helper arguments = Null

-- the operand of an `instanceof`
abbrev pub type_tested : Joint → Option Exp
type_tested Sign = None
type_tested Negated = None
type_tested Inverted = None
type_tested (Enclosed name) = None
type_tested (Converted kind) = None
type_tested (LeftOf left operator) = None
type_tested (TypeTested operand) = Some operand
type_tested (Asked test) = None
type_tested (Answered test first) = None
type_tested (Assigned variable) = None
type_tested Created = None

-- the operand of an `instanceof` that waits for its type, and what is open around it
abbrev pub testing : List Pending → Option (Exp × List Pending)
testing [] = None
testing (Joins joint ∷ outer) = option_map (λ operand. (operand, outer)) (type_tested joint)
testing (Opens opener ∷ outer) = None

-- whether it is a `new`
abbrev pub is_creation : Joint → Bool
is_creation Sign = false
is_creation Negated = false
is_creation Inverted = false
is_creation (Enclosed name) = false
is_creation (Converted kind) = false
is_creation (LeftOf left operator) = false
is_creation (TypeTested operand) = false
is_creation (Asked test) = false
is_creation (Answered test first) = false
is_creation (Assigned variable) = false
is_creation Created = true

-- what is open around a `new` that waits for what it makes
abbrev pub creating : List Pending → Option (List Pending)
creating [] = None
creating (Joins joint ∷ outer) = if is_creation joint then Some outer else None
creating (Opens opener ∷ outer) = None

-- what was opened, where nothing waits
abbrev pub opener_in : Pending → Option Opener
opener_in (Joins joint) = None
opener_in (Opens opener) = Some opener

-- what waits, where something does
abbrev pub joint_in : Pending → Option Joint
joint_in (Joins joint) = Some joint
joint_in (Opens opener) = None

-- what was opened last, where nothing waits in it, and what is open around it
abbrev pub opened : List Pending → Option (Opener × List Pending)
opened [] = None
opened (frame ∷ outer) = option_map (λ opener. (opener, outer)) (opener_in frame)

-- what waits last, and what is open around it
abbrev pub waiting : List Pending → Option (Joint × List Pending)
waiting [] = None
waiting (frame ∷ outer) = option_map (λ joint. (joint, outer)) (joint_in frame)
