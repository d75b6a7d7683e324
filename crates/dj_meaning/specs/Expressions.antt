-- The value of an expression (JLS 15).
use Rattle.std.specs.Prelude.{◌+◌, Bool, true, false, replicate, List, [], ◌∷◌, Option, None, option_and_then, if◌then◌else◌}
use Rattle.dj_names.specs.Headers.{Name}
use Rattle.dj_names.specs.Types as types
use Rattle.dj_names.specs.Types.{JType, Class, parameters_of}
use Rattle.dj_syntax.specs.Trees.{Exp, Text, Truth, This, Variable, ClassOf, Field, Static, Element, Call, StaticCall, SuperCall, NewArray, Cast, InstanceOf, Negative, Not, Binary, Choice, Assign, Exps, NoExps, AndExp}
use Rattle.dj_syntax.specs.Trees as trees
use Rattle.dj_values.specs.Values.{Value, Int, Long, Null, New, ClassConstant}
use Rattle.dj_values.specs.Fits.{element_of}
use Rattle.dj_values.specs.Outcomes.{More, Reply, ask_value, outside}
use Rattle.dj_meaning.specs.Operators.{operate, truth, truth_of}
use Rattle.dj_meaning.specs.UnaryOperators.{negated, inverted}
use Rattle.dj_meaning.specs.Conversions.{cast}
use Rattle.dj_meaning.specs.Fields.{Selection, Length, Member, selected, named_field}
use Rattle.dj_meaning.specs.Targets.{Target}
use Rattle.dj_meaning.specs.Promotions.{typing_of, becomes_floating}
use Rattle.dj_meaning.specs.StaticTypes.{Context, Scope, plain, array_of, count, type_of, types_of, object_target, class_target, super_target, new_target}
use Rattle.dj_meaning.specs.Objects.{text, is_of, static_read, field_read, length_read, element_read, array_made, called}
use Rattle.dj_meaning.specs.Runs.{Meaning, pure, stop, stuck, ◌>>=◌, present, given, with, look, fitted, assigned}

-- `this` (15.8.3)
abbrev pub this_value : Context → Meaning Value
this_value context = present context.this

-- what a name selects of an object's value
abbrev pub selected_read : Name → Selection → Value → Reply Value
selected_read name Length object = length_read object
selected_read name (Member class field) object = field_read class name field object

-- a call on an object; the arguments, given the types of the parameters, are evaluated behind it (15.12.4)
abbrev pub call_on : Context → Option Target → Meaning Value → (List JType → Meaning (List Value)) → Meaning (Option Value)
call_on context asked object arguments =
    with asked (λ target. object >>= λ receiver. arguments (parameters_of target.descriptor) >>= λ values. outside context.headers (called target receiver values))

-- a call without an object
abbrev pub call_static : Context → Option Target → (List JType → Meaning (List Value)) → Meaning (Option Value)
call_static context asked arguments =
    with asked (λ target. arguments (parameters_of target.descriptor) >>= λ values. outside context.headers (called target Null values))

-- a new object: it is made first, then come the arguments of its constructor, whose call gives nothing (15.9.4)
abbrev pub made : Context → Name → Option Target → (List JType → Meaning (List Value)) → Meaning Value
made context class asked arguments =
    with asked (λ target. outside context.headers (ask_value (New class)) >>= λ object.
    arguments (parameters_of target.descriptor) >>= λ values. outside context.headers (called target object values) >>= λ nothing. pure object)

-- a part that becomes a float or double, where it does, goes on no further
abbrev pub floating : Bool → Meaning Value → Meaning Value
floating true part = part >>= λ value. stop More
floating false part = part

-- one of two parts
abbrev pub either : {A : Type 0} → Bool → Meaning A → Meaning A → Meaning A
either answer first second = if answer then first else second

-- a boolean
abbrev pub tested : Context → Value → Meaning Bool
tested context value = outside context.headers (truth_of value)

abbrev mutual
  -- the value of an expression; operands are evaluated from left to right, and fully (15.7)
  pub value : Context → Scope → Exp → Meaning Value
  value context scope (trees.Int number) = pure (Int number)
  value context scope (trees.Long number) = pure (Long number)
  value context scope (Text units) = pure (text units)
  value context scope (Truth known) = pure (truth known)
  value context scope trees.Null = pure Null
  value context scope This = this_value context
  value context scope (Variable variable) = look scope variable
  value context scope (ClassOf kind) = outside context.headers (ask_value (ClassConstant kind))
  value context scope (Field object name) =
      with (option_and_then (selected context.headers context.members context.class name) (plain (type_of context scope object))) (λ selection.
      value context scope object >>= λ found. outside context.headers (selected_read name selection found))
  value context scope (Static class name) =
      with (named_field context.headers context.members context.class class name) (λ field. outside context.headers (static_read (Class class) name field))
  value context scope (Element array index) =
      with (option_and_then element_of (plain (type_of context scope array))) (λ element.
      value context scope array >>= λ found. value context scope index >>= λ place. outside context.headers (element_read found place))
  value context scope (Call object name arguments) =
      given (call_on context (object_target context name (plain (type_of context scope object)) (types_of context scope arguments)) (value context scope object) (values context scope arguments))
  value context scope (StaticCall class name arguments) =
      given (call_static context (class_target context class name (types_of context scope arguments)) (values context scope arguments))
  value context scope (SuperCall above name arguments) =
      given (call_on context (super_target context above name (types_of context scope arguments)) (this_value context) (values context scope arguments))
  value context scope (trees.New class arguments) = made context class (new_target context class (types_of context scope arguments)) (values context scope arguments)
  value context scope (NewArray kind sizes more) =
      values context scope sizes (replicate (count sizes) types.Int) >>= λ numbers. outside context.headers (array_made (array_of (count sizes + more) kind) numbers)
  value context scope (Cast kind operand) = value context scope operand >>= λ found. outside context.headers (cast context.headers kind found)
  value context scope (InstanceOf operand kind) = value context scope operand >>= λ found. outside context.headers (is_of context.headers kind found)
  value context scope (Negative operand) = value context scope operand >>= λ found. outside context.headers (negated found)
  value context scope (Not operand) = value context scope operand >>= λ found. outside context.headers (inverted found)
  value context scope (Binary operator left right) =
      operate context.headers operator
      (floating (becomes_floating (typing_of operator) (plain (type_of context scope left)) (plain (type_of context scope right))) (value context scope left))
      (value context scope right)
  value context scope (Choice test first second) =
      value context scope test >>= tested context >>= λ answer. either answer (value context scope first) (value context scope second)
  value context scope (Assign variable new) = assigned context.headers scope variable (value context scope new)

  -- the values of expressions where types are wanted, one for each; a value is converted as soon as it is there (15.12.4.2, 15.12.4.5)
  pub values : Context → Scope → Exps → List JType → Meaning (List Value)
  values context scope NoExps [] = pure []
  values context scope NoExps (type ∷ types) = stuck
  values context scope (AndExp first rest) [] = stuck
  values context scope (AndExp first rest) (type ∷ types) =
      value context scope first >>= fitted context.headers type >>= λ one. values context scope rest types >>= λ more. pure (one ∷ more)

-- a boolean expression
abbrev pub test : Context → Scope → Exp → Meaning Bool
test context scope exp = value context scope exp >>= tested context

-- a call or `new` as a statement, whatever it gives (14.8)
abbrev pub effect : Context → Scope → Exp → Meaning (Option Value)
effect context scope (Call object name arguments) =
    call_on context (object_target context name (plain (type_of context scope object)) (types_of context scope arguments)) (value context scope object) (values context scope arguments)
effect context scope (StaticCall class name arguments) = call_static context (class_target context class name (types_of context scope arguments)) (values context scope arguments)
effect context scope (SuperCall above name arguments) =
    call_on context (super_target context above name (types_of context scope arguments)) (this_value context) (values context scope arguments)
effect context scope (trees.New class arguments) = value context scope (trees.New class arguments) >>= λ object. pure None
effect context scope (trees.Int number) = stuck
effect context scope (trees.Long number) = stuck
effect context scope (Text units) = stuck
effect context scope (Truth known) = stuck
effect context scope trees.Null = stuck
effect context scope This = stuck
effect context scope (Variable variable) = stuck
effect context scope (ClassOf kind) = stuck
effect context scope (Field object name) = stuck
effect context scope (Static class name) = stuck
effect context scope (Element array index) = stuck
effect context scope (NewArray kind sizes more) = stuck
effect context scope (Cast kind operand) = stuck
effect context scope (InstanceOf operand kind) = stuck
effect context scope (Negative operand) = stuck
effect context scope (Not operand) = stuck
effect context scope (Binary operator left right) = stuck
effect context scope (Choice test first second) = stuck
effect context scope (Assign variable new) = stuck
