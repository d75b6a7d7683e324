-- The types that variables and expressions have (JLS 4.3, 5.6, 6.3, 15), as far as the meaning of source rests on them.
use Rattle.std.specs.Prelude.{ℕ, zero, suc, ◌+◌, ◌==◌, ◌&&◌, Bool, List, [], ◌∷◌, Option, Some, None, option_map, option_and_then, codes, if◌then◌else◌}
use Rattle.dj_names.specs.declared.header.Header.{Header}
use Rattle.dj_names.specs.Headers.{Name}
use Rattle.dj_names.specs.Types as types
use Rattle.dj_names.specs.Types.{JType, Boolean, Int, Long, Class, Array, StaticType, Of}
use Rattle.dj_syntax.specs.declared.variable.Var.{Var}
use Rattle.dj_syntax.specs.NameText.{letter}
use Rattle.dj_syntax.specs.Trees.{Exp, Text, Truth, This, Variable, ClassOf, Field, Static, Element, Call, StaticCall, SuperCall, New, NewArray, Cast, InstanceOf, Negative, Not, Binary, Choice, Assign, Exps, NoExps, AndExp}
use Rattle.dj_syntax.specs.Trees as trees
use Rattle.dj_values.specs.Values.{Value}
use Rattle.dj_values.specs.Fits.{element_of}
use Rattle.dj_meaning.specs.Members.{Members}
use Rattle.dj_meaning.specs.Promotions.{promoted, typing_of, result_type}
use Rattle.dj_meaning.specs.Fields.{KnownField, Selection, Length, Member, selected, named_field}
use Rattle.dj_meaning.specs.Targets.{Target, result, of_object, of_class, of_super, of_new, of_construct}

-- what a run knows: the headers of the classes that run, the members of those of the world in the same order,
-- the class of the body, its method's result, `this`, where it has one, and whether it is a constructor's
pub record Context : Type 0 where
  pub headers : List Header
  pub members : List Members
  pub class : List ℕ
  pub result : Option JType
  pub this : Option Value
  pub constructs : Bool

-- the type of each variable that is in scope (6.3)
abbrev pub Scope : Type 0
Scope = Var → Option JType

-- two variables are spelled alike
abbrev pub is_same_variable : Var → Var → Bool
is_same_variable first second = (letter first.kind == letter second.kind) && (first.number == second.number)

-- a scope with one variable more
abbrev pub with_type : Var → JType → Scope → Scope
with_type variable type scope other = if is_same_variable other variable then Some type else scope other

-- ---- calls

-- what a call of an object's method asks for, given the types of the object and of the arguments
abbrev pub object_target : Context → Name → Option JType → Option (List StaticType) → Option Target
object_target context name object arguments =
    option_and_then (λ types. option_and_then (of_object context.headers context.members context.class name types) object) arguments

-- what a call of a static method asks for
abbrev pub class_target : Context → Name → Name → Option (List StaticType) → Option Target
class_target context class name arguments = option_and_then (of_class context.headers context.members context.class class name) arguments

-- what a call behind `super` asks for
abbrev pub super_target : Context → Option Name → Name → Option (List StaticType) → Option Target
super_target context above name arguments = option_and_then (of_super context.headers context.members context.class above name) arguments

-- which constructor `new` calls
abbrev pub new_target : Context → Name → Option (List StaticType) → Option Target
new_target context class arguments = option_and_then (of_new context.headers context.members context.class class) arguments

-- which constructor `this(..)` or `super(..)` calls
abbrev pub construct_target : Context → Bool → Option (List StaticType) → Option Target
construct_target context own arguments = option_and_then (of_construct context.headers context.members context.class own) arguments

-- ---- expressions

-- the types of the machine among the types of expressions; that of null is none
abbrev pub plain : Option StaticType → Option JType
plain None = None
plain (Some types.Null) = None
plain (Some (Of type)) = Some type

-- a type of the machine as that of an expression
abbrev pub typed : Option JType → Option StaticType
typed None = None
typed (Some type) = Some (Of type)

-- an array of arrays, so many times
abbrev pub array_of : ℕ → JType → JType
array_of zero type = type
array_of (suc dimensions) type = Array (array_of dimensions type)

-- how many expressions there are
abbrev pub count : Exps → ℕ
count NoExps = zero
count (AndExp first rest) = suc (count rest)

-- the type of what a name selects
abbrev pub selection_type : Selection → JType
selection_type Length = Int
selection_type (Member class field) = field.type

-- the type of `a ? b : c` where its results have one type, or one of them is null (15.25)
abbrev pub choice_type : Option StaticType → Option StaticType → Option StaticType
choice_type None second = None
choice_type (Some types.Null) second = second
choice_type (Some (Of type)) second = Some (Of type)

-- one more type in front
abbrev pub and_type : Option StaticType → Option (List StaticType) → Option (List StaticType)
and_type first rest = option_and_then (λ one. option_map (λ more. one ∷ more) rest) first

abbrev mutual
  -- the type of an expression, none where it has none
  pub type_of : Context → Scope → Exp → Option StaticType
  type_of context scope (trees.Int number) = Some (Of Int)
  type_of context scope (trees.Long number) = Some (Of Long)
  type_of context scope (Text units) = Some (Of (Class (codes "java/lang/String")))
  type_of context scope (Truth known) = Some (Of Boolean)
  type_of context scope trees.Null = Some types.Null
  type_of context scope This = Some (Of (Class context.class))
  type_of context scope (Variable variable) = typed (scope variable)
  type_of context scope (ClassOf kind) = Some (Of (Class (codes "java/lang/Class")))
  type_of context scope (Field object name) =
      typed (option_map selection_type (option_and_then (selected context.headers context.members context.class name) (plain (type_of context scope object))))
  type_of context scope (Static class name) =
      typed (option_map (λ (field : KnownField). field.type) (named_field context.headers context.members context.class class name))
  type_of context scope (Element array index) = typed (option_and_then element_of (plain (type_of context scope array)))
  type_of context scope (Call object name arguments) =
      typed (option_and_then result (object_target context name (plain (type_of context scope object)) (types_of context scope arguments)))
  type_of context scope (StaticCall class name arguments) = typed (option_and_then result (class_target context class name (types_of context scope arguments)))
  type_of context scope (SuperCall above name arguments) = typed (option_and_then result (super_target context above name (types_of context scope arguments)))
  type_of context scope (New class arguments) = Some (Of (Class class))
  type_of context scope (NewArray kind sizes more) = Some (Of (array_of (count sizes + more) kind))
  type_of context scope (Cast kind operand) = Some (Of kind)
  type_of context scope (InstanceOf operand kind) = Some (Of Boolean)
  type_of context scope (Negative operand) = typed (option_and_then promoted (plain (type_of context scope operand)))
  type_of context scope (Not operand) = Some (Of Boolean)
  type_of context scope (Binary operator left right) =
      typed (result_type (typing_of operator) (plain (type_of context scope left)) (plain (type_of context scope right)))
  type_of context scope (Choice test first second) = choice_type (type_of context scope first) (type_of context scope second)
  type_of context scope (Assign variable assigned) = typed (scope variable)

  -- the types of expressions, none where one has none
  pub types_of : Context → Scope → Exps → Option (List StaticType)
  types_of context scope NoExps = Some []
  types_of context scope (AndExp first rest) = and_type (type_of context scope first) (types_of context scope rest)
