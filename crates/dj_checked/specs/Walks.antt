-- The walk over an expression in the order of its text, as the program makes it: to which place it has come, and the first fault so far. The rules on an
-- expression are looked at behind its parts, whose types they ask for. The laws in `proofs/` say that it finds what the definitions say.
use Rattle.std.specs.Prelude.{ℕ, ◌+◌, Bool, not, ◌&&◌, is_some, List, [], ◌∷◌, ◌++◌, Option, Some, None, option_map, option_and_then, codes}
use Rattle.dj_names.specs.Headers.{Name}
use Rattle.dj_names.specs.Types.{JType, Class, StaticType, Of}
use Rattle.dj_syntax.specs.declared.operator.Op.{Op}
use Rattle.dj_syntax.specs.Trees.{Exp, Text, Truth, Null, This, Variable, ClassOf, Field, Static, Element, Call, StaticCall, SuperCall, New, NewArray, Cast, InstanceOf, Negative, Not, Binary, Choice, Assign, Exps, NoExps, AndExp}
use Rattle.dj_syntax.specs.Trees as trees
use Rattle.dj_syntax.specs.WellFormedTrees.{has_no_exp}
use Rattle.dj_values.specs.Deciding.{is_array, is_reference}
use Rattle.dj_values.specs.Fits.{element_of}
use Rattle.dj_meaning.specs.Fields.{KnownField, selected, named_field}
use Rattle.dj_meaning.specs.Promotions.{typing_of, result_type}
use Rattle.dj_meaning.specs.StaticTypes.{Scope, plain, typed, selection_type, type_of, types_of, object_target, class_target, super_target, new_target}
use Rattle.dj_meaning.specs.Targets.{Target, result}
use Rattle.dj_places.specs.Places.{told}
use Rattle.dj_places.specs.declared.kind.TypeKind.{TypeKind}
use Rattle.dj_places.specs.declared.kind.TypeKind.TheVariants as kinds
use Rattle.dj_faults.specs.Faults.{lower, fault_at}
use Rattle.dj_typing.specs.Sites.{Site, context_of, may_name, may_name_type}
use Rattle.dj_typing.specs.Casting.{is_number, may_be_of, may_cast}
use Rattle.dj_typing.specs.Operands.{is_of, operands_of, takes, agree, if_typed, if_both}
use Rattle.dj_typing.specs.Expressions.{goes, is_condition, is_index, are_indexes, is_whole_static, selects, gives_value, is_meant, means_abstract, has_super, is_abstract}
use Rattle.dj_checked.specs.declared.walk.Walk.{Walk}

-- ---- steps

-- past the beginning of an expression: its parts come next
abbrev pub step : Walk → Walk
step walk = record { place = told (walk.place + 1); fault = walk.fault }

-- a rule at a place that is passed, kept or broken
abbrev pub note : ℕ → TypeKind → Bool → Walk → Walk
note place kind kept walk = record { place = walk.place; fault = lower walk.fault (fault_at place kind kept) }

-- the class of a type is whole
abbrev pub note_whole : Site → ℕ → Option StaticType → Walk → Walk
note_whole site place found walk = note place kinds.Name (if_typed found (is_whole_static site.headers)) walk

-- ---- the types of expressions, by those of their parts

-- of a text (3.10.5)
abbrev pub text_type : Option StaticType
text_type = Some (Of (Class (codes "java/lang/String")))

-- of a class literal (15.8.2)
abbrev pub class_type : Option StaticType
class_type = Some (Of (Class (codes "java/lang/Class")))

-- of what a name selects of an object of a type
abbrev pub field_type : Site → Name → Option StaticType → Option StaticType
field_type site name object = typed (option_map selection_type (option_and_then (selected site.headers site.members site.class name) (plain object)))

-- of a static field
abbrev pub static_type : Site → Name → Name → Option StaticType
static_type site class name = typed (option_map (λ (field : KnownField). field.type) (named_field site.headers site.members site.class class name))

-- of the elements of an array of a type
abbrev pub element_type : Option StaticType → Option StaticType
element_type array = typed (option_and_then element_of (plain array))

-- of calls, by the types of the object and of the arguments
abbrev pub call_type : Site → Name → Option StaticType → Option (List StaticType) → Option StaticType
call_type site name object given = typed (option_and_then result (object_target (context_of site) name (plain object) given))

-- of a call of a static method
abbrev pub static_call_type : Site → Name → Name → Option (List StaticType) → Option StaticType
static_call_type site class name given = typed (option_and_then result (class_target (context_of site) class name given))

-- of a call of a method above the class
abbrev pub super_call_type : Site → Option Name → Name → Option (List StaticType) → Option StaticType
super_call_type site above name given = typed (option_and_then result (super_target (context_of site) above name given))

-- of an operator's result, by the types of the operands
abbrev pub binary_type : Op → Option StaticType → Option StaticType → Option StaticType
binary_type operator left right = typed (result_type (typing_of operator) (plain left) (plain right))

-- ---- the rules on an expression, by the types of its parts

-- on `this`: it may stand here, and its class is whole
abbrev pub note_this : Site → ℕ → Walk → Walk
note_this site place walk = note_whole site place (Some (Of (Class site.class))) (note place kinds.Name site.has_this walk)

-- on a variable: it is in scope, and the class of its type is whole
abbrev pub note_variable : Site → ℕ → Option JType → Walk → Walk
note_variable site place declared walk = note_whole site place (typed declared) (note place kinds.Name (is_some declared) walk)

-- on a class literal: of a class or an array that can be named
abbrev pub note_class : Site → ℕ → JType → Walk → Walk
note_class site place kind walk = note_whole site place class_type (note place kinds.Name (is_reference kind && may_name_type site kind) walk)

-- on a field of an object: the name can be written, and selects something
abbrev pub note_field : Site → ℕ → Name → Option StaticType → Walk → Walk
note_field site place name object walk =
    note_whole site place (field_type site name object)
    (note place kinds.Access (if_typed object (selects site name)) (note place kinds.Name (site.can_name name) walk))

-- on a static field: its class and its name can be written, and name one
abbrev pub note_static : Site → ℕ → Name → Name → Walk → Walk
note_static site place class name walk =
    note_whole site place (static_type site class name)
    (note place kinds.Access (is_some (named_field site.headers site.members site.class class name)) (note place kinds.Name (may_name site class && site.can_name name) walk))

-- on an element: that of an array, at an int
abbrev pub note_element : Site → ℕ → Option StaticType → Option StaticType → Walk → Walk
note_element site place array index walk =
    note_whole site place (element_type array) (note place kinds.WrongType (is_index index) (note place kinds.WrongType (if_typed array (is_of is_array)) walk))

-- a call gives a value
abbrev pub note_value : ℕ → Option Target → Walk → Walk
note_value place target walk = note place kinds.WrongType (gives_value target) walk

-- some method is meant by a call of a method of an object of this type, where the object and the arguments have types
abbrev pub is_called : Site → Name → Option StaticType → Option (List StaticType) → Bool
is_called site name object given = if_typed object (λ type. is_meant given (object_target (context_of site) name (plain (Some type)) given))

-- the rules on a call itself, whether it gives a value or not
abbrev pub note_call_itself : Site → ℕ → Name → Option StaticType → Option (List StaticType) → Walk → Walk
note_call_itself site place name object given walk =
    note_whole site place (call_type site name object given) (note place kinds.Call (is_called site name object given) (note place kinds.Name (site.can_name name) walk))

-- on a call whose value is used
abbrev pub note_call : Site → ℕ → Name → Option StaticType → Option (List StaticType) → Walk → Walk
note_call site place name object given walk =
    note_value place (object_target (context_of site) name (plain object) given) (note_call_itself site place name object given walk)

-- the same of a static method: with its class named
abbrev pub note_static_call_itself : Site → ℕ → Name → Name → Option (List StaticType) → Walk → Walk
note_static_call_itself site place class name given walk =
    note_whole site place (static_call_type site class name given)
    (note place kinds.Call (is_meant given (class_target (context_of site) class name given)) (note place kinds.Name (may_name site class && site.can_name name) walk))

-- on such a call whose value is used
abbrev pub note_static_call : Site → ℕ → Name → Name → Option (List StaticType) → Walk → Walk
note_static_call site place class name given walk =
    note_value place (class_target (context_of site) class name given) (note_static_call_itself site place class name given walk)

-- the same of a method above the class: it may stand here, and means a method that has code
abbrev pub note_super_call_itself : Site → ℕ → Option Name → Name → Option (List StaticType) → Walk → Walk
note_super_call_itself site place above name given walk =
    note_whole site place (super_call_type site above name given)
    (note place kinds.Call (is_meant given (super_target (context_of site) above name given) && not (means_abstract site above name given))
    (note place kinds.Name (site.has_this && has_super site above && site.can_name name) walk))

-- on such a call whose value is used
abbrev pub note_super_call : Site → ℕ → Option Name → Name → Option (List StaticType) → Walk → Walk
note_super_call site place above name given walk =
    note_value place (super_target (context_of site) above name given) (note_super_call_itself site place above name given walk)

-- on a new object: of a class that is named and not abstract, by a constructor that is meant
abbrev pub note_new : Site → ℕ → Name → Option (List StaticType) → Walk → Walk
note_new site place class given walk =
    note place kinds.Call (not (is_abstract site.headers class) && is_meant given (new_target (context_of site) class given)) (note place kinds.Name (may_name site class) walk)

-- on a new array: its elements are of a type that can be named, some size is given, and each is an int
abbrev pub note_new_array : Site → ℕ → JType → Bool → Bool → Walk → Walk
note_new_array site place kind sized indexed walk =
    note place kinds.WrongType indexed (note place kinds.Name (may_name_type site kind && not (is_array kind) && sized) walk)

-- on a cast: to a type that can be named, from one that may become it
abbrev pub note_cast : Site → ℕ → JType → Option StaticType → Walk → Walk
note_cast site place kind operand walk =
    note place kinds.WrongType (if_typed operand (λ type. may_cast site.headers type kind)) (note place kinds.Name (may_name_type site kind) walk)

-- on `instanceof`: of a reference type that can be named, and that the operand may be of
abbrev pub note_instance_of : Site → ℕ → JType → Option StaticType → Walk → Walk
note_instance_of site place kind operand walk =
    note place kinds.WrongType (is_reference kind && if_typed operand (λ type. may_be_of site.headers type kind)) (note place kinds.Name (may_name_type site kind) walk)

-- on a minus: before a number
abbrev pub note_negative : ℕ → Option StaticType → Walk → Walk
note_negative place operand walk = note place kinds.WrongType (if_typed operand (is_of is_number)) walk

-- on `!`: before a boolean
abbrev pub note_not : ℕ → Option StaticType → Walk → Walk
note_not place operand walk = note place kinds.WrongType (is_condition operand) walk

-- on an operator: it takes operands of these types
abbrev pub note_binary : Site → ℕ → Op → Option StaticType → Option StaticType → Walk → Walk
note_binary site place operator left right walk = note place kinds.WrongType (if_both left right (takes site.headers (operands_of operator))) walk

-- on a choice: by a boolean, of two types that agree
abbrev pub note_choice : ℕ → Option StaticType → Option StaticType → Option StaticType → Walk → Walk
note_choice place test first second walk = note place kinds.WrongType (if_both first second agree) (note place kinds.WrongType (is_condition test) walk)

-- on an assignment: to a variable in scope, of what goes into it
abbrev pub note_assign : Site → ℕ → Option JType → Option StaticType → Walk → Walk
note_assign site place declared new walk =
    note_whole site place (typed declared) (note place kinds.WrongType (goes site.headers new declared) (note place kinds.Name (is_some declared) walk))

-- ---- expressions

abbrev mutual
  -- past an expression: its parts in order, and then the rules on itself
  pub pass_exp : Site → Scope → Exp → Walk → Walk
  pass_exp site scope (trees.Int number) walk = step walk
  pass_exp site scope (trees.Long number) walk = step walk
  pass_exp site scope (Text units) walk = note_whole site walk.place text_type (step walk)
  pass_exp site scope (Truth known) walk = step walk
  pass_exp site scope Null walk = step walk
  pass_exp site scope This walk = note_this site walk.place (step walk)
  pass_exp site scope (Variable variable) walk = note_variable site walk.place (scope variable) (step walk)
  pass_exp site scope (ClassOf kind) walk = note_class site walk.place kind (step walk)
  pass_exp site scope (Field object name) walk = note_field site walk.place name (type_of (context_of site) scope object) (pass_exp site scope object (step walk))
  pass_exp site scope (Static class name) walk = note_static site walk.place class name (step walk)
  pass_exp site scope (Element array index) walk =
      note_element site walk.place (type_of (context_of site) scope array) (type_of (context_of site) scope index)
      (pass_exp site scope index (pass_exp site scope array (step walk)))
  pass_exp site scope (Call object name arguments) walk =
      note_call site walk.place name (type_of (context_of site) scope object) (types_of (context_of site) scope arguments)
      (pass_exps site scope arguments (pass_exp site scope object (step walk)))
  pass_exp site scope (StaticCall class name arguments) walk =
      note_static_call site walk.place class name (types_of (context_of site) scope arguments) (pass_exps site scope arguments (step walk))
  pass_exp site scope (SuperCall above name arguments) walk =
      note_super_call site walk.place above name (types_of (context_of site) scope arguments) (pass_exps site scope arguments (step walk))
  pass_exp site scope (New class arguments) walk = note_new site walk.place class (types_of (context_of site) scope arguments) (pass_exps site scope arguments (step walk))
  pass_exp site scope (NewArray kind sizes more) walk =
      note_new_array site walk.place kind (not (has_no_exp sizes)) (are_indexes site scope sizes) (pass_exps site scope sizes (step walk))
  pass_exp site scope (Cast kind operand) walk = note_cast site walk.place kind (type_of (context_of site) scope operand) (pass_exp site scope operand (step walk))
  pass_exp site scope (InstanceOf operand kind) walk =
      note_instance_of site walk.place kind (type_of (context_of site) scope operand) (pass_exp site scope operand (step walk))
  pass_exp site scope (Negative operand) walk = note_negative walk.place (type_of (context_of site) scope operand) (pass_exp site scope operand (step walk))
  pass_exp site scope (Not operand) walk = note_not walk.place (type_of (context_of site) scope operand) (pass_exp site scope operand (step walk))
  pass_exp site scope (Binary operator left right) walk =
      note_binary site walk.place operator (type_of (context_of site) scope left) (type_of (context_of site) scope right)
      (pass_exp site scope right (pass_exp site scope left (step walk)))
  pass_exp site scope (Choice test first second) walk =
      note_choice walk.place (type_of (context_of site) scope test) (type_of (context_of site) scope first) (type_of (context_of site) scope second)
      (pass_exp site scope second (pass_exp site scope first (pass_exp site scope test (step walk))))
  pass_exp site scope (Assign variable new) walk =
      note_assign site walk.place (scope variable) (type_of (context_of site) scope new) (pass_exp site scope new (step walk))

  -- past expressions, one after another
  pub pass_exps : Site → Scope → Exps → Walk → Walk
  pass_exps site scope NoExps walk = walk
  pass_exps site scope (AndExp first rest) walk = pass_exps site scope rest (pass_exp site scope first walk)

-- past an expression that is a statement of its own: a call may give nothing there
abbrev pub pass_effect : Site → Scope → Exp → Walk → Walk
pass_effect site scope (Call object name arguments) walk =
    note_call_itself site walk.place name (type_of (context_of site) scope object) (types_of (context_of site) scope arguments) (pass_exps site scope arguments (pass_exp site scope object (step walk)))
pass_effect site scope (StaticCall class name arguments) walk =
    note_static_call_itself site walk.place class name (types_of (context_of site) scope arguments) (pass_exps site scope arguments (step walk))
pass_effect site scope (SuperCall above name arguments) walk =
    note_super_call_itself site walk.place above name (types_of (context_of site) scope arguments) (pass_exps site scope arguments (step walk))
pass_effect site scope (trees.Int number) walk = pass_exp site scope (trees.Int number) walk
pass_effect site scope (trees.Long number) walk = pass_exp site scope (trees.Long number) walk
pass_effect site scope (Text units) walk = pass_exp site scope (Text units) walk
pass_effect site scope (Truth known) walk = pass_exp site scope (Truth known) walk
pass_effect site scope Null walk = pass_exp site scope Null walk
pass_effect site scope This walk = pass_exp site scope This walk
pass_effect site scope (Variable variable) walk = pass_exp site scope (Variable variable) walk
pass_effect site scope (ClassOf kind) walk = pass_exp site scope (ClassOf kind) walk
pass_effect site scope (Field object name) walk = pass_exp site scope (Field object name) walk
pass_effect site scope (Static class name) walk = pass_exp site scope (Static class name) walk
pass_effect site scope (Element array index) walk = pass_exp site scope (Element array index) walk
pass_effect site scope (New class arguments) walk = pass_exp site scope (New class arguments) walk
pass_effect site scope (NewArray kind sizes more) walk = pass_exp site scope (NewArray kind sizes more) walk
pass_effect site scope (Cast kind operand) walk = pass_exp site scope (Cast kind operand) walk
pass_effect site scope (InstanceOf operand kind) walk = pass_exp site scope (InstanceOf operand kind) walk
pass_effect site scope (Negative operand) walk = pass_exp site scope (Negative operand) walk
pass_effect site scope (Not operand) walk = pass_exp site scope (Not operand) walk
pass_effect site scope (Binary operator left right) walk = pass_exp site scope (Binary operator left right) walk
pass_effect site scope (Choice test first second) walk = pass_exp site scope (Choice test first second) walk
pass_effect site scope (Assign variable new) walk = pass_exp site scope (Assign variable new) walk

-- one type behind others, where there is each
abbrev pub and_last : Option (List StaticType) → Option StaticType → Option (List StaticType)
and_last None kind = None
and_last (Some types) None = None
and_last (Some types) (Some kind) = Some (types ++ kind ∷ [])

-- as a walk begins
abbrev pub opening : Walk
opening = record { place = 0; fault = None }
