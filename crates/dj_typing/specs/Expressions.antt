-- The rules on expressions (JLS 15), each at its expression's place. Where a part has no type, that part breaks a rule itself, at a later place, and the
-- rules on what it is a part of keep silent.
use Rattle.std.specs.Prelude.{ℕ, ◌+◌, Bool, true, false, not, ◌&&◌, ◌==◌, bit_and, is_some, List, Option, Some, None, option_and_then}
use Rattle.std.specs.List.{list_any}
use Rattle.dj_names.specs.declared.header.Header.{Header}
use Rattle.dj_names.specs.Headers.{Name}
use Rattle.dj_names.specs.Types as types
use Rattle.dj_names.specs.Types.{JType, Boolean, Class, StaticType, Of}
use Rattle.dj_syntax.specs.Trees.{Exp, Text, Truth, Null, This, Variable, ClassOf, Field, Static, Element, Call, StaticCall, SuperCall, New, NewArray, Cast, InstanceOf, Negative, Not, Binary, Choice, Assign, Exps, NoExps, AndExp}
use Rattle.dj_syntax.specs.Trees as trees
use Rattle.dj_syntax.specs.Weight.{weight_of_exp}
use Rattle.dj_syntax.specs.WellFormedTrees.{has_no_exp}
use Rattle.dj_values.specs.Deciding.{is_name, is_array, is_reference, is_some_and, is_interface}
use Rattle.dj_kinds.specs.Search.{header_of, superclass_in, interfaces_of}
use Rattle.dj_meaning.specs.Calls.{MethodIn, is_assignable, chosen}
use Rattle.dj_meaning.specs.Fields.{selected, named_field}
use Rattle.dj_meaning.specs.Members.{has_flag}
use Rattle.dj_meaning.specs.Targets.{Target, result}
use Rattle.dj_meaning.specs.StaticTypes.{Scope, plain, type_of, types_of, object_target, class_target, super_target, new_target}
use Rattle.dj_faults.specs.Rules.{Rules, NoRule, Rule, ◌and◌}
use Rattle.dj_faults.specs.TypeKind.TheVariants as kinds
use Rattle.dj_typing.specs.Sites.{Site, context_of, is_whole_type, may_name, may_name_type}
use Rattle.dj_typing.specs.Casting.{is_number, may_be_of, may_cast}
use Rattle.dj_typing.specs.Operands.{is_of, is_boolean, is_int, operands_of, takes, agree, if_typed, if_both}

-- ---- what a type must be

-- an expression of this type goes where that one is wanted (5.2, 5.3), where there are both
abbrev pub goes : List Header → Option StaticType → Option JType → Bool
goes headers found None = true
goes headers found (Some wanted) = if_typed found (λ type. is_assignable headers type wanted)

-- a condition
abbrev pub is_condition : Option StaticType → Bool
is_condition found = if_typed found (is_of is_boolean)

-- an index, or a size of an array (15.10.1, 15.10.3)
abbrev pub is_index : Option StaticType → Bool
is_index found = if_typed found (is_of is_int)

-- each of these is
abbrev pub are_indexes : Site → Scope → Exps → Bool
are_indexes site scope NoExps = true
are_indexes site scope (AndExp first rest) = is_index (type_of (context_of site) scope first) && are_indexes site scope rest

-- the class in a type of the machine is whole; null has none
abbrev pub is_whole_static : List Header → StaticType → Bool
is_whole_static headers types.Null = true
is_whole_static headers (Of type) = is_whole_type headers type

-- ---- calls

-- a name selects something of an object of this type (15.11.1)
abbrev pub selects : Site → Name → StaticType → Bool
selects site name types.Null = false
selects site name (Of type) = is_some (selected site.headers site.members site.class name type)

-- a call gives a value, or means no method; one of a method without a result gives nothing, and stands alone, as a statement (14.8, 15.1)
abbrev pub gives_value : Option Target → Bool
gives_value None = true
gives_value (Some one) = is_some (result one)

-- some method is meant, where the arguments have types
abbrev pub is_meant : {A : Type 0} → Option (List StaticType) → Option A → Bool
is_meant None found = true
is_meant (Some types) found = is_some found

-- some method is meant by a call of an object's method, where the object and the arguments have types
abbrev pub calls : Site → Scope → Exp → Name → Exps → Bool
calls site scope object name arguments =
    if_typed (type_of (context_of site) scope object) (λ type.
    is_meant (types_of (context_of site) scope arguments) (object_target (context_of site) name (plain (Some type)) (types_of (context_of site) scope arguments)))

-- the class above, or the interface that is named before `super`
abbrev pub above_of : Site → Option Name → Option Name
above_of site None = superclass_in (header_of site.headers site.class)
above_of site (Some interface) = Some interface

-- the method that a call behind `super` means is abstract (15.12.3)
abbrev pub means_abstract : Site → Option Name → Name → Option (List StaticType) → Bool
means_abstract site above name None = false
means_abstract site above name (Some arguments) =
    is_some_and (option_and_then (λ class. chosen site.headers site.members (record { from = site.class; class = class; through = None; name = name; arguments = arguments })) (above_of site above))
    (λ (one : MethodIn). has_flag 0x0400 one.method.flags)

-- `super` may stand so: in no interface alone, behind the name of an interface where the class lists it (15.12.1) and its text can say the name
abbrev pub has_super : Site → Option Name → Bool
has_super site None = not (is_interface site.headers site.class)
has_super site (Some interface) = list_any (λ listed. is_name listed interface) (interfaces_of site.headers site.class) && site.can_say interface

-- a class of which no object is made: with ACC_ABSTRACT, as interfaces have it too (15.9.1; JVMS table 4.1-A)
abbrev pub is_abstract : List Header → Name → Bool
is_abstract headers class = list_any (λ (header : Header). is_name header.name class && not (bit_and header.flags 0x0600 == 0)) headers

-- ---- the rules

-- an expression's type names whole classes
abbrev pub whole : Site → Scope → ℕ → Exp → Rules
whole site scope place exp = Rule place kinds.Name (if_typed (type_of (context_of site) scope exp) (is_whole_static site.headers))

-- the method of an object that a call means
abbrev pub meant_of_object : Site → Scope → Exp → Name → Exps → Option Target
meant_of_object site scope object name arguments =
    object_target (context_of site) name (plain (type_of (context_of site) scope object)) (types_of (context_of site) scope arguments)

-- the static method that a call means
abbrev pub meant_of_class : Site → Scope → Name → Name → Exps → Option Target
meant_of_class site scope class name arguments = class_target (context_of site) class name (types_of (context_of site) scope arguments)

-- the method behind `super` that a call means
abbrev pub meant_above : Site → Scope → Option Name → Name → Exps → Option Target
meant_above site scope above name arguments = super_target (context_of site) above name (types_of (context_of site) scope arguments)

-- the rules on a call itself, whether it gives a value or not
abbrev pub call_itself : Site → Scope → ℕ → Exp → Name → Exps → Rules
call_itself site scope place object name arguments =
    Rule place kinds.Name (site.can_name name) and Rule place kinds.Call (calls site scope object name arguments) and whole site scope place (Call object name arguments)

-- so on a call of a static method
abbrev pub static_call_itself : Site → Scope → ℕ → Name → Name → Exps → Rules
static_call_itself site scope place class name arguments =
    Rule place kinds.Name (may_name site class && site.can_name name)
    and Rule place kinds.Call (is_meant (types_of (context_of site) scope arguments) (meant_of_class site scope class name arguments))
    and whole site scope place (StaticCall class name arguments)

-- and on one behind `super`
abbrev pub super_call_itself : Site → Scope → ℕ → Option Name → Name → Exps → Rules
super_call_itself site scope place above name arguments =
    let given = types_of (context_of site) scope arguments in
    Rule place kinds.Name (site.has_this && has_super site above && site.can_name name)
    and Rule place kinds.Call (is_meant given (meant_above site scope above name arguments) && not (means_abstract site above name given))
    and whole site scope place (SuperCall above name arguments)

abbrev mutual
  -- the rules on an expression at a place, where its value is wanted
  pub exp_types : Site → Scope → ℕ → Exp → Rules
  exp_types site scope place (trees.Int number) = NoRule
  exp_types site scope place (trees.Long number) = NoRule
  exp_types site scope place (Text units) = whole site scope place (Text units)
  exp_types site scope place (Truth known) = NoRule
  exp_types site scope place Null = NoRule
  exp_types site scope place This = Rule place kinds.Name site.has_this and whole site scope place This
  exp_types site scope place (Variable variable) = Rule place kinds.Name (is_some (scope variable)) and whole site scope place (Variable variable)
  exp_types site scope place (ClassOf kind) = Rule place kinds.Name (is_reference kind && may_name_type site kind) and whole site scope place (ClassOf kind)
  exp_types site scope place (Field object name) =
      Rule place kinds.Name (site.can_name name)
      and Rule place kinds.Access (if_typed (type_of (context_of site) scope object) (selects site name))
      and whole site scope place (Field object name) and exp_types site scope (place + 1) object
  exp_types site scope place (Static class name) =
      Rule place kinds.Name (may_name site class && site.can_name name)
      and Rule place kinds.Access (is_some (named_field site.headers site.members site.class class name))
      and whole site scope place (Static class name)
  exp_types site scope place (Element array index) =
      Rule place kinds.WrongType (if_typed (type_of (context_of site) scope array) (is_of is_array))
      and Rule place kinds.WrongType (is_index (type_of (context_of site) scope index))
      and whole site scope place (Element array index) and exp_types site scope (place + 1) array and exp_types site scope (place + 1 + weight_of_exp array) index
  exp_types site scope place (Call object name arguments) =
      Rule place kinds.WrongType (gives_value (meant_of_object site scope object name arguments)) and call_itself site scope place object name arguments
      and exp_types site scope (place + 1) object and exps_types site scope (place + 1 + weight_of_exp object) arguments
  exp_types site scope place (StaticCall class name arguments) =
      Rule place kinds.WrongType (gives_value (meant_of_class site scope class name arguments)) and static_call_itself site scope place class name arguments
      and exps_types site scope (place + 1) arguments
  exp_types site scope place (SuperCall above name arguments) =
      Rule place kinds.WrongType (gives_value (meant_above site scope above name arguments)) and super_call_itself site scope place above name arguments
      and exps_types site scope (place + 1) arguments
  exp_types site scope place (New class arguments) =
      let given = types_of (context_of site) scope arguments in
      Rule place kinds.Name (may_name site class)
      and Rule place kinds.Call (not (is_abstract site.headers class) && is_meant given (new_target (context_of site) class given))
      and exps_types site scope (place + 1) arguments
  exp_types site scope place (NewArray kind sizes more) =
      Rule place kinds.Name (may_name_type site kind && not (is_array kind) && not (has_no_exp sizes)) and Rule place kinds.WrongType (are_indexes site scope sizes)
      and exps_types site scope (place + 1) sizes
  exp_types site scope place (Cast kind operand) =
      Rule place kinds.Name (may_name_type site kind)
      and Rule place kinds.WrongType (if_typed (type_of (context_of site) scope operand) (λ type. may_cast site.headers type kind))
      and exp_types site scope (place + 1) operand
  exp_types site scope place (InstanceOf operand kind) =
      Rule place kinds.Name (may_name_type site kind)
      and Rule place kinds.WrongType (is_reference kind && if_typed (type_of (context_of site) scope operand) (λ type. may_be_of site.headers type kind))
      and exp_types site scope (place + 1) operand
  exp_types site scope place (Negative operand) =
      Rule place kinds.WrongType (if_typed (type_of (context_of site) scope operand) (is_of is_number)) and exp_types site scope (place + 1) operand
  exp_types site scope place (Not operand) =
      Rule place kinds.WrongType (is_condition (type_of (context_of site) scope operand)) and exp_types site scope (place + 1) operand
  exp_types site scope place (Binary operator left right) =
      Rule place kinds.WrongType (if_both (type_of (context_of site) scope left) (type_of (context_of site) scope right) (takes site.headers (operands_of operator)))
      and exp_types site scope (place + 1) left and exp_types site scope (place + 1 + weight_of_exp left) right
  exp_types site scope place (Choice test first second) =
      Rule place kinds.WrongType (is_condition (type_of (context_of site) scope test))
      and Rule place kinds.WrongType (if_both (type_of (context_of site) scope first) (type_of (context_of site) scope second) agree)
      and exp_types site scope (place + 1) test and exp_types site scope (place + 1 + weight_of_exp test) first
      and exp_types site scope (place + 1 + weight_of_exp test + weight_of_exp first) second
  exp_types site scope place (Assign variable new) =
      Rule place kinds.Name (is_some (scope variable))
      and Rule place kinds.WrongType (goes site.headers (type_of (context_of site) scope new) (scope variable))
      and whole site scope place (Assign variable new) and exp_types site scope (place + 1) new

  -- the rules on expressions
  pub exps_types : Site → Scope → ℕ → Exps → Rules
  exps_types site scope place NoExps = NoRule
  exps_types site scope place (AndExp first rest) = exp_types site scope place first and exps_types site scope (place + weight_of_exp first) rest

-- the rules on what may stand alone, as a statement: a call, whether it gives a value or not, or a new object (14.8)
abbrev pub effect_types : Site → Scope → ℕ → Exp → Rules
effect_types site scope place (Call object name arguments) =
    call_itself site scope place object name arguments
    and exp_types site scope (place + 1) object and exps_types site scope (place + 1 + weight_of_exp object) arguments
effect_types site scope place (StaticCall class name arguments) =
    static_call_itself site scope place class name arguments and exps_types site scope (place + 1) arguments
effect_types site scope place (SuperCall above name arguments) =
    super_call_itself site scope place above name arguments and exps_types site scope (place + 1) arguments
effect_types site scope place (trees.Int number) = exp_types site scope place (trees.Int number)
effect_types site scope place (trees.Long number) = exp_types site scope place (trees.Long number)
effect_types site scope place (Text units) = exp_types site scope place (Text units)
effect_types site scope place (Truth known) = exp_types site scope place (Truth known)
effect_types site scope place Null = exp_types site scope place Null
effect_types site scope place This = exp_types site scope place This
effect_types site scope place (Variable variable) = exp_types site scope place (Variable variable)
effect_types site scope place (ClassOf kind) = exp_types site scope place (ClassOf kind)
effect_types site scope place (Field object name) = exp_types site scope place (Field object name)
effect_types site scope place (Static class name) = exp_types site scope place (Static class name)
effect_types site scope place (Element array index) = exp_types site scope place (Element array index)
effect_types site scope place (New class arguments) = exp_types site scope place (New class arguments)
effect_types site scope place (NewArray kind sizes more) = exp_types site scope place (NewArray kind sizes more)
effect_types site scope place (Cast kind operand) = exp_types site scope place (Cast kind operand)
effect_types site scope place (InstanceOf operand kind) = exp_types site scope place (InstanceOf operand kind)
effect_types site scope place (Negative operand) = exp_types site scope place (Negative operand)
effect_types site scope place (Not operand) = exp_types site scope place (Not operand)
effect_types site scope place (Binary operator left right) = exp_types site scope place (Binary operator left right)
effect_types site scope place (Choice test first second) = exp_types site scope place (Choice test first second)
effect_types site scope place (Assign variable new) = exp_types site scope place (Assign variable new)
