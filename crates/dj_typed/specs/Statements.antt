-- The rules on statements (JLS 14), each at its statement's place. Where a part has no type, that part breaks a rule itself, at a later place, and the rules on
-- what it is a part of keep silent.
use Rattle.std.specs.Prelude.{ℕ, ◌+◌, Bool, true, false, not, ◌&&◌, is_some, List, [], ◌∷◌, ◌++◌, Option, Some, None, option_and_then}
use Rattle.dj_names.specs.declared.header.Header.{Header}
use Rattle.dj_names.specs.Headers.{Name}
use Rattle.dj_names.specs.Types as types
use Rattle.dj_names.specs.Types.{JType, Class, StaticType, Of}
use Rattle.dj_syntax.specs.declared.variable.Var.{Var}
use Rattle.dj_syntax.specs.Trees.{Exp, Exps, Stm, Block, Labelled, Declare, Set, SetField, SetStatic, SetElement, Run, If, While, Switch, Throw, Rethrow, Try, Synchronized, Construct, Do, For, Finally, Stms, Empty, And, Groups, NoGroups, AndGroup, Catches, NoCatches, AndCatch}
use Rattle.dj_syntax.specs.Trees as trees
use Rattle.dj_syntax.specs.Weight.{weight_of, weight_of_exp, weight_of_stms}
use Rattle.dj_syntax.specs.WellFormedTrees.{is_call, is_declaration, has_no_group, has_no_catch}
use Rattle.dj_values.specs.Deciding.{is_type, is_array, is_reference}
use Rattle.dj_values.specs.Fits.{throwable_name, element_of}
use Rattle.dj_meaning.specs.Calls.{is_assignable}
use Rattle.dj_meaning.specs.StaticTypes.{Scope, with_type, plain, typed, type_of, types_of, construct_target}
use Rattle.dj_meaning.specs.Declarations.{declared, within, behind}
use Rattle.dj_meaning.specs.Statements.{Place, First, Behind, Elsewhere, label_at}
use Rattle.dj_places.specs.Rules.{Rules, NoRule, Rule, ◌and◌}
use Rattle.dj_places.specs.declared.kind.TypeKind.TheVariants as kinds
use Rattle.dj_reach.specs.declared.jump.Jump.{Jump}
use Rattle.dj_reach.specs.declared.jump.Jump.TheVariants.{Break, Continue}
use Rattle.dj_reach.specs.Jumps.{is_one_of}
use Rattle.dj_typing.specs.Sites.{Site, context_of, may_name, may_name_type}
use Rattle.dj_typing.specs.Operands.{is_of, if_typed}
use Rattle.dj_typing.specs.Expressions.{goes, is_condition, is_index, is_whole_static, is_meant, exp_types, exps_types, effect_types}
use Rattle.dj_typed.specs.Stores.{may_set_of, may_set_static, set_type, set_static_type}
use Rattle.dj_typed.specs.Switches.{are_formed, labels_of, are_distinct}

-- what stands around a statement: what names in it mean, the result of the method, whether that is a constructor, and the jumps that are
-- taken, those of the innermost statements last
pub record Around : Type 0 where
  pub site : Site
  pub result : Option JType
  pub constructs : Bool
  pub targets : List Jump

-- with more jumps that are taken
abbrev pub with_targets : List Jump → Around → Around
with_targets jumps around = record around { targets = around.targets ++ jumps }

-- the jumps that a loop takes, given where it stands: a continue with the label right before it (14.16)
abbrev pub turns_of : Option ℕ → List Jump
turns_of None = []
turns_of (Some label) = Continue label ∷ []

-- a loop's own statements
abbrev pub in_loop : Place → Around → Around
in_loop at around = with_targets (turns_of (label_at at)) around

-- ---- parts

-- an expression goes where a type is wanted, if it has one
abbrev pub exp_goes : Site → Scope → Exp → Option JType → Bool
exp_goes site scope exp wanted = goes site.headers (type_of (context_of site) scope exp) wanted

-- so does one that may be left out
abbrev pub option_goes : Site → Scope → Option Exp → Option JType → Bool
option_goes site scope None wanted = true
option_goes site scope (Some exp) wanted = exp_goes site scope exp wanted

-- its rules
abbrev pub option_types : Site → Scope → ℕ → Option Exp → Rules
option_types site scope place None = NoRule
option_types site scope place (Some exp) = exp_types site scope place exp

-- an expression is a condition, if it has a type
abbrev pub is_test : Site → Scope → Exp → Bool
is_test site scope exp = is_condition (type_of (context_of site) scope exp)

-- a variable is in scope, and the class of its type is whole
abbrev pub is_named : Site → Scope → Var → Bool
is_named site scope variable = is_some (scope variable) && if_typed (typed (scope variable)) (is_whole_static site.headers)

-- a variable that isn't in scope may be declared with this type (6.4)
abbrev pub is_new : Site → Scope → Var → JType → Bool
is_new site scope variable kind = not (is_some (scope variable)) && may_name_type site kind

-- an exception (14.18, 14.20)
abbrev pub throwable : Option JType
throwable = Some (Class throwable_name)

-- a value is returned exactly where the method has a result, and goes there (14.17)
abbrev pub returns : Site → Scope → Option JType → Option Exp → Bool
returns site scope None None = true
returns site scope None (Some value) = false
returns site scope (Some result) None = false
returns site scope (Some result) (Some value) = exp_goes site scope value (Some result)

-- an element of an array is assigned (10.4, 15.26.1)
abbrev pub sets_element : Site → Scope → Exp → Exp → Exp → Bool
sets_element site scope array index new =
    if_typed (type_of (context_of site) scope array) (is_of is_array) && is_index (type_of (context_of site) scope index)
    && exp_goes site scope new (option_and_then element_of (plain (type_of (context_of site) scope array)))

-- a switch is on int, and no label of it stands twice
abbrev pub is_on_int : Site → Scope → Exp → Groups → Bool
is_on_int site scope on groups = if_typed (type_of (context_of site) scope on) (is_of (is_type types.Int)) && are_distinct (labels_of groups)

-- a constructor is called first in a constructor, and nowhere else (8.8.7)
abbrev pub may_construct : Bool → Place → Bool
may_construct constructor First = constructor
may_construct constructor (Behind label) = false
may_construct constructor Elsewhere = false

-- one is meant, where the arguments have types
abbrev pub means_constructor : Site → Scope → Bool → Exps → Bool
means_constructor site scope own arguments =
    let given = types_of (context_of site) scope arguments in
    is_meant given (construct_target (context_of site) own given)

-- where `this` isn't there yet (8.8.7.1)
abbrev pub without_this : Site → Site
without_this site = record site { has_this = false }

-- each clause's class can be named, and its variable isn't in scope (6.4, 14.20)
abbrev pub are_new_catches : Site → Scope → Catches → Bool
are_new_catches site scope NoCatches = true
are_new_catches site scope (AndCatch class variable body rest) = may_name site class && not (is_some (scope variable)) && are_new_catches site scope rest

-- each clause's class is one of exceptions (14.20)
abbrev pub are_exceptions : List Header → Catches → Bool
are_exceptions headers NoCatches = true
are_exceptions headers (AndCatch class variable body rest) = is_assignable headers (Of (Class class)) (Class throwable_name) && are_exceptions headers rest

-- ---- statements

abbrev mutual
  -- the rules on a statement at a place: its own, and then those of its parts
  pub stm_types : Around → Place → Scope → ℕ → Stm → Rules
  stm_types around at scope place (Block list) = list_types around scope (place + 1) list
  stm_types around at scope place (Labelled label statement) =
      Rule place kinds.Name (not (is_declaration statement)) and Rule place kinds.Label (not (is_one_of (Break label) around.targets))
      and stm_types (with_targets (Break label ∷ []) around) (Behind label) scope (place + 1) statement
  stm_types around at scope place (Declare variable kind initial) =
      Rule place kinds.Name (is_new around.site scope variable kind) and Rule place kinds.WrongType (option_goes around.site (with_type variable kind scope) initial (Some kind))
      and option_types around.site (with_type variable kind scope) (place + 1) initial
  stm_types around at scope place (Set variable new) =
      Rule place kinds.Name (is_named around.site scope variable) and Rule place kinds.WrongType (exp_goes around.site scope new (scope variable))
      and exp_types around.site scope (place + 1) new
  stm_types around at scope place (SetField object name new) =
      let found = type_of (context_of around.site) scope object in
      Rule place kinds.Name (around.site.can_name name) and Rule place kinds.Access (if_typed found (may_set_of around.site name))
      and Rule place kinds.WrongType (exp_goes around.site scope new (set_type around.site name found))
      and exp_types around.site scope (place + 1) object and exp_types around.site scope (place + 1 + weight_of_exp object) new
  stm_types around at scope place (SetStatic class name new) =
      Rule place kinds.Name (may_name around.site class && around.site.can_name name) and Rule place kinds.Access (may_set_static around.site class name)
      and Rule place kinds.WrongType (exp_goes around.site scope new (set_static_type around.site class name)) and exp_types around.site scope (place + 1) new
  stm_types around at scope place (SetElement array index new) =
      Rule place kinds.WrongType (sets_element around.site scope array index new) and exp_types around.site scope (place + 1) array
      and exp_types around.site scope (place + 1 + weight_of_exp array) index and exp_types around.site scope (place + 1 + weight_of_exp array + weight_of_exp index) new
  stm_types around at scope place (Run call) = Rule place kinds.Name (is_call call) and effect_types around.site scope (place + 1) call
  stm_types around at scope place (If test first second) =
      Rule place kinds.WrongType (is_test around.site scope test) and exp_types around.site scope (place + 1) test
      and list_types around scope (place + 1 + weight_of_exp test) first and list_types around scope (place + 1 + weight_of_exp test + weight_of_stms first) second
  stm_types around at scope place (While test body) =
      Rule place kinds.WrongType (is_test around.site scope test) and exp_types around.site scope (place + 1) test
      and list_types (in_loop at around) scope (place + 1 + weight_of_exp test) body
  stm_types around at scope place (Switch on groups) =
      Rule place kinds.Name (not (has_no_group groups) && are_formed groups) and Rule place kinds.WrongType (is_on_int around.site scope on groups)
      and exp_types around.site scope (place + 1) on and groups_types around scope (place + 1 + weight_of_exp on) groups
  stm_types around at scope place (trees.Break label) = Rule place kinds.Label (is_one_of (Break label) around.targets)
  stm_types around at scope place (trees.Continue label) = Rule place kinds.Label (is_one_of (Continue label) around.targets)
  stm_types around at scope place (trees.Return value) =
      Rule place kinds.WrongType (returns around.site scope around.result value) and option_types around.site scope (place + 1) value
  stm_types around at scope place (Throw exception) =
      Rule place kinds.WrongType (exp_goes around.site scope exception throwable) and exp_types around.site scope (place + 1) exception
  stm_types around at scope place (Rethrow variable) =
      Rule place kinds.Name (is_named around.site scope variable) and Rule place kinds.WrongType (goes around.site.headers (typed (scope variable)) throwable)
  stm_types around at scope place (Try body catches) =
      Rule place kinds.Name (not (has_no_catch catches) && are_new_catches around.site scope catches) and Rule place kinds.Catch (are_exceptions around.site.headers catches)
      and list_types around scope (place + 1) body and catches_types around scope (place + 1 + weight_of_stms body) catches
  stm_types around at scope place (Synchronized monitor body) =
      Rule place kinds.WrongType (if_typed (type_of (context_of around.site) scope monitor) (is_of is_reference))
      and exp_types around.site scope (place + 1) monitor and list_types around scope (place + 1 + weight_of_exp monitor) body
  stm_types around at scope place (Construct own arguments) =
      Rule place kinds.Call (may_construct around.constructs at && means_constructor around.site scope own arguments) and exps_types (without_this around.site) scope (place + 1) arguments
  stm_types around at scope place (Do body test) =
      Rule place kinds.WrongType (is_test around.site scope test) and list_types (in_loop at around) scope (place + 1) body
      and exp_types around.site scope (place + 1 + weight_of_stms body) test
  stm_types around at scope place (For test variable step body) =
      Rule place kinds.Name (is_named around.site scope variable) and Rule place kinds.WrongType (is_test around.site scope test && exp_goes around.site scope step (scope variable))
      and exp_types around.site scope (place + 1) test and exp_types around.site scope (place + 1 + weight_of_exp test) step
      and list_types (in_loop at around) scope (place + 1 + weight_of_exp test + weight_of_exp step) body
  stm_types around at scope place (Finally body last) =
      list_types around scope (place + 1) body and list_types around scope (place + 1 + weight_of_stms body) last

  -- statements in order; what one declares is in scope in those behind it (6.3)
  pub list_types : Around → Scope → ℕ → Stms → Rules
  list_types around scope place Empty = NoRule
  list_types around scope place (And first rest) =
      stm_types around Elsewhere scope place first and list_types around (within (declared first) scope) (place + weight_of first) rest

  -- the statements of catch clauses, in each of which its variable is in scope
  pub catches_types : Around → Scope → ℕ → Catches → Rules
  catches_types around scope place NoCatches = NoRule
  catches_types around scope place (AndCatch class variable body rest) =
      list_types around (with_type variable (Class class) scope) place body and catches_types around scope (place + weight_of_stms body) rest

  -- the groups of a switch: what one declares is in scope in those behind it (6.3)
  pub groups_types : Around → Scope → ℕ → Groups → Rules
  groups_types around scope place NoGroups = NoRule
  groups_types around scope place (AndGroup labels body rest) =
      list_types around scope place body and groups_types around (behind body scope) (place + weight_of_stms body) rest

-- the statements of a body, of which the first stands at its beginning
abbrev pub all_types : Around → Scope → Stms → Rules
all_types around scope Empty = NoRule
all_types around scope (And first rest) = stm_types around First scope 0 first and list_types around (within (declared first) scope) (weight_of first) rest
