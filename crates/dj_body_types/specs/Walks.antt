-- The walk over the statements of a body in the order of its text, as the program makes it: to which place it has come, and the first fault so far. The
-- rules on a statement are looked at behind its expressions, whose types they ask for. The laws in `proofs/` say that it finds what the definitions say.
use Rattle.std.specs.Prelude.{ℕ, Bool, not, ◌&&◌, ◌||◌, List, [], ◌∷◌, Option, Some, None, option_and_then}
use Rattle.dj_names.specs.Headers.{Name}
use Rattle.dj_names.specs.Types as types
use Rattle.dj_names.specs.Types.{JType, Class, StaticType}
use Rattle.dj_syntax.specs.declared.variable.Var.{Var}
use Rattle.dj_syntax.specs.Trees.{Exp, Exps, Stm, Block, Labelled, Declare, Set, SetField, SetStatic, SetElement, Run, If, While, Switch, Throw, Rethrow, Try, Synchronized, Construct, Do, For, Finally, Stms, Empty, And, Groups, NoGroups, AndGroup, Catches, NoCatches, AndCatch, Body}
use Rattle.dj_syntax.specs.Trees as trees
use Rattle.dj_syntax.specs.WellFormedTrees.{is_call, is_declaration, has_no_group, has_no_catch}
use Rattle.dj_values.specs.Deciding.{is_type, is_array, is_reference}
use Rattle.dj_values.specs.Fits.{element_of}
use Rattle.dj_meaning.specs.StaticTypes.{Scope, with_type, plain, typed, type_of}
use Rattle.dj_meaning.specs.Declarations.{declared, within, behind}
use Rattle.dj_meaning.specs.Statements.{Place, First, Behind, Elsewhere}
use Rattle.dj_places.specs.declared.kind.TypeKind.TheVariants as kinds
use Rattle.dj_reach.specs.declared.jump.Jump.{Jump}
use Rattle.dj_reach.specs.declared.jump.Jump.TheVariants.{Break, Continue}
use Rattle.dj_reach.specs.Jumps.{is_one_of}
use Rattle.dj_typing.specs.Sites.{Site, context_of, may_name}
use Rattle.dj_typing.specs.Operands.{is_of, if_typed}
use Rattle.dj_typing.specs.Expressions.{goes, is_index}
use Rattle.dj_typed.specs.Stores.{may_set_of, may_set_static, set_type, set_static_type}
use Rattle.dj_typed.specs.Switches.{are_formed}
use Rattle.dj_typed.specs.Bodies.{begins_with_construct}
use Rattle.dj_thrown.specs.Bodies.{scope_in}
use Rattle.dj_typed.specs.Statements.{Around, with_targets, in_loop, exp_goes, option_goes, is_test, is_named, is_new, throwable, returns, sets_element, is_on_int, may_construct, means_constructor, without_this, are_new_catches, are_exceptions}
use Rattle.dj_checked.specs.declared.walk.Walk.{Walk}
use Rattle.dj_checked.specs.Walks.{step, note, pass_exp, pass_exps, pass_effect, opening}

-- past an expression, if there is one
abbrev pub pass_option : Site → Scope → Option Exp → Walk → Walk
pass_option site scope None walk = walk
pass_option site scope (Some exp) walk = pass_exp site scope exp walk

-- ---- statements and beginnings of statements, without the statements in them

-- a label: on no declaration, and none around it is the same
abbrev pub pass_label : List Jump → ℕ → Stm → Walk → Walk
pass_label targets label statement walk =
    note walk.place kinds.Label (not (is_one_of (Break label) targets)) (note walk.place kinds.Name (not (is_declaration statement)) (step walk))

-- a jump: to a statement around it
abbrev pub pass_jump : List Jump → Jump → Walk → Walk
pass_jump targets jump walk = note walk.place kinds.Label (is_one_of jump targets) (step walk)

-- the first value of a variable, in the scope that it opens, given whether it may be declared
abbrev pub pass_first_value : Site → Scope → JType → Option Exp → Bool → Walk → Walk
pass_first_value site scope kind initial new walk =
    note walk.place kinds.WrongType (option_goes site scope initial (Some kind)) (note walk.place kinds.Name new (pass_option site scope initial (step walk)))

-- a declaration: of a variable that isn't in scope yet, whose first value goes into it
abbrev pub pass_declare : Site → Scope → Var → JType → Option Exp → Walk → Walk
pass_declare site scope variable kind initial walk = pass_first_value site (with_type variable kind scope) kind initial (is_new site scope variable kind) walk

-- a variable is set, which is in scope, to what goes into it
abbrev pub pass_set : Site → Scope → Var → Exp → Walk → Walk
pass_set site scope variable new walk =
    note walk.place kinds.WrongType (exp_goes site scope new (scope variable)) (note walk.place kinds.Name (is_named site scope variable) (pass_exp site scope new (step walk)))

-- the rules on a field that is set, by the types of the object and of the new value
abbrev pub note_set_field : Site → ℕ → Option StaticType → Name → Option StaticType → Walk → Walk
note_set_field site place object name new walk =
    note place kinds.WrongType (goes site.headers new (set_type site name object))
    (note place kinds.Access (if_typed object (may_set_of site name)) (note place kinds.Name (site.can_name name) walk))

-- a field of an object is set
abbrev pub pass_set_field : Site → Scope → Exp → Name → Exp → Walk → Walk
pass_set_field site scope object name new walk =
    note_set_field site walk.place (type_of (context_of site) scope object) name (type_of (context_of site) scope new) (pass_exp site scope new (pass_exp site scope object (step walk)))

-- the rules on a static field that is set, by the type of the new value
abbrev pub note_set_static : Site → ℕ → Name → Name → Option StaticType → Walk → Walk
note_set_static site place class name new walk =
    note place kinds.WrongType (goes site.headers new (set_static_type site class name))
    (note place kinds.Access (may_set_static site class name) (note place kinds.Name (may_name site class && site.can_name name) walk))

-- a static field is set
abbrev pub pass_set_static : Site → Scope → Name → Name → Exp → Walk → Walk
pass_set_static site scope class name new walk = note_set_static site walk.place class name (type_of (context_of site) scope new) (pass_exp site scope new (step walk))

-- an element is set, by the types of the array, the index and the new value
abbrev pub sets_by : Site → Option StaticType → Option StaticType → Option StaticType → Bool
sets_by site array index new = if_typed array (is_of is_array) && is_index index && goes site.headers new (option_and_then element_of (plain array))

-- an element of an array is set
abbrev pub pass_set_element : Site → Scope → Exp → Exp → Exp → Walk → Walk
pass_set_element site scope array index new walk =
    note walk.place kinds.WrongType (sets_element site scope array index new) (pass_exp site scope new (pass_exp site scope index (pass_exp site scope array (step walk))))

-- a call or a new object as a statement
abbrev pub pass_run : Site → Scope → Exp → Walk → Walk
pass_run site scope call walk = note walk.place kinds.Name (is_call call) (pass_effect site scope call (step walk))

-- a condition of a statement at an earlier place
abbrev pub pass_test : Site → Scope → ℕ → Exp → Walk → Walk
pass_test site scope place test walk = note place kinds.WrongType (is_test site scope test) (pass_exp site scope test walk)

-- a type is int itself, if there is one
abbrev pub is_int_itself : Option StaticType → Bool
is_int_itself found = if_typed found (is_of (is_type types.Int))

-- the head of a `switch`: on an int, with groups that are formed
abbrev pub pass_on : Site → Scope → Exp → Groups → Walk → Walk
pass_on site scope on groups walk =
    note walk.place kinds.WrongType (is_on_int site scope on groups) (note walk.place kinds.Name (not (has_no_group groups) && are_formed groups) (pass_exp site scope on (step walk)))

-- a return, of what the result takes
abbrev pub pass_return : Site → Scope → Option JType → Option Exp → Walk → Walk
pass_return site scope result value walk = note walk.place kinds.WrongType (returns site scope result value) (pass_option site scope value (step walk))

-- a throw, of what can be thrown
abbrev pub pass_throw : Site → Scope → Exp → Walk → Walk
pass_throw site scope exception walk = note walk.place kinds.WrongType (exp_goes site scope exception throwable) (pass_exp site scope exception (step walk))

-- a caught exception is thrown again
abbrev pub pass_rethrow : Site → Scope → Var → Walk → Walk
pass_rethrow site scope variable walk =
    note walk.place kinds.WrongType (goes site.headers (typed (scope variable)) throwable) (note walk.place kinds.Name (is_named site scope variable) (step walk))

-- the head of a `try`: with clauses, which take exceptions into new variables
abbrev pub pass_try : Site → Scope → Catches → Walk → Walk
pass_try site scope catches walk =
    note walk.place kinds.Catch (are_exceptions site.headers catches) (note walk.place kinds.Name (not (has_no_catch catches) && are_new_catches site scope catches) (step walk))

-- the head of a `synchronized`: on a reference
abbrev pub pass_monitor : Site → Scope → Exp → Walk → Walk
pass_monitor site scope monitor walk =
    note walk.place kinds.WrongType (if_typed (type_of (context_of site) scope monitor) (is_of is_reference)) (pass_exp site scope monitor (step walk))

-- another constructor is called, where that may be, without `this` in its arguments
abbrev pub pass_construct : Site → Scope → Bool → Bool → Exps → Walk → Walk
pass_construct site scope may own arguments walk =
    note walk.place kinds.Call (may && means_constructor site scope own arguments) (pass_exps (without_this site) scope arguments (step walk))

-- the head of a `for`: its test and its step
abbrev pub pass_for : Site → Scope → Exp → Var → Exp → Walk → Walk
pass_for site scope test variable next walk =
    note walk.place kinds.WrongType (is_test site scope test && exp_goes site scope next (scope variable))
    (note walk.place kinds.Name (is_named site scope variable) (pass_exp site scope next (pass_exp site scope test (step walk))))

-- ---- statements

abbrev mutual
  -- past a statement at a place: its expressions, the rules on it, and the statements in it
  pub pass : Around → Place → Scope → Stm → Walk → Walk
  pass around at scope (Block list) walk = pass_list around scope list (step walk)
  pass around at scope (Labelled label statement) walk =
      pass (with_targets (Break label ∷ []) around) (Behind label) scope statement (pass_label around.targets label statement walk)
  pass around at scope (Declare variable kind initial) walk = pass_declare around.site scope variable kind initial walk
  pass around at scope (Set variable new) walk = pass_set around.site scope variable new walk
  pass around at scope (SetField object name new) walk = pass_set_field around.site scope object name new walk
  pass around at scope (SetStatic class name new) walk = pass_set_static around.site scope class name new walk
  pass around at scope (SetElement array index new) walk = pass_set_element around.site scope array index new walk
  pass around at scope (Run call) walk = pass_run around.site scope call walk
  pass around at scope (If test first second) walk =
      pass_list around scope second (pass_list around scope first (pass_test around.site scope walk.place test (step walk)))
  pass around at scope (While test body) walk = pass_list (in_loop at around) scope body (pass_test around.site scope walk.place test (step walk))
  pass around at scope (Switch on groups) walk = pass_groups around scope groups (pass_on around.site scope on groups walk)
  pass around at scope (trees.Break label) walk = pass_jump around.targets (Break label) walk
  pass around at scope (trees.Continue label) walk = pass_jump around.targets (Continue label) walk
  pass around at scope (trees.Return value) walk = pass_return around.site scope around.result value walk
  pass around at scope (Throw exception) walk = pass_throw around.site scope exception walk
  pass around at scope (Rethrow variable) walk = pass_rethrow around.site scope variable walk
  pass around at scope (Try body catches) walk = pass_catches around scope catches (pass_list around scope body (pass_try around.site scope catches walk))
  pass around at scope (Synchronized monitor body) walk = pass_list around scope body (pass_monitor around.site scope monitor walk)
  pass around at scope (Construct own arguments) walk = pass_construct around.site scope (may_construct around.constructs at) own arguments walk
  pass around at scope (Do body test) walk = pass_test around.site scope walk.place test (pass_list (in_loop at around) scope body (step walk))
  pass around at scope (For test variable next body) walk = pass_list (in_loop at around) scope body (pass_for around.site scope test variable next walk)
  pass around at scope (Finally body last) walk = pass_list around scope last (pass_list around scope body (step walk))

  -- past statements, each in the scope that those before it leave
  pub pass_list : Around → Scope → Stms → Walk → Walk
  pass_list around scope Empty walk = walk
  pass_list around scope (And first rest) walk = pass_list around (within (declared first) scope) rest (pass around Elsewhere scope first walk)

  -- past catch clauses, each with its variable in scope
  pub pass_catches : Around → Scope → Catches → Walk → Walk
  pass_catches around scope NoCatches walk = walk
  pass_catches around scope (AndCatch class variable body rest) walk =
      pass_catches around scope rest (pass_list around (with_type variable (Class class) scope) body walk)

  -- past the groups of a `switch`, each in the scope that those before it leave
  pub pass_groups : Around → Scope → Groups → Walk → Walk
  pass_groups around scope NoGroups walk = walk
  pass_groups around scope (AndGroup labels body rest) walk = pass_groups around (behind body scope) rest (pass_list around scope body walk)

-- the statements of a body, of which the first stands at its beginning
abbrev pub pass_all : Around → Scope → Stms → Walk → Walk
pass_all around scope Empty walk = walk
pass_all around scope (And first rest) walk = pass_list around (within (declared first) scope) rest (pass around First scope first walk)

-- the rules on a body itself
abbrev pub note_body : Around → Body → Walk → Walk
note_body around body walk =
    note 0 kinds.Call (not around.constructs || begins_with_construct body.statements) (note 0 kinds.Name (may_name around.site body.class) walk)

-- the walk over a whole body
abbrev pub walked : Around → Body → Walk
walked around body = pass_all around (scope_in body) body.statements (note_body around body opening)
