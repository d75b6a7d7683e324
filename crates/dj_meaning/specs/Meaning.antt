-- What statements do, and what a bounded run of a body shows (JLS 8.4.1, 8.4.7, 8.8.7, 14).
use Rattle.std.specs.Prelude.{ℕ, ℤ, List, [], map, Option, Some, None, slice_get, option_and_then, if◌then◌else◌}
use Rattle.dj_names.specs.declared.header.Header.{Header}
use Rattle.dj_names.specs.declared.members.ClassMembers.{ClassMembers}
use Rattle.dj_names.specs.MethodNames.{is_constructor}
use Rattle.dj_names.specs.Types.{JType, Class, parameters_of, result_of}
use Rattle.dj_syntax.specs.declared.variable.VarKind.{VarKind}
use Rattle.dj_syntax.specs.declared.variable.VarKind.TheVariants as kind
use Rattle.dj_syntax.specs.declared.variable.Var.{Var}
use Rattle.dj_syntax.specs.Trees.{Stm, Block, Labelled, Declare, Set, SetField, SetStatic, SetElement, Run, If, While, Switch, Throw, Rethrow, Try, Synchronized, Construct, Do, For, Finally, Stms, Empty, And, Groups, NoGroups, AndGroup, Catches, NoCatches, AndCatch, Body}
use Rattle.dj_syntax.specs.Trees as trees
use Rattle.dj_values.specs.Values.{RefValue, Value, Answer, PutStatic, Show}
use Rattle.dj_values.specs.Fits.{is_static, this_of, behind_this, element_of}
use Rattle.dj_values.specs.Deciding.{is_instance}
use Rattle.dj_values.specs.Outcomes.{Throws, State, ask, outside, opening, shown}
use Rattle.dj_meaning.specs.Members.{view_members}
use Rattle.dj_meaning.specs.Fields.{selected, named_field}
use Rattle.dj_meaning.specs.StaticTypes.{Context, Scope, with_type, plain, type_of, types_of, construct_target}
use Rattle.dj_meaning.specs.Runs.{Store, Meaning, pure, stop, stuck, ◌>>=◌, with, look, fitted, assigned}
use Rattle.dj_meaning.specs.Expressions.{either, value, values, test, effect}
use Rattle.dj_meaning.specs.Completions.{Completion, Normal, Break, Continue, Return, Misfit, sequence, taken, turns, do_turns, thrown, handled, finished, returns_nothing, returns_value}
use Rattle.dj_meaning.specs.Declarations.{caught, declared, within, behind, locally, opened, passed, initialised}
use Rattle.dj_meaning.specs.Statements.{Place, First, Behind, Elsewhere, label_at, synchronized, does, field_set, element_set, constructed, has_label, label_for, number_of, switched}

-- ---- statements

abbrev mutual
  -- a statement at a place, each of whose loops has at most so many turns
  pub run : Context → Scope → ℕ → Place → Stm → Meaning Completion
  run context scope bound place (Block list) = run_then context scope bound list (pure Normal)
  run context scope bound place (Labelled label statement) = run context scope bound (Behind label) statement >>= taken label
  run context scope bound place (Declare variable kind initial) =
      opened scope variable >>= λ done. initialised context (with_type variable kind scope) variable initial
  run context scope bound place (Set variable new) = assigned context.headers scope variable (value context scope new) >>= λ kept. pure Normal
  run context scope bound place (SetField object name new) =
      with (option_and_then (selected context.headers context.members context.class name) (plain (type_of context scope object)))
      (field_set context name (value context scope object) (value context scope new))
  run context scope bound place (SetStatic class name new) =
      with (named_field context.headers context.members context.class class name) (λ field.
      value context scope new >>= fitted context.headers field.type >>= λ kept. does context (ask (PutStatic (Class class) name field.type kept)))
  run context scope bound place (SetElement array index new) =
      with (option_and_then element_of (plain (type_of context scope array)))
      (element_set context (value context scope array) (value context scope index) (value context scope new))
  run context scope bound place (Run call) = effect context scope call >>= λ dropped. pure Normal
  run context scope bound place (If condition first second) =
      test context scope condition >>= λ answer. either answer (run_then context scope bound first (pure Normal)) (run_then context scope bound second (pure Normal))
  run context scope bound place (While condition body) =
      turns bound (label_at place) (test context scope condition) (pure tt) (run_then context scope bound body (pure Normal))
  run context scope bound place (Switch on groups) =
      value context scope on >>= λ found. outside context.headers (number_of found) >>= λ number. switched (run_from context scope bound groups) (label_for groups number)
  run context scope bound place (trees.Break label) = pure (Break label)
  run context scope bound place (trees.Continue label) = pure (Continue label)
  run context scope bound place (trees.Return None) = returns_nothing context.result
  run context scope bound place (trees.Return (Some result)) = value context scope result >>= returns_value context context.result
  run context scope bound place (Throw exception) = value context scope exception >>= thrown context
  run context scope bound place (Rethrow variable) = look scope variable >>= thrown context
  run context scope bound place (Try body clauses) =
      λ state. handled (run_clauses context scope bound clauses) (run_then context scope bound body (pure Normal) state)
  run context scope bound place (Synchronized monitor body) =
      value context scope monitor >>= synchronized context (run_then context scope bound body (pure Normal))
  run context scope bound place (Construct this arguments) =
      constructed context place (construct_target context this (types_of context scope arguments)) (values context scope arguments)
  run context scope bound place (Do body condition) =
      do_turns bound (label_at place) (test context scope condition) (run_then context scope bound body (pure Normal))
  run context scope bound place (For condition variable step body) =
      turns bound (label_at place) (test context scope condition) (assigned context.headers scope variable (value context scope step) >>= λ kept. pure tt)
      (run_then context scope bound body (pure Normal))
  run context scope bound place (Finally body last) =
      λ state. finished (run_then context scope bound last (pure Normal)) (run_then context scope bound body (pure Normal) state)

  -- statements in order, and what comes behind them in their scope: what a statement declares is of it and of what follows alone
  pub run_then : Context → Scope → ℕ → Stms → Meaning Completion → Meaning Completion
  run_then context scope bound Empty next = next
  run_then context scope bound (And first rest) next =
      locally (declared first) (run context scope bound Elsewhere first >>= sequence (run_then context (within (declared first) scope) bound rest next))

  -- the groups of a switch, one after another
  pub run_groups : Context → Scope → ℕ → Groups → Meaning Completion
  run_groups context scope bound NoGroups = pure Normal
  run_groups context scope bound (AndGroup labels body rest) = run_then context scope bound body (run_groups context (behind body scope) bound rest)

  -- the groups from the one of a label on; what those before it declare is in scope, without a value
  pub run_from : Context → Scope → ℕ → Groups → Option ℤ → Meaning Completion
  run_from context scope bound NoGroups wanted = pure Normal
  run_from context scope bound (AndGroup labels body rest) wanted =
      if has_label wanted labels then run_then context scope bound body (run_groups context (behind body scope) bound rest)
      else passed scope body (run_from context (behind body scope) bound rest wanted)

  -- the first catch clause that takes an exception, or none: then it is thrown on
  pub run_clauses : Context → Scope → ℕ → Catches → RefValue → Meaning Completion
  run_clauses context scope bound NoCatches reference = stop (Throws reference)
  run_clauses context scope bound (AndCatch class variable body rest) reference =
      if is_instance context.headers reference.class class
      then caught scope variable reference (run_then context (with_type variable (Class class) scope) bound body (pure Normal))
      else run_clauses context scope bound rest reference

-- statements in order
abbrev pub run_all : Context → Scope → ℕ → Stms → Meaning Completion
run_all context scope bound list = run_then context scope bound list (pure Normal)

-- the statements of a body, of which the first stands at its beginning
abbrev pub run_statements : Context → Scope → ℕ → Stms → Meaning Completion
run_statements context scope bound Empty = pure Normal
run_statements context scope bound (And first rest) =
    locally (declared first) (run context scope bound First first >>= sequence (run_all context (within (declared first) scope) bound rest))

-- ---- bodies

-- a completion at the end of a body, given the method's result (8.4.7): what fits no method is stuck
abbrev pub ended : Option JType → Completion → Meaning (Option Value)
ended None Normal = pure None
ended (Some type) Normal = stuck
ended result (Break label) = stuck
ended result (Continue label) = stuck
ended result (Return value) = pure value
ended result Misfit = stuck

-- what a parameter has, by its number; other variables have nothing as a body begins
abbrev pub of_parameter : {A : Type 0} → List A → Var → Option A
of_parameter {A = A} items variable = by_kind variable.kind
  where
    by_kind : VarKind → Option A
    by_kind kind.Param = slice_get items variable.number
    by_kind kind.Local = None
    by_kind kind.Caught = None
    by_kind kind.State = None

-- a body, whose parameters are in scope (8.4.1)
abbrev pub run_body : Context → Body → ℕ → Meaning (Option Value)
run_body context body bound = run_statements context (of_parameter (parameters_of body.descriptor)) bound body.statements >>= ended context.result

-- what the run of a body knows, given its arguments, `this` first where it has one
abbrev pub context_of : List Header → List ClassMembers → Body → List Value → Context
context_of headers members body arguments = record {
  headers = headers;
  members = map view_members members;
  class = body.class;
  result = result_of body.descriptor;
  this = this_of (is_static body.flags) arguments;
  constructs = is_constructor body.name;
}

-- as a body begins: the parameters have their arguments, and no monitor is held
abbrev pub entered : List Value → List Answer → State Store
entered arguments answers = record { store = record { variables = of_parameter arguments; held = [] }; world = opening answers }

-- what a body shows, each of its loops having at most so many turns, with these arguments, `this` first where it has one, and answers
abbrev pub source_show : List Header → List ClassMembers → Body → List Value → List Answer → ℕ → Show
source_show headers members body arguments answers bound =
    shown (run_body (context_of headers members body arguments) body bound (entered (behind_this (is_static body.flags) arguments) answers))
