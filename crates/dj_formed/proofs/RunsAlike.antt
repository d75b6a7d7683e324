-- A run doesn't look at the types of variables that its tree doesn't name.
use Rattle.std.proofs.Common.{ℕ, ℤ, ◌+◌, Bool, true, false, replicate, List, [], ◌∷◌, Option, Some, None, option_and_then, ◌≡◌, refl, sym, ap, ◌∙◌}
use Rattle.std.specs.Prelude.{is_some, if◌then◌else◌}
use Rattle.dj_names.specs.declared.header.Header.{Header}
use Rattle.dj_names.specs.Types as types
use Rattle.dj_names.specs.Types.{JType, Class}
use Rattle.dj_syntax.specs.declared.variable.Var.{Var}
use Rattle.dj_syntax.specs.Trees.{Exp, Text, Truth, Null, This, Variable, ClassOf, Field, Static, Element, Call, StaticCall, SuperCall, New, NewArray, Cast, InstanceOf, Negative, Not, Binary, Choice, Assign, Exps, NoExps, AndExp, Stm, Block, Labelled, Declare, Set, SetField, SetStatic, SetElement, Run, If, While, Switch, Throw, Rethrow, Try, Synchronized, Construct, Do, For, Finally, Stms, Empty, And, Groups, NoGroups, AndGroup, Catches, NoCatches, AndCatch}
use Rattle.dj_syntax.specs.Trees as trees
use Rattle.dj_values.specs.Values.{RefValue, Value, Ref, PutStatic}
use Rattle.dj_values.specs.Deciding.{is_instance}
use Rattle.dj_values.specs.Fits.{element_of}
use Rattle.dj_values.specs.Outcomes.{Throws, ask, outside}
use Rattle.dj_meaning.specs.Operators.{operate}
use Rattle.dj_meaning.specs.UnaryOperators.{negated, inverted}
use Rattle.dj_meaning.specs.Conversions.{cast}
use Rattle.dj_meaning.specs.Fields.{Selection, selected, named_field}
use Rattle.dj_meaning.specs.Promotions.{typing_of, becomes_floating}
use Rattle.dj_meaning.specs.Objects.{is_of, element_read, array_made}
use Rattle.dj_meaning.specs.StaticTypes.{Context, Scope, with_type, plain, array_of, count, type_of, types_of, object_target, class_target, super_target, new_target, construct_target}
use Rattle.dj_meaning.specs.Runs.{Meaning, pure, stop, stuck, ◌>>=◌, given, with, looked_up, look, fitted, put, assigned, local}
use Rattle.dj_meaning.specs.Expressions.{this_value, selected_read, call_on, call_static, made, floating, either, tested, value, values, test, effect}
use Rattle.dj_meaning.specs.Completions.{Completion, Normal, sequence, taken, turns, do_turns, thrown, handled, finished, returns_value}
use Rattle.dj_meaning.specs.Declarations.{declared, within, behind, locally, opened, passed_one, passed, initialised, caught}
use Rattle.dj_meaning.specs.Statements.{Place, First, Behind, Elsewhere, label_at, synchronized, does, field_set, element_set, constructed, has_label, label_for, number_of, switched}
use Rattle.dj_meaning.specs.Variables.{EachInExp, EachInExps, EachInOption, EachInStm, EachInStms, EachInGroups, EachInCatches}
use Rattle.dj_meaning.specs.Meaning.{run, run_then, run_groups, run_from, run_clauses}
use Rattle.dj_formed.specs.Alike.{UnnamedVariablesDontAct}
use Rattle.dj_formed.proofs.Named.{map_stm, map_stms, map_groups, map_catches, map_option}
use Rattle.dj_formed.proofs.Alike.{type_alike, types_alike, with_alike, within_alike, behind_alike}

-- ---- expressions

-- an assignment, given the variable's type
abbrev stored : List Header → Option JType → Var → Meaning Value → Meaning Value
stored headers found variable new = with found (λ type. new >>= fitted headers type >>= λ kept. put variable (Some kept) >>= λ done. pure kept)

module _ (context : Context) (g h : Scope) where
  none_alike : (wanted : List JType) → values context g NoExps wanted ≡ values context h NoExps wanted
  none_alike [] = refl
  none_alike (type ∷ more) = refl

  some_alike : (first : Exp) (rest : Exps) → value context g first ≡ value context h first → values context g rest ≡ values context h rest → (wanted : List JType) → values context g (AndExp first rest) wanted ≡ values context h (AndExp first rest) wanted
  some_alike first rest e f [] = refl
  some_alike first rest e f (type ∷ more) = λ i. e i >>= fitted context.headers type >>= λ one. f i more >>= λ others. pure (one ∷ others)

  mutual
    pub value_alike : (exp : Exp) → EachInExp (λ variable. g variable ≡ h variable) exp → value context g exp ≡ value context h exp
    value_alike (trees.Int number) n = refl
    value_alike (trees.Long number) n = refl
    value_alike (Text units) n = refl
    value_alike (Truth known) n = refl
    value_alike Null n = refl
    value_alike This n = refl
    value_alike (Variable variable) n = λ i state. looked_up (n i) (state.store.variables variable) state
    value_alike (ClassOf kind) n = refl
    value_alike (Field object name) n =
        λ i. with (option_and_then (selected context.headers context.members context.class name) (plain (type_alike context g h object n i))) (λ selection.
        value_alike object n i >>= λ found. outside context.headers (selected_read name selection found))
    value_alike (Static class name) n = refl
    value_alike (Element array index) n =
        λ i. with (option_and_then element_of (plain (type_alike context g h array n.0 i))) (λ element.
        value_alike array n.0 i >>= λ found. value_alike index n.1 i >>= λ place. outside context.headers (element_read found place))
    value_alike (Call object name arguments) n =
        λ i. given (call_on context (object_target context name (plain (type_alike context g h object n.0 i)) (types_alike context g h arguments n.1 i)) (value_alike object n.0 i) (values_alike arguments n.1 i))
    value_alike (StaticCall class name arguments) n = λ i. given (call_static context (class_target context class name (types_alike context g h arguments n i)) (values_alike arguments n i))
    value_alike (SuperCall above name arguments) n = λ i. given (call_on context (super_target context above name (types_alike context g h arguments n i)) (this_value context) (values_alike arguments n i))
    value_alike (New class arguments) n = λ i. made context class (new_target context class (types_alike context g h arguments n i)) (values_alike arguments n i)
    value_alike (NewArray kind sizes more) n =
        λ i. values_alike sizes n i (replicate (count sizes) types.Int) >>= λ numbers. outside context.headers (array_made (array_of (count sizes + more) kind) numbers)
    value_alike (Cast kind operand) n = λ i. value_alike operand n i >>= λ found. outside context.headers (cast context.headers kind found)
    value_alike (InstanceOf operand kind) n = λ i. value_alike operand n i >>= λ found. outside context.headers (is_of context.headers kind found)
    value_alike (Negative operand) n = λ i. value_alike operand n i >>= λ found. outside context.headers (negated found)
    value_alike (Not operand) n = λ i. value_alike operand n i >>= λ found. outside context.headers (inverted found)
    value_alike (Binary operator left right) n =
        λ i. operate context.headers operator
        (floating (becomes_floating (typing_of operator) (plain (type_alike context g h left n.0 i)) (plain (type_alike context g h right n.1 i))) (value_alike left n.0 i)) (value_alike right n.1 i)
    value_alike (Choice test first second) n = λ i. value_alike test n.0 i >>= tested context >>= λ answer. either answer (value_alike first n.1 i) (value_alike second n.2 i)
    value_alike (Assign variable new) n = λ i. stored context.headers (n.0 i) variable (value_alike new n.1 i)

    pub values_alike : (exps : Exps) → EachInExps (λ variable. g variable ≡ h variable) exps → values context g exps ≡ values context h exps
    values_alike NoExps n = λ i wanted. none_alike wanted i
    values_alike (AndExp first rest) n = λ i wanted. some_alike first rest (value_alike first n.0) (values_alike rest n.1) wanted i

  pub effect_alike : (exp : Exp) → EachInExp (λ variable. g variable ≡ h variable) exp → effect context g exp ≡ effect context h exp
  effect_alike (Call object name arguments) n =
      λ i. call_on context (object_target context name (plain (type_alike context g h object n.0 i)) (types_alike context g h arguments n.1 i)) (value_alike object n.0 i) (values_alike arguments n.1 i)
  effect_alike (StaticCall class name arguments) n = λ i. call_static context (class_target context class name (types_alike context g h arguments n i)) (values_alike arguments n i)
  effect_alike (SuperCall above name arguments) n = λ i. call_on context (super_target context above name (types_alike context g h arguments n i)) (this_value context) (values_alike arguments n i)
  effect_alike (New class arguments) n = λ i. value_alike (New class arguments) n i >>= λ object. pure None
  effect_alike (trees.Int number) n = refl
  effect_alike (trees.Long number) n = refl
  effect_alike (Text units) n = refl
  effect_alike (Truth known) n = refl
  effect_alike Null n = refl
  effect_alike This n = refl
  effect_alike (Variable variable) n = refl
  effect_alike (ClassOf kind) n = refl
  effect_alike (Field object name) n = refl
  effect_alike (Static class name) n = refl
  effect_alike (Element array index) n = refl
  effect_alike (NewArray kind sizes more) n = refl
  effect_alike (Cast kind operand) n = refl
  effect_alike (InstanceOf operand kind) n = refl
  effect_alike (Negative operand) n = refl
  effect_alike (Not operand) n = refl
  effect_alike (Binary operator left right) n = refl
  effect_alike (Choice test first second) n = refl
  effect_alike (Assign variable new) n = refl

  test_alike : (exp : Exp) → EachInExp (λ variable. g variable ≡ h variable) exp → test context g exp ≡ test context h exp
  test_alike exp n = λ i. value_alike exp n i >>= tested context

  initial_alike : (variable : Var) (initial : Option Exp) → g variable ≡ h variable → EachInOption (λ variable. g variable ≡ h variable) initial → initialised context g variable initial ≡ initialised context h variable initial
  initial_alike variable None e n = refl
  initial_alike variable (Some exp) e n = λ i. stored context.headers (e i) variable (value_alike exp n i) >>= λ kept. pure Normal

-- ---- declarations that are jumped over

opened_alike : (g h : Scope) (variable : Var) → g variable ≡ h variable → opened g variable ≡ opened h variable
opened_alike g h variable e = λ i. if is_some (e i) then stuck else put variable None

abbrev DeclaredSame : Scope → Scope → Option (Var × JType) → Type 0
DeclaredSame g h None = Unit {0}
DeclaredSame g h (Some one) = g one.0 ≡ h one.0

declared_same : (g h : Scope) (statement : Stm) → EachInStm (λ variable. g variable ≡ h variable) statement → DeclaredSame g h (declared statement)
declared_same g h (Block list) n = tt
declared_same g h (Labelled label statement) n = tt
declared_same g h (Declare variable kind initial) n = n.0
declared_same g h (Set variable new) n = tt
declared_same g h (SetField object name new) n = tt
declared_same g h (SetStatic class name new) n = tt
declared_same g h (SetElement array index new) n = tt
declared_same g h (Run call) n = tt
declared_same g h (If condition first second) n = tt
declared_same g h (While condition body) n = tt
declared_same g h (Switch on arms) n = tt
declared_same g h (trees.Break label) n = tt
declared_same g h (trees.Continue label) n = tt
declared_same g h (trees.Return result) n = tt
declared_same g h (Throw exception) n = tt
declared_same g h (Rethrow variable) n = tt
declared_same g h (Try body clauses) n = tt
declared_same g h (Synchronized monitor body) n = tt
declared_same g h (Construct own arguments) n = tt
declared_same g h (Do body condition) n = tt
declared_same g h (For condition variable step body) n = tt
declared_same g h (Finally body last) n = tt

passed_one_alike : (g h : Scope) (one : Option (Var × JType)) (first second : Meaning Completion) → DeclaredSame g h one → first ≡ second → passed_one g one first ≡ passed_one h one second
passed_one_alike g h None first second s e = e
passed_one_alike g h (Some one) first second s e = λ i. local one.0 (opened_alike g h one.0 s i >>= λ done. e i)

passed_alike : (g h : Scope) (list : Stms) (first second : Meaning Completion) → EachInStms (λ variable. g variable ≡ h variable) list → first ≡ second → passed g list first ≡ passed h list second
passed_alike g h Empty first second n e = e
passed_alike g h (And head rest) first second n e =
    passed_one_alike g h (declared head) (passed (within (declared head) g) rest first) (passed (within (declared head) h) rest second) (declared_same g h head n.0)
    (passed_alike (within (declared head) g) (within (declared head) h) rest first second (map_stms (within_alike (declared head) g h) rest n.1) e)

-- ---- statements

module _ (context : Context) (bound : ℕ) where
  mutual
    pub run_alike : (g h : Scope) (place : Place) (statement : Stm) → EachInStm (λ variable. g variable ≡ h variable) statement → run context g bound place statement ≡ run context h bound place statement
    run_alike g h place (Block list) n = then_alike g h list (pure Normal) (pure Normal) n refl
    run_alike g h place (Labelled label statement) n = λ i. run_alike g h (Behind label) statement n i >>= taken label
    run_alike g h place (Declare variable kind initial) n =
        λ i. opened_alike g h variable n.0 i >>= λ done. initial_alike context (with_type variable kind g) (with_type variable kind h) variable initial (with_alike variable kind g h variable n.0) (map_option (with_alike variable kind g h) initial n.1) i
    run_alike g h place (Set variable new) n = λ i. stored context.headers (n.0 i) variable (value_alike context g h new n.1 i) >>= λ kept. pure Normal
    run_alike g h place (SetField object name new) n =
        λ i. with (option_and_then (selected context.headers context.members context.class name) (plain (type_alike context g h object n.0 i))) (field_set context name (value_alike context g h object n.0 i) (value_alike context g h new n.1 i))
    run_alike g h place (SetStatic class name new) n =
        λ i. with (named_field context.headers context.members context.class class name) (λ field.
        value_alike context g h new n i >>= fitted context.headers field.type >>= λ kept. does context (ask (PutStatic (Class class) name field.type kept)))
    run_alike g h place (SetElement array index new) n =
        λ i. with (option_and_then element_of (plain (type_alike context g h array n.0 i))) (element_set context (value_alike context g h array n.0 i) (value_alike context g h index n.1 i) (value_alike context g h new n.2 i))
    run_alike g h place (Run call) n = λ i. effect_alike context g h call n i >>= λ dropped. pure Normal
    run_alike g h place (If condition first second) n =
        λ i. test_alike context g h condition n.0 i >>= λ answer. either answer (then_alike g h first (pure Normal) (pure Normal) n.1 refl i) (then_alike g h second (pure Normal) (pure Normal) n.2 refl i)
    run_alike g h place (While condition body) n =
        λ i. turns bound (label_at place) (test_alike context g h condition n.0 i) (pure tt) (then_alike g h body (pure Normal) (pure Normal) n.1 refl i)
    run_alike g h place (Switch on groups) n =
        λ i. value_alike context g h on n.0 i >>= λ found. outside context.headers (number_of found) >>= λ number. switched (from_alike g h groups n.1 i) (label_for groups number)
    run_alike g h place (trees.Break label) n = refl
    run_alike g h place (trees.Continue label) n = refl
    run_alike g h place (trees.Return None) n = refl
    run_alike g h place (trees.Return (Some result)) n = λ i. value_alike context g h result n i >>= returns_value context context.result
    run_alike g h place (Throw exception) n = λ i. value_alike context g h exception n i >>= thrown context
    run_alike g h place (Rethrow variable) n = λ i. (λ state. looked_up (n i) (state.store.variables variable) state) >>= thrown context
    run_alike g h place (Try body clauses) n = λ i state. handled (clauses_alike g h clauses n.1 i) (then_alike g h body (pure Normal) (pure Normal) n.0 refl i state)
    run_alike g h place (Synchronized monitor body) n = λ i. value_alike context g h monitor n.0 i >>= synchronized context (then_alike g h body (pure Normal) (pure Normal) n.1 refl i)
    run_alike g h place (Construct own arguments) n = λ i. constructed context place (construct_target context own (types_alike context g h arguments n i)) (values_alike context g h arguments n i)
    run_alike g h place (Do body condition) n =
        λ i. do_turns bound (label_at place) (test_alike context g h condition n.1 i) (then_alike g h body (pure Normal) (pure Normal) n.0 refl i)
    run_alike g h place (For condition variable step body) n =
        λ i. turns bound (label_at place) (test_alike context g h condition n.0 i) (stored context.headers (n.1 i) variable (value_alike context g h step n.2 i) >>= λ kept. pure tt)
        (then_alike g h body (pure Normal) (pure Normal) n.3 refl i)
    run_alike g h place (Finally body last) n = λ i state. finished (then_alike g h last (pure Normal) (pure Normal) n.1 refl i) (then_alike g h body (pure Normal) (pure Normal) n.0 refl i state)

    pub then_alike : (g h : Scope) (list : Stms) (next later : Meaning Completion) → EachInStms (λ variable. g variable ≡ h variable) list → next ≡ later → run_then context g bound list next ≡ run_then context h bound list later
    then_alike g h Empty next later n e = e
    then_alike g h (And first rest) next later n e =
        λ i. locally (declared first) (run_alike g h Elsewhere first n.0 i >>= sequence
        (then_alike (within (declared first) g) (within (declared first) h) rest next later (map_stms (within_alike (declared first) g h) rest n.1) e i))

    groups_alike : (g h : Scope) (groups : Groups) → EachInGroups (λ variable. g variable ≡ h variable) groups → run_groups context g bound groups ≡ run_groups context h bound groups
    groups_alike g h NoGroups n = refl
    groups_alike g h (AndGroup labels body rest) n =
        then_alike g h body (run_groups context (behind body g) bound rest) (run_groups context (behind body h) bound rest) n.0
        (groups_alike (behind body g) (behind body h) rest (map_groups (behind_alike body g h) rest n.1))

    from_alike : (g h : Scope) (groups : Groups) → EachInGroups (λ variable. g variable ≡ h variable) groups → run_from context g bound groups ≡ run_from context h bound groups
    from_alike g h NoGroups n = λ i wanted. pure Normal
    from_alike g h (AndGroup labels body rest) n =
        λ i wanted. if has_label wanted labels
        then then_alike g h body (run_groups context (behind body g) bound rest) (run_groups context (behind body h) bound rest) n.0 (groups_alike (behind body g) (behind body h) rest (map_groups (behind_alike body g h) rest n.1)) i
        else passed_alike g h body (run_from context (behind body g) bound rest wanted) (run_from context (behind body h) bound rest wanted) n.0
        (λ j. from_alike (behind body g) (behind body h) rest (map_groups (behind_alike body g h) rest n.1) j wanted) i

    clauses_alike : (g h : Scope) (clauses : Catches) → EachInCatches (λ variable. g variable ≡ h variable) clauses → run_clauses context g bound clauses ≡ run_clauses context h bound clauses
    clauses_alike g h NoCatches n = λ i reference. stop (Throws reference)
    clauses_alike g h (AndCatch class variable body rest) n =
        λ i reference. if is_instance context.headers reference.class class
        then local variable (opened_alike g h variable n.0 i >>= λ done. put variable (Some (Ref reference)) >>= λ done.
        then_alike (with_type variable (Class class) g) (with_type variable (Class class) h) body (pure Normal) (pure Normal) (map_stms (with_alike variable (Class class) g h) body n.1) refl i)
        else clauses_alike g h rest n.2 i reference

pub unnamed_variables_dont_act : UnnamedVariablesDontAct
unnamed_variables_dont_act context first second bound list next n = then_alike context bound first second list next next n refl
