-- Runs under other names show the same.
use Rattle.std.proofs.Common.{ℕ, ◌+◌, Bool, true, false, List, [], ◌∷◌, replicate, Option, Some, None, option_and_then, is_some, ◌≡◌, refl, ap, subst, ◌||◌}
use Rattle.std.specs.Prelude.{ℤ, if◌then◌else◌}
use Rattle.dj_names.specs.Headers.{Name}
use Rattle.dj_names.specs.Types as types
use Rattle.dj_names.specs.Types.{JType, Class, parameters_of}
use Rattle.dj_syntax.specs.declared.variable.Var.{Var}
use Rattle.dj_syntax.specs.Trees.{Exp, Text, Truth, This, Variable, ClassOf, Field, Static, Element, Call, StaticCall, SuperCall, NewArray, Cast, InstanceOf, Negative, Not, Binary, Choice, Assign, Exps, NoExps, AndExp, Stm, Block, Labelled, Declare, Set, SetField, SetStatic, SetElement, Run, If, While, Switch, Throw, Rethrow, Try, Synchronized, Construct, Do, For, Finally, Stms, Empty, And, Groups, NoGroups, AndGroup, Catches, NoCatches, AndCatch}
use Rattle.dj_syntax.specs.Trees as trees
use Rattle.dj_values.specs.Values.{RefValue, Value, Int, Long, Null, Ref, New, ClassConstant, PutStatic}
use Rattle.dj_values.specs.Fits.{element_of}
use Rattle.dj_values.specs.Deciding.{is_instance}
use Rattle.dj_values.specs.Outcomes.{Throws, More, Stuck, Reply, Gives, ask, ask_value, outside, bind}
use Rattle.dj_meaning.specs.Operators.{Operator, Strict, After, operator_of, truth, truth_of, is_wanted, by_form}
use Rattle.dj_meaning.specs.UnaryOperators.{negated, inverted}
use Rattle.dj_meaning.specs.Conversions.{converted, cast}
use Rattle.dj_meaning.specs.Fields.{Selection, Length, Member, selected, named_field}
use Rattle.dj_meaning.specs.Targets.{Target}
use Rattle.dj_meaning.specs.Promotions.{typing_of, becomes_floating}
use Rattle.dj_meaning.specs.StaticTypes.{Context, Scope, with_type, plain, array_of, count, type_of, types_of, object_target, class_target, super_target, new_target, construct_target}
use Rattle.dj_meaning.specs.Objects.{text, is_of, with_object, static_read, element_read, array_made, called, field_written, element_written}
use Rattle.dj_meaning.specs.Runs.{Meaning, pure, stop, ◌>>=◌, present, given, fitted, assigned}
use Rattle.dj_meaning.specs.Expressions.{this_value, selected_read, call_on, call_static, made, floating, tested, value, values, test, effect}
use Rattle.dj_meaning.specs.Completions.{Completion, Normal, Break, Continue, Return, Misfit, sequence, turns, do_turns, returns_nothing, returns_value}
use Rattle.dj_meaning.specs.Declarations.{declared, within, behind, locally, opened, passed_one, passed, initialised, caught}
use Rattle.dj_meaning.specs.Statements.{Place, First, Behind, Elsewhere, label_at, does, field_set, element_set, constructed, has_label, is_labelled, label_for, number_of, switched, synchronized}
use Rattle.dj_meaning.specs.Meaning.{run, run_then, run_groups, run_from, run_clauses, run_all, run_statements, ended}
use Rattle.dj_renaming.specs.Renaming.{Names, AreApart, exp_renamed, exps_renamed, option_renamed, renamed, all_renamed, groups_renamed, catches_renamed, AreScopesAlike}
use Rattle.dj_renaming.proofs.Types.{type_alike, types_alike, with_alike, within_alike, behind_alike, counted}
use Rattle.dj_numbered.specs.Shows.{RenamedShows}
use Rattle.dj_numbered.proofs.Acts.{completion_renamed, Finds, Does, finds_pure, does_pure, acts_stop, finds_outside, does_thrown, acts_bind, acts_with, acts_either, finds_look, finds_put, does_local, does_sequence, does_taken, does_turns, does_do_turns, does_handled, does_finished, does_holding, finds_ended, shown_alike}

-- where a statement stands, by the other name of the label right before it
abbrev place_renamed : Names → Place → Place
place_renamed names First = First
place_renamed names (Behind label) = Behind (names.label label)
place_renamed names Elsewhere = Elsewhere

-- what is declared, by its other name
abbrev declared_renamed : Names → Option (Var × JType) → Option (Var × JType)
declared_renamed names None = None
declared_renamed names (Some one) = Some (names.variable one.0, one.1)

declared_alike : (names : Names) (statement : Stm) → declared_renamed names (declared statement) ≡ declared (renamed names statement)
declared_alike names (Block list) = refl
declared_alike names (Labelled label statement) = refl
declared_alike names (Declare variable type initial) = refl
declared_alike names (Set variable new) = refl
declared_alike names (SetField object name new) = refl
declared_alike names (SetStatic class name new) = refl
declared_alike names (SetElement array index new) = refl
declared_alike names (Run call) = refl
declared_alike names (If condition first second) = refl
declared_alike names (While condition body) = refl
declared_alike names (Switch on groups) = refl
declared_alike names (trees.Break label) = refl
declared_alike names (trees.Continue label) = refl
declared_alike names (trees.Return result) = refl
declared_alike names (Throw exception) = refl
declared_alike names (Rethrow variable) = refl
declared_alike names (Try body clauses) = refl
declared_alike names (Synchronized monitor body) = refl
declared_alike names (Construct own arguments) = refl
declared_alike names (Do body condition) = refl
declared_alike names (For condition variable step body) = refl
declared_alike names (Finally body last) = refl

labelled_alike : (names : Names) (wanted : Option ℤ) (groups : Groups) → is_labelled wanted groups ≡ is_labelled wanted (groups_renamed names groups)
labelled_alike names wanted NoGroups = refl
labelled_alike names wanted (AndGroup labels body rest) = ap (λ more. has_label wanted labels || more) (labelled_alike names wanted rest)

label_alike : (names : Names) (groups : Groups) (number : ℤ) → label_for groups number ≡ label_for (groups_renamed names groups) number
label_alike names groups number = λ i. if labelled_alike names (Some number) groups i then Some (Some number) else if labelled_alike names None groups i then Some None else None

-- two scopes with the same types
record IsScope (names : Names) (g h : Scope) : Type 0 where
  typed : AreScopesAlike names g h

module _ (names : Names) (apart : AreApart names) (context : Context) where
  abbrev Scopes : Scope → Scope → Type 0
  Scopes g h = IsScope names g h

  -- ---- shorter words

  abbrev F : {A : Type 0} → Meaning A → Meaning A → Type 0
  F first second = Finds names apart first second

  abbrev D : Meaning Completion → Meaning Completion → Type 0
  D first second = Does names apart first second

  pures : {A : Type 0} (result : A) → F (pure result) (pure result)
  pures result = finds_pure names apart result

  completes : (completion : Completion) → D (pure completion) (pure (completion_renamed names completion))
  completes completion = does_pure names apart completion

  asks : {A : Type 0} (reply : Reply A) → F (outside context.headers reply) (outside context.headers reply)
  asks reply = finds_outside names apart context.headers reply

  finds_stuck : {A : Type 0} → F (stop {A = A} Stuck) (stop {A = A} Stuck)
  finds_stuck {A = A} = acts_stop names apart (λ (result : A). result) Stuck

  does_stuck : D (stop Stuck) (stop Stuck)
  does_stuck = acts_stop names apart (completion_renamed names) Stuck

  -- ---- parts of expressions

  finds_present : {A : Type 0} (found : Option A) → F (present found) (present found)
  finds_present None = finds_stuck
  finds_present (Some result) = pures result

  finds_fitted : (type : JType) (value : Value) → F (fitted context.headers type value) (fitted context.headers type value)
  finds_fitted type value = asks (converted type value)

  finds_assigned : {g h : Scope} → Scopes g h → (variable : Var) {new other : Meaning Value} → F new other → F (assigned context.headers g variable new) (assigned context.headers h (names.variable variable) other)
  finds_assigned {g = g} s variable k =
      acts_with names apart (g variable) (s.typed variable) (λ type. acts_bind names apart _ (acts_bind names apart _ k (finds_fitted type)) (λ value. acts_bind names apart (λ (done : Unit {0}). pure value) (finds_put names apart variable (Some value)) (λ done. pures value)))

  finds_form : (form : Operator) {left right first second : Meaning Value} → F left first → F right second → F (by_form context.headers form left right) (by_form context.headers form first second)
  finds_form (Strict operation) h k = acts_bind names apart _ h (λ x. acts_bind names apart _ k (λ y. asks (operation x y)))
  finds_form (After wanted) h k =
      acts_bind names apart _ (acts_bind names apart _ h (λ x. asks (truth_of x))) (λ answer. acts_either names apart (is_wanted wanted answer) refl
      (acts_bind names apart _ (acts_bind names apart _ k (λ y. asks (truth_of y))) (λ last. pures (truth last))) (pures (truth answer)))

  finds_floating : (becomes : Bool) {other : Bool} {part later : Meaning Value} → becomes ≡ other → F part later → F (floating becomes part) (floating other later)
  finds_floating becomes {part = part} {later = later} e h = subst (λ other. F (floating becomes part) (floating other later)) e (go becomes)
    where
      go : (becomes : Bool) → F (floating becomes part) (floating becomes later)
      go true = acts_bind names apart _ h (λ value. acts_stop names apart (λ (result : Value). result) More)
      go false = h

  finds_this : F (this_value context) (this_value context)
  finds_this = finds_present context.this

  finds_tested : (value : Value) → F (tested context value) (tested context value)
  finds_tested value = asks (truth_of value)

  finds_given : {part later : Meaning (Option Value)} → F part later → F (given part) (given later)
  finds_given h = acts_bind names apart _ h finds_present

  finds_call_on : (asked : Option Target) {other : Option Target} {object one : Meaning Value} {arguments more : List JType → Meaning (List Value)} → asked ≡ other → F object one → ((types : List JType) → F (arguments types) (more types))
      → F (call_on context asked object arguments) (call_on context other one more)
  finds_call_on asked e h k =
      acts_with names apart asked e (λ target. acts_bind names apart _ h (λ receiver. acts_bind names apart _ (k (parameters_of target.descriptor)) (λ values. asks (called target receiver values))))

  finds_call_static : (asked : Option Target) {other : Option Target} {arguments more : List JType → Meaning (List Value)} → asked ≡ other → ((types : List JType) → F (arguments types) (more types))
      → F (call_static context asked arguments) (call_static context other more)
  finds_call_static asked e k = acts_with names apart asked e (λ target. acts_bind names apart _ (k (parameters_of target.descriptor)) (λ values. asks (called target Null values)))

  finds_made : (class : Name) (asked : Option Target) {other : Option Target} {arguments more : List JType → Meaning (List Value)} → asked ≡ other → ((types : List JType) → F (arguments types) (more types))
      → F (made context class asked arguments) (made context class other more)
  finds_made class asked e k =
      acts_with names apart asked e (λ target. acts_bind names apart _ (asks (ask_value (New class))) (λ object.
      acts_bind names apart _ (k (parameters_of target.descriptor)) (λ values. acts_bind names apart _ (asks (called target object values)) (λ nothing. pures object))))

  -- ---- expressions

  module _ {g h : Scope} (s : IsScope names g h) where
    of : (exp : Exp) → type_of context g exp ≡ type_of context h (exp_renamed names exp)
    of exp = type_alike names context g h s.typed exp

    of_all : (exps : Exps) → types_of context g exps ≡ types_of context h (exps_renamed names exps)
    of_all exps = types_alike names context g h s.typed exps

    mutual
      finds : (exp : Exp) → F (value context g exp) (value context h (exp_renamed names exp))
      finds (trees.Int number) = pures (Int number)
      finds (trees.Long number) = pures (Long number)
      finds (Text units) = pures (text units)
      finds (Truth known) = pures (truth known)
      finds trees.Null = pures Null
      finds This = finds_this
      finds (Variable variable) = finds_look names apart variable (g variable) (s.typed variable)
      finds (ClassOf kind) = asks (ask_value (ClassConstant kind))
      finds (Field object name) =
          acts_with names apart _ (λ i. option_and_then (selected context.headers context.members context.class name) (plain (of object i)))
          (λ selection. acts_bind names apart _ (finds object) (λ found. asks (selected_read name selection found)))
      finds (Static class name) =
          acts_with names apart (named_field context.headers context.members context.class class name) refl (λ field. asks (static_read (Class class) name field))
      finds (Element array index) =
          acts_with names apart _ (λ i. option_and_then element_of (plain (of array i)))
          (λ element. acts_bind names apart _ (finds array) (λ found. acts_bind names apart _ (finds index) (λ place. asks (element_read found place))))
      finds (Call object name arguments) = finds_given (finds_call_on _ (λ i. object_target context name (plain (of object i)) (of_all arguments i)) (finds object) (finds_all arguments))
      finds (StaticCall class name arguments) = finds_given (finds_call_static _ (λ i. class_target context class name (of_all arguments i)) (finds_all arguments))
      finds (SuperCall above name arguments) = finds_given (finds_call_on _ (λ i. super_target context above name (of_all arguments i)) finds_this (finds_all arguments))
      finds (trees.New class arguments) = finds_made class _ (λ i. new_target context class (of_all arguments i)) (finds_all arguments)
      finds (NewArray kind sizes more) =
          subst (λ (number : ℕ). F (value context g (NewArray kind sizes more))
          (values context h (exps_renamed names sizes) (replicate number types.Int) >>= λ numbers. outside context.headers (array_made (array_of (number + more) kind) numbers))) (counted names sizes)
          (acts_bind names apart _ (finds_all sizes (replicate (count sizes) types.Int)) (λ numbers. asks (array_made (array_of (count sizes + more) kind) numbers)))
      finds (Cast kind operand) = acts_bind names apart _ (finds operand) (λ found. asks (cast context.headers kind found))
      finds (InstanceOf operand kind) = acts_bind names apart _ (finds operand) (λ found. asks (is_of context.headers kind found))
      finds (Negative operand) = acts_bind names apart _ (finds operand) (λ found. asks (negated found))
      finds (Not operand) = acts_bind names apart _ (finds operand) (λ found. asks (inverted found))
      finds (Binary operator left right) =
          finds_form (operator_of operator) (finds_floating _ (λ i. becomes_floating (typing_of operator) (plain (of left i)) (plain (of right i))) (finds left)) (finds right)
      finds (Choice test first second) =
          acts_bind names apart _ (acts_bind names apart _ (finds test) finds_tested) (λ answer. acts_either names apart answer refl (finds first) (finds second))
      finds (Assign variable new) = finds_assigned s variable (finds new)

      finds_all : (exps : Exps) (wanted : List JType) → F (values context g exps wanted) (values context h (exps_renamed names exps) wanted)
      finds_all NoExps [] = pures []
      finds_all NoExps (type ∷ wanted) = finds_stuck
      finds_all (AndExp first rest) [] = finds_stuck
      finds_all (AndExp first rest) (type ∷ wanted) =
          acts_bind names apart _ (acts_bind names apart _ (finds first) (finds_fitted type)) (λ one. acts_bind names apart _ (finds_all rest wanted) (λ more. pures (one ∷ more)))

    finds_test : (exp : Exp) → F (test context g exp) (test context h (exp_renamed names exp))
    finds_test exp = acts_bind names apart _ (finds exp) finds_tested

    finds_effect : (exp : Exp) → F (effect context g exp) (effect context h (exp_renamed names exp))
    finds_effect (Call object name arguments) = finds_call_on _ (λ i. object_target context name (plain (of object i)) (of_all arguments i)) (finds object) (finds_all arguments)
    finds_effect (StaticCall class name arguments) = finds_call_static _ (λ i. class_target context class name (of_all arguments i)) (finds_all arguments)
    finds_effect (SuperCall above name arguments) = finds_call_on _ (λ i. super_target context above name (of_all arguments i)) finds_this (finds_all arguments)
    finds_effect (trees.New class arguments) = acts_bind names apart _ (finds (trees.New class arguments)) (λ object. pures None)
    finds_effect (trees.Int number) = finds_stuck
    finds_effect (trees.Long number) = finds_stuck
    finds_effect (Text units) = finds_stuck
    finds_effect (Truth known) = finds_stuck
    finds_effect trees.Null = finds_stuck
    finds_effect This = finds_stuck
    finds_effect (Variable variable) = finds_stuck
    finds_effect (ClassOf kind) = finds_stuck
    finds_effect (Field object name) = finds_stuck
    finds_effect (Static class name) = finds_stuck
    finds_effect (Element array index) = finds_stuck
    finds_effect (NewArray kind sizes more) = finds_stuck
    finds_effect (Cast kind operand) = finds_stuck
    finds_effect (InstanceOf operand kind) = finds_stuck
    finds_effect (Negative operand) = finds_stuck
    finds_effect (Not operand) = finds_stuck
    finds_effect (Binary operator left right) = finds_stuck
    finds_effect (Choice test first second) = finds_stuck
    finds_effect (Assign variable new) = finds_stuck

    -- ---- parts of statements

    finds_opened : (variable : Var) → F (opened g variable) (opened h (names.variable variable))
    finds_opened variable = acts_either names apart (is_some (g variable)) (λ i. is_some (s.typed variable i)) finds_stuck (finds_put names apart variable None)

    does_initialised : (variable : Var) (initial : Option Exp) → D (initialised context g variable initial) (initialised context h (names.variable variable) (option_renamed names initial))
    does_initialised variable None = completes Normal
    does_initialised variable (Some initial) = acts_bind names apart _ (finds_assigned s variable (finds initial)) (λ kept. completes Normal)

    does_caught : (variable : Var) (reference : RefValue) {first second : Meaning Completion} → D first second → D (caught g variable reference first) (caught h (names.variable variable) reference second)
    does_caught variable reference {second = second} k =
        does_local names apart variable (acts_bind names apart _ (finds_opened variable) (λ done. acts_bind names apart (λ (done : Unit {0}). second) (finds_put names apart variable (Some (Ref reference))) (λ done. k)))

    does_passed_one : (one : Option (Var × JType)) {first second : Meaning Completion} → D first second → D (passed_one g one first) (passed_one h (declared_renamed names one) second)
    does_passed_one None k = k
    does_passed_one (Some one) k = does_local names apart one.0 (acts_bind names apart _ (finds_opened one.0) (λ done. k))

  does_locally : (one : Option (Var × JType)) {first second : Meaning Completion} → D first second → D (locally one first) (locally (declared_renamed names one) second)
  does_locally None k = k
  does_locally (Some one) k = does_local names apart one.0 k

  does_does : (reply : Reply (Option Value)) → D (does context reply) (does context reply)
  does_does reply = acts_bind names apart _ (asks reply) (λ dropped. completes Normal)

  does_field_set : (name : Name) {object one new other : Meaning Value} → F object one → F new other → (selection : Selection) → D (field_set context name object new selection) (field_set context name one other selection)
  does_field_set name k l Length = does_stuck
  does_field_set name k l (Member class field) =
      acts_bind names apart _ k (λ found. acts_bind names apart _ (acts_bind names apart _ l (finds_fitted field.type)) (λ value. does_does (field_written class name field found value)))

  does_element_set : {array one index place new other : Meaning Value} → F array one → F index place → F new other → (element : JType) → D (element_set context array index new element) (element_set context one place other element)
  does_element_set k l m element =
      acts_bind names apart _ k (λ found. acts_bind names apart _ l (λ place. acts_bind names apart _ (acts_bind names apart _ m (finds_fitted element)) (λ value. does_does (element_written context.headers found place value))))

  does_constructed : (place : Place) (asked : Option Target) {other : Option Target} {arguments more : List JType → Meaning (List Value)} → asked ≡ other → ((types : List JType) → F (arguments types) (more types))
      → D (constructed context place asked arguments) (constructed context (place_renamed names place) other more)
  does_constructed First asked e k =
      acts_either names apart context.constructs refl (acts_bind names apart _ (finds_call_on asked e finds_this k) (λ nothing. completes Normal)) does_stuck
  does_constructed (Behind label) asked e k = does_stuck
  does_constructed Elsewhere asked e k = does_stuck

  does_returns_nothing : (result : Option JType) → D (returns_nothing result) (returns_nothing result)
  does_returns_nothing None = completes (Return None)
  does_returns_nothing (Some type) = completes Misfit

  does_returns_value : (result : Option JType) (value : Value) → D (returns_value context result value) (returns_value context result value)
  does_returns_value None value = completes Misfit
  does_returns_value (Some type) value = acts_bind names apart _ (finds_fitted type value) (λ result. completes (Return (Some result)))

  does_synchronized : {first second : Meaning Completion} → D first second → (monitor : Value) → D (synchronized context first monitor) (synchronized context second monitor)
  does_synchronized k monitor = acts_bind names apart _ (asks (with_object monitor (λ reference. Gives reference))) (λ reference. does_holding names apart context.headers reference k)

  does_switched : {go later : Option ℤ → Meaning Completion} → ((label : Option ℤ) → D (go label) (later label)) → (label : Option (Option ℤ)) {other : Option (Option ℤ)} → label ≡ other → D (switched go label) (switched later other)
  does_switched {go = go} {later = later} k label e = subst (λ other. D (switched go label) (switched later other)) e (by label)
    where
      by : (label : Option (Option ℤ)) → D (switched go label) (switched later label)
      by None = completes Normal
      by (Some label) = k label

  does_while : (bound : ℕ) (place : Place) {test other : Meaning Bool} {step after : Meaning (Unit {0})} {body later : Meaning Completion} → F test other → F step after → D body later
      → D (turns bound (label_at place) test step body) (turns bound (label_at (place_renamed names place)) other after later)
  does_while bound First k l m = does_turns names apart bound None k l m
  does_while bound (Behind label) k l m = does_turns names apart bound (Some label) k l m
  does_while bound Elsewhere k l m = does_turns names apart bound None k l m

  does_do : (bound : ℕ) (place : Place) {test other : Meaning Bool} {body later : Meaning Completion} → F test other → D body later
      → D (do_turns bound (label_at place) test body) (do_turns bound (label_at (place_renamed names place)) other later)
  does_do bound First k l = does_do_turns names apart bound None k l
  does_do bound (Behind label) k l = does_do_turns names apart bound (Some label) k l
  does_do bound Elsewhere k l = does_do_turns names apart bound None k l

  within_it : (statement : Stm) {g h : Scope} → Scopes g h → Scopes (within (declared statement) g) (within (declared (renamed names statement)) h)
  within_it statement {g = g} {h = h} s = record { typed = within_alike names apart statement g h s.typed }

  behind_it : (list : Stms) {g h : Scope} → Scopes g h → Scopes (behind list g) (behind (all_renamed names list) h)
  behind_it list {g = g} {h = h} s = record { typed = behind_alike names apart list g h s.typed }

  typed_in : (variable : Var) (type : JType) {g h : Scope} → Scopes g h → Scopes (with_type variable type g) (with_type (names.variable variable) type h)
  typed_in variable type {g = g} {h = h} s = record { typed = with_alike names apart variable type g h s.typed }

  does_passed : (list : Stms) {g h : Scope} → Scopes g h → {first second : Meaning Completion} → D first second → D (passed g list first) (passed h (all_renamed names list) second)
  does_passed Empty s k = k
  does_passed (And first rest) {g = g} {h = h} s {first = one} {second = other} k =
      subst (λ it. D (passed g (And first rest) one) (passed_one h it (passed (within (declared (renamed names first)) h) (all_renamed names rest) other))) (declared_alike names first)
      (does_passed_one s (declared first) (does_passed rest (within_it first s) k))

  -- ---- statements

  module _ (bound : ℕ) where
    mutual
      runs : {g h : Scope} → Scopes g h → (place : Place) (statement : Stm) → D (run context g bound place statement) (run context h bound (place_renamed names place) (renamed names statement))
      runs s place (Block list) = runs_then s list (completes Normal)
      runs s place (Labelled label statement) = acts_bind names apart _ (runs s (Behind label) statement) (does_taken names apart label)
      runs s place (Declare variable type initial) = acts_bind names apart _ (finds_opened s variable) (λ done. does_initialised (typed_in variable type s) variable initial)
      runs s place (Set variable new) = acts_bind names apart _ (finds_assigned s variable (finds s new)) (λ kept. completes Normal)
      runs s place (SetField object name new) =
          acts_with names apart _ (λ i. option_and_then (selected context.headers context.members context.class name) (plain (of s object i))) (does_field_set name (finds s object) (finds s new))
      runs s place (SetStatic class name new) =
          acts_with names apart (named_field context.headers context.members context.class class name) refl (λ field.
          acts_bind names apart _ (acts_bind names apart _ (finds s new) (finds_fitted field.type)) (λ value. does_does (ask (PutStatic (Class class) name field.type value))))
      runs s place (SetElement array index new) =
          acts_with names apart _ (λ i. option_and_then element_of (plain (of s array i))) (does_element_set (finds s array) (finds s index) (finds s new))
      runs s place (Run call) = acts_bind names apart _ (finds_effect s call) (λ dropped. completes Normal)
      runs s place (If condition first second) =
          acts_bind names apart _ (finds_test s condition) (λ answer. acts_either names apart answer refl (runs_then s first (completes Normal)) (runs_then s second (completes Normal)))
      runs s place (While condition body) = does_while bound place (finds_test s condition) (pures tt) (runs_then s body (completes Normal))
      runs s place (Switch on groups) =
          acts_bind names apart _ (finds s on) (λ found. acts_bind names apart _ (asks (number_of found)) (λ number. does_switched (runs_from s groups) (label_for groups number) (label_alike names groups number)))
      runs s place (trees.Break label) = completes (Break label)
      runs s place (trees.Continue label) = completes (Continue label)
      runs s place (trees.Return None) = does_returns_nothing context.result
      runs s place (trees.Return (Some result)) = acts_bind names apart _ (finds s result) (does_returns_value context.result)
      runs s place (Throw exception) = acts_bind names apart _ (finds s exception) (does_thrown names apart context)
      runs {g = g} s place (Rethrow variable) = acts_bind names apart _ (finds_look names apart variable (g variable) (s.typed variable)) (does_thrown names apart context)
      runs s place (Try body clauses) = does_handled names apart (runs_clauses s clauses) (runs_then s body (completes Normal))
      runs s place (Synchronized monitor body) = acts_bind names apart _ (finds s monitor) (does_synchronized (runs_then s body (completes Normal)))
      runs s place (Construct own arguments) = does_constructed place _ (λ i. construct_target context own (of_all s arguments i)) (finds_all s arguments)
      runs s place (Do body condition) = does_do bound place (finds_test s condition) (runs_then s body (completes Normal))
      runs s place (For condition variable step body) =
          does_while bound place (finds_test s condition) (acts_bind names apart _ (finds_assigned s variable (finds s step)) (λ kept. pures tt)) (runs_then s body (completes Normal))
      runs s place (Finally body last) = does_finished names apart (runs_then s last (completes Normal)) (runs_then s body (completes Normal))

      runs_then : {g h : Scope} → Scopes g h → (list : Stms) {next later : Meaning Completion} → D next later → D (run_then context g bound list next) (run_then context h bound (all_renamed names list) later)
      runs_then s Empty k = k
      runs_then {g = g} {h = h} s (And first rest) {next = next} {later = later} k =
          subst (λ it. D (run_then context g bound (And first rest) next)
          (locally it (run context h bound Elsewhere (renamed names first) >>= sequence (run_then context (within (declared (renamed names first)) h) bound (all_renamed names rest) later)))) (declared_alike names first)
          (does_locally (declared first) (acts_bind names apart _ (runs s Elsewhere first) (does_sequence names apart (runs_then (within_it first s) rest k))))

      runs_groups : {g h : Scope} → Scopes g h → (groups : Groups) → D (run_groups context g bound groups) (run_groups context h bound (groups_renamed names groups))
      runs_groups s NoGroups = completes Normal
      runs_groups s (AndGroup labels body rest) = runs_then s body (runs_groups (behind_it body s) rest)

      runs_from : {g h : Scope} → Scopes g h → (groups : Groups) (wanted : Option ℤ) → D (run_from context g bound groups wanted) (run_from context h bound (groups_renamed names groups) wanted)
      runs_from s NoGroups wanted = completes Normal
      runs_from s (AndGroup labels body rest) wanted =
          acts_either names apart (has_label wanted labels) refl (runs_then s body (runs_groups (behind_it body s) rest)) (does_passed body s (runs_from (behind_it body s) rest wanted))

      runs_clauses : {g h : Scope} → Scopes g h → (clauses : Catches) (reference : RefValue) → D (run_clauses context g bound clauses reference) (run_clauses context h bound (catches_renamed names clauses) reference)
      runs_clauses s NoCatches reference = acts_stop names apart (completion_renamed names) (Throws reference)
      runs_clauses s (AndCatch class variable body rest) reference =
          acts_either names apart (is_instance context.headers reference.class class) refl
          (does_caught s variable reference (runs_then (typed_in variable (Class class) s) body (completes Normal))) (runs_clauses s rest reference)

    -- the statements of a body
    runs_statements : {g h : Scope} → Scopes g h → (list : Stms) → D (run_statements context g bound list) (run_statements context h bound (all_renamed names list))
    runs_statements s Empty = completes Normal
    runs_statements {g = g} {h = h} s (And first rest) =
        subst (λ it. D (run_statements context g bound (And first rest))
        (locally it (run context h bound First (renamed names first) >>= sequence (run_all context (within (declared (renamed names first)) h) bound (all_renamed names rest))))) (declared_alike names first)
        (does_locally (declared first) (acts_bind names apart _ (runs s First first) (does_sequence names apart (runs_then (within_it first s) rest (completes Normal)))))

pub renamed_shows : RenamedShows
renamed_shows names apart context first second agree bound list state other a =
    shown_alike names apart (bind (run_statements context first bound list state) (ended context.result)) (bind (run_statements context second bound (all_renamed names list) other) (ended context.result))
    ((acts_bind names apart _ (runs_statements names apart context bound (record { typed = agree }) list) (finds_ended names apart context.result)).acts state other a)
