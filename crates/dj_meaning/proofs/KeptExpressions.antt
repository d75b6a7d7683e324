-- What holds of the parts that trees are put together of holds of each tree: expressions.
use Rattle.std.proofs.Common.{ℕ, ◌+◌, Bool, true, false, List, [], ◌∷◌, replicate, Option, Some, None}
use Rattle.std.specs.Prelude.{option_and_then}
use Rattle.dj_names.specs.declared.header.Header.{Header}
use Rattle.dj_names.specs.Types as types
use Rattle.dj_names.specs.Types.{JType, Class, parameters_of}
use Rattle.dj_names.specs.Headers.{Name}
use Rattle.dj_syntax.specs.declared.variable.Var.{Var}
use Rattle.dj_syntax.specs.Trees.{Exp, Text, Truth, This, Variable, ClassOf, Field, Static, Element, Call, StaticCall, SuperCall, NewArray, Cast, InstanceOf, Negative, Not, Binary, Choice, Assign, Exps, NoExps, AndExp}
use Rattle.dj_syntax.specs.Trees as trees
use Rattle.dj_values.specs.Values.{RefValue, Value, Int, Long, Null, New, ClassConstant}
use Rattle.dj_values.specs.Fits.{element_of}
use Rattle.dj_values.specs.Outcomes.{Stop, More, Stuck, Reply, ask_value, outside}
use Rattle.dj_meaning.specs.Operators.{Operator, Strict, After, operator_of, truth, truth_of, is_wanted, by_form}
use Rattle.dj_meaning.specs.UnaryOperators.{negated, inverted}
use Rattle.dj_meaning.specs.Conversions.{converted, cast}
use Rattle.dj_meaning.specs.Fields.{selected, named_field}
use Rattle.dj_meaning.specs.Targets.{Target}
use Rattle.dj_meaning.specs.Promotions.{typing_of, becomes_floating}
use Rattle.dj_meaning.specs.StaticTypes.{Context, Scope, plain, array_of, count, type_of}
use Rattle.dj_meaning.specs.Objects.{text, is_of, static_read, element_read, array_made, called}
use Rattle.dj_meaning.specs.Runs.{Meaning, pure, stop, ◌>>=◌, present, given, with, put, look, fitted, assigned, local}
use Rattle.dj_meaning.specs.Expressions.{this_value, selected_read, call_on, call_static, made, floating, either, tested, value, values, test, effect}
use Rattle.dj_meaning.specs.Completions.{Completion, turns, do_turns, handled, finished, holding}
use Rattle.dj_meaning.specs.Variables.{EachInExp, EachInExps}

-- A relation of meanings that the parts keep of which trees are put together, where each variable that is named has a property, and
-- the first run has loops of the one bound, the second of the other.
pub record IsKept (R : (A : Type 0) → Meaning A → Meaning A → Type 0) (Has : Var → Type 0) (bound longer : ℕ) : Type 1 where
  pub pures : {A : Type 0} (result : A) → R A (pure result) (pure result)
  pub stops : {A : Type 0} (why : Stop) → R A (stop why) (stop why)
  pub asks : {A : Type 0} (headers : List Header) (reply : Reply A) → R A (outside headers reply) (outside headers reply)
  pub binds : {A B : Type 0} {first second : Meaning A} {next later : A → Meaning B} → R A first second → ((result : A) → R B (next result) (later result)) → R B (first >>= next) (second >>= later)
  pub looks : (scope : Scope) (variable : Var) → Has variable → R Value (look scope variable) (look scope variable)
  pub puts : (variable : Var) (found : Option Value) → Has variable → R (Unit {0}) (put variable found) (put variable found)
  pub locals : (variable : Var) {first second : Meaning Completion} → Has variable → R Completion first second → R Completion (local variable first) (local variable second)
  pub loops : (own : Option ℕ) {test : Meaning Bool} {step : Meaning (Unit {0})} {body later : Meaning Completion} → R Bool test test → R (Unit {0}) step step → R Completion body later
      → R Completion (turns bound own test step body) (turns longer own test step later)
  pub do_loops : (own : Option ℕ) {test : Meaning Bool} {body later : Meaning Completion} → R Bool test test → R Completion body later → R Completion (do_turns bound own test body) (do_turns longer own test later)
  pub handles : {handler another : RefValue → Meaning Completion} {body later : Meaning Completion} → ((reference : RefValue) → R Completion (handler reference) (another reference)) → R Completion body later
      → R Completion (λ state. handled handler (body state)) (λ state. handled another (later state))
  pub finishes : {last another body later : Meaning Completion} → R Completion last another → R Completion body later
      → R Completion (λ state. finished last (body state)) (λ state. finished another (later state))
  pub holds : (headers : List Header) (monitor : RefValue) {body later : Meaning Completion} → R Completion body later → R Completion (holding headers monitor body) (holding headers monitor later)

module _ {R : (A : Type 0) → Meaning A → Meaning A → Type 0} {Has : Var → Type 0} {bound longer : ℕ} (kept : IsKept R Has bound longer) where
  -- a part that stands on both sides
  abbrev Alone : (A : Type 0) → Meaning A → Type 0
  Alone A part = R A part part

  pub kept-either : {A : Type 0} {one other more most : Meaning A} (answer : Bool) → R A one more → R A other most → R A (either answer one other) (either answer more most)
  kept-either true h k = h
  kept-either false h k = k

  kept-present : {A : Type 0} (found : Option A) → Alone A (present found)
  kept-present None = kept.stops Stuck
  kept-present (Some result) = kept.pures result

  pub kept-with : {A B : Type 0} {next later : A → Meaning B} (found : Option A) → ((one : A) → R B (next one) (later one)) → R B (with found next) (with found later)
  kept-with None h = kept.stops Stuck
  kept-with (Some one) h = h one

  pub kept-fitted : (headers : List Header) (type : JType) (value : Value) → Alone Value (fitted headers type value)
  kept-fitted headers type value = kept.asks headers (converted type value)

  pub kept-assigned : (headers : List Header) (scope : Scope) (variable : Var) {new : Meaning Value} → Has variable → Alone Value new → Alone Value (assigned headers scope variable new)
  kept-assigned headers scope variable n h =
      kept-with (scope variable) (λ type. kept.binds (kept.binds h (kept-fitted headers type)) (λ value. kept.binds (kept.puts variable (Some value) n) (λ done. kept.pures value)))

  kept-form : (headers : List Header) (form : Operator) {left right : Meaning Value} → Alone Value left → Alone Value right → Alone Value (by_form headers form left right)
  kept-form headers (Strict operation) h k = kept.binds h (λ x. kept.binds k (λ y. kept.asks headers (operation x y)))
  kept-form headers (After wanted) h k =
      kept.binds (kept.binds h (λ x. kept.asks headers (truth_of x))) (λ answer. kept-either (is_wanted wanted answer)
      (kept.binds (kept.binds k (λ y. kept.asks headers (truth_of y))) (λ last. kept.pures (truth last))) (kept.pures (truth answer)))

  kept-floating : (becomes : Bool) {part : Meaning Value} → Alone Value part → Alone Value (floating becomes part)
  kept-floating true h = kept.binds h (λ value. kept.stops More)
  kept-floating false h = h

  pub kept-this : (context : Context) → Alone Value (this_value context)
  kept-this context = kept-present context.this

  kept-tested : (context : Context) (value : Value) → Alone Bool (tested context value)
  kept-tested context value = kept.asks context.headers (truth_of value)

  kept-given : {part : Meaning (Option Value)} → Alone (Option Value) part → Alone Value (given part)
  kept-given h = kept.binds h kept-present

  pub kept-call_on : (context : Context) (asked : Option Target) {object : Meaning Value} {arguments : List JType → Meaning (List Value)} → Alone Value object → ((types : List JType) → Alone (List Value) (arguments types)) → Alone (Option Value) (call_on context asked object arguments)
  kept-call_on context asked h k =
      kept-with asked (λ target. kept.binds h (λ receiver. kept.binds (k (parameters_of target.descriptor)) (λ values. kept.asks context.headers (called target receiver values))))

  kept-call_static : (context : Context) (asked : Option Target) {arguments : List JType → Meaning (List Value)} → ((types : List JType) → Alone (List Value) (arguments types)) → Alone (Option Value) (call_static context asked arguments)
  kept-call_static context asked k =
      kept-with asked (λ target. kept.binds (k (parameters_of target.descriptor)) (λ values. kept.asks context.headers (called target Null values)))

  kept-made : (context : Context) (class : Name) (asked : Option Target) {arguments : List JType → Meaning (List Value)} → ((types : List JType) → Alone (List Value) (arguments types)) → Alone Value (made context class asked arguments)
  kept-made context class asked k =
      kept-with asked (λ target. kept.binds (kept.asks context.headers (ask_value (New class))) (λ object.
      kept.binds (k (parameters_of target.descriptor)) (λ values. kept.binds (kept.asks context.headers (called target object values)) (λ nothing. kept.pures object))))

  -- ---- expressions

  mutual
    pub kept-value : (context : Context) (scope : Scope) (exp : Exp) → EachInExp Has exp → Alone Value (value context scope exp)
    kept-value context scope (trees.Int number) n = kept.pures (Int number)
    kept-value context scope (trees.Long number) n = kept.pures (Long number)
    kept-value context scope (Text units) n = kept.pures (text units)
    kept-value context scope (Truth known) n = kept.pures (truth known)
    kept-value context scope trees.Null n = kept.pures Null
    kept-value context scope This n = kept-this context
    kept-value context scope (Variable variable) n = kept.looks scope variable n
    kept-value context scope (ClassOf kind) n = kept.asks context.headers (ask_value (ClassConstant kind))
    kept-value context scope (Field object name) n =
        kept-with (option_and_then (selected context.headers context.members context.class name) (plain (type_of context scope object))) (λ selection.
        kept.binds (kept-value context scope object n) (λ found. kept.asks context.headers (selected_read name selection found)))
    kept-value context scope (Static class name) n =
        kept-with (named_field context.headers context.members context.class class name) (λ field. kept.asks context.headers (static_read (Class class) name field))
    kept-value context scope (Element array index) n =
        kept-with (option_and_then element_of (plain (type_of context scope array))) (λ element.
        kept.binds (kept-value context scope array n.0) (λ found. kept.binds (kept-value context scope index n.1) (λ place. kept.asks context.headers (element_read found place))))
    kept-value context scope (Call object name arguments) n = kept-given (kept-call_on context _ (kept-value context scope object n.0) (kept-values context scope arguments n.1))
    kept-value context scope (StaticCall class name arguments) n = kept-given (kept-call_static context _ (kept-values context scope arguments n))
    kept-value context scope (SuperCall above name arguments) n = kept-given (kept-call_on context _ (kept-this context) (kept-values context scope arguments n))
    kept-value context scope (trees.New class arguments) n = kept-made context class _ (kept-values context scope arguments n)
    kept-value context scope (NewArray kind sizes more) n =
        kept.binds (kept-values context scope sizes n (replicate (count sizes) types.Int)) (λ numbers. kept.asks context.headers (array_made (array_of (count sizes + more) kind) numbers))
    kept-value context scope (Cast kind operand) n = kept.binds (kept-value context scope operand n) (λ found. kept.asks context.headers (cast context.headers kind found))
    kept-value context scope (InstanceOf operand kind) n = kept.binds (kept-value context scope operand n) (λ found. kept.asks context.headers (is_of context.headers kind found))
    kept-value context scope (Negative operand) n = kept.binds (kept-value context scope operand n) (λ found. kept.asks context.headers (negated found))
    kept-value context scope (Not operand) n = kept.binds (kept-value context scope operand n) (λ found. kept.asks context.headers (inverted found))
    kept-value context scope (Binary operator left right) n =
        kept-form context.headers (operator_of operator)
        (kept-floating (becomes_floating (typing_of operator) (plain (type_of context scope left)) (plain (type_of context scope right))) (kept-value context scope left n.0))
        (kept-value context scope right n.1)
    kept-value context scope (Choice test first second) n =
        kept.binds (kept.binds (kept-value context scope test n.0) (kept-tested context)) (λ answer. kept-either answer (kept-value context scope first n.1) (kept-value context scope second n.2))
    kept-value context scope (Assign variable new) n = kept-assigned context.headers scope variable n.0 (kept-value context scope new n.1)

    pub kept-values : (context : Context) (scope : Scope) (exps : Exps) → EachInExps Has exps → (types : List JType) → Alone (List Value) (values context scope exps types)
    kept-values context scope NoExps n [] = kept.pures []
    kept-values context scope NoExps n (type ∷ types) = kept.stops Stuck
    kept-values context scope (AndExp first rest) n [] = kept.stops Stuck
    kept-values context scope (AndExp first rest) n (type ∷ types) =
        kept.binds (kept.binds (kept-value context scope first n.0) (kept-fitted context.headers type)) (λ one. kept.binds (kept-values context scope rest n.1 types) (λ more. kept.pures (one ∷ more)))

  pub kept-test : (context : Context) (scope : Scope) (exp : Exp) → EachInExp Has exp → Alone Bool (test context scope exp)
  kept-test context scope exp n = kept.binds (kept-value context scope exp n) (kept-tested context)

  pub kept-effect : (context : Context) (scope : Scope) (exp : Exp) → EachInExp Has exp → Alone (Option Value) (effect context scope exp)
  kept-effect context scope (Call object name arguments) n = kept-call_on context _ (kept-value context scope object n.0) (kept-values context scope arguments n.1)
  kept-effect context scope (StaticCall class name arguments) n = kept-call_static context _ (kept-values context scope arguments n)
  kept-effect context scope (SuperCall above name arguments) n = kept-call_on context _ (kept-this context) (kept-values context scope arguments n)
  kept-effect context scope (trees.New class arguments) n = kept.binds (kept-value context scope (trees.New class arguments) n) (λ object. kept.pures None)
  kept-effect context scope (trees.Int number) n = kept.stops Stuck
  kept-effect context scope (trees.Long number) n = kept.stops Stuck
  kept-effect context scope (Text units) n = kept.stops Stuck
  kept-effect context scope (Truth known) n = kept.stops Stuck
  kept-effect context scope trees.Null n = kept.stops Stuck
  kept-effect context scope This n = kept.stops Stuck
  kept-effect context scope (Variable variable) n = kept.stops Stuck
  kept-effect context scope (ClassOf kind) n = kept.stops Stuck
  kept-effect context scope (Field object name) n = kept.stops Stuck
  kept-effect context scope (Static class name) n = kept.stops Stuck
  kept-effect context scope (Element array index) n = kept.stops Stuck
  kept-effect context scope (NewArray kind sizes more) n = kept.stops Stuck
  kept-effect context scope (Cast kind operand) n = kept.stops Stuck
  kept-effect context scope (InstanceOf operand kind) n = kept.stops Stuck
  kept-effect context scope (Negative operand) n = kept.stops Stuck
  kept-effect context scope (Not operand) n = kept.stops Stuck
  kept-effect context scope (Binary operator left right) n = kept.stops Stuck
  kept-effect context scope (Choice test first second) n = kept.stops Stuck
  kept-effect context scope (Assign variable new) n = kept.stops Stuck
