-- What holds of the parts that trees are put together of holds of each tree: statements.
use Rattle.std.proofs.Common.{ℕ, ◌==◌, List, Option, Some, None, is_some}
use Rattle.std.specs.Prelude.{ℤ, option_and_then, if◌then◌else◌}
use Rattle.dj_names.specs.Headers.{Name}
use Rattle.dj_names.specs.Types.{JType, Class}
use Rattle.dj_syntax.specs.declared.variable.Var.{Var}
use Rattle.dj_syntax.specs.Trees.{Exp, Stm, Block, Labelled, Declare, Set, SetField, SetStatic, SetElement, Run, If, While, Switch, Throw, Rethrow, Try, Synchronized, Construct, Do, For, Finally, Stms, Empty, And, Groups, NoGroups, AndGroup, Catches, NoCatches, AndCatch}
use Rattle.dj_syntax.specs.Trees as trees
use Rattle.dj_values.specs.Values.{RefValue, Value, Ref, PutStatic}
use Rattle.dj_values.specs.Fits.{element_of}
use Rattle.dj_values.specs.Deciding.{is_instance, is_throwable}
use Rattle.dj_values.specs.Outcomes.{Throws, Stuck, Reply, Gives, Halts, ask}
use Rattle.dj_meaning.specs.Fields.{Selection, Length, Member, selected, named_field}
use Rattle.dj_meaning.specs.Targets.{Target}
use Rattle.dj_meaning.specs.StaticTypes.{Context, Scope, with_type, plain, type_of, types_of, construct_target}
use Rattle.dj_meaning.specs.Objects.{with_object, field_written, element_written}
use Rattle.dj_meaning.specs.Runs.{Meaning}
use Rattle.dj_meaning.specs.Completions.{Completion, Normal, Break, Continue, Return, Misfit, sequence, taken, thrown, returns_nothing, returns_value}
use Rattle.dj_meaning.specs.Declarations.{declared, within, behind, locally, opened, passed_one, passed, initialised, caught}
use Rattle.dj_meaning.specs.Statements.{Place, First, Behind, Elsewhere, label_at, does, field_set, element_set, constructed, has_label, label_for, number_of, switched, synchronized}
use Rattle.dj_meaning.specs.Variables.{EachInOption, EachInStm, EachInStms, EachInGroups, EachInCatches}
use Rattle.dj_meaning.specs.Meaning.{run, run_then, run_groups, run_from, run_clauses, run_all, run_statements}
use Rattle.dj_meaning.proofs.KeptExpressions.{IsKept, kept-either, kept-with, kept-fitted, kept-assigned, kept-this, kept-call_on, kept-value, kept-values, kept-test, kept-effect}

-- a variable that is declared, where one is, has a property
abbrev HasDeclared : (Var → Type 0) → Option (Var × JType) → Type 0
HasDeclared Has None = Unit {0}
HasDeclared Has (Some one) = Has one.0

declared-has : (Has : Var → Type 0) (stm : Stm) → EachInStm Has stm → HasDeclared Has (declared stm)
declared-has Has (Block list) n = tt
declared-has Has (Labelled label statement) n = tt
declared-has Has (Declare variable kind initial) n = n.0
declared-has Has (Set variable new) n = tt
declared-has Has (SetField object name new) n = tt
declared-has Has (SetStatic class name new) n = tt
declared-has Has (SetElement array index new) n = tt
declared-has Has (Run call) n = tt
declared-has Has (If test first second) n = tt
declared-has Has (While test body) n = tt
declared-has Has (Switch on cases) n = tt
declared-has Has (trees.Break label) n = tt
declared-has Has (trees.Continue label) n = tt
declared-has Has (trees.Return result) n = tt
declared-has Has (Throw exception) n = tt
declared-has Has (Rethrow variable) n = tt
declared-has Has (Try body clauses) n = tt
declared-has Has (Synchronized monitor body) n = tt
declared-has Has (Construct own arguments) n = tt
declared-has Has (Do body test) n = tt
declared-has Has (For test variable step body) n = tt
declared-has Has (Finally body last) n = tt

module _ {R : (A : Type 0) → Meaning A → Meaning A → Type 0} {Has : Var → Type 0} {bound longer : ℕ} (kept : IsKept R Has bound longer) where
  -- statements that stand on both sides
  abbrev Alone : Meaning Completion → Type 0
  Alone part = R Completion part part

  -- ---- parts of statements

  kept-sequence : {next later : Meaning Completion} → R Completion next later → (completion : Completion) → R Completion (sequence next completion) (sequence later completion)
  kept-sequence h Normal = h
  kept-sequence h (Break label) = kept.pures (Break label)
  kept-sequence h (Continue label) = kept.pures (Continue label)
  kept-sequence h (Return result) = kept.pures (Return result)
  kept-sequence h Misfit = kept.pures Misfit

  kept-taken : (own : ℕ) (completion : Completion) → Alone (taken own completion)
  kept-taken own Normal = kept.pures Normal
  kept-taken own (Break label) = kept-either kept (label == own) (kept.pures Normal) (kept.pures (Break label))
  kept-taken own (Continue label) = kept-either kept (label == own) (kept.stops Stuck) (kept.pures (Continue label))
  kept-taken own (Return result) = kept.pures (Return result)
  kept-taken own Misfit = kept.pures Misfit

  kept-opened : (scope : Scope) (variable : Var) → Has variable → R (Unit {0}) (opened scope variable) (opened scope variable)
  kept-opened scope variable n = kept-either kept (is_some (scope variable)) (kept.stops Stuck) (kept.puts variable None n)

  kept-locally : (one : Option (Var × JType)) → HasDeclared Has one → {first second : Meaning Completion} → R Completion first second → R Completion (locally one first) (locally one second)
  kept-locally None n h = h
  kept-locally (Some one) n h = kept.locals one.0 n h

  kept-passed_one : (scope : Scope) (one : Option (Var × JType)) → HasDeclared Has one → {first second : Meaning Completion} → R Completion first second → R Completion (passed_one scope one first) (passed_one scope one second)
  kept-passed_one scope None n h = h
  kept-passed_one scope (Some one) n h = kept.locals one.0 n (kept.binds (kept-opened scope one.0 n) (λ done. h))

  kept-passed : (scope : Scope) (list : Stms) → EachInStms Has list → {first second : Meaning Completion} → R Completion first second → R Completion (passed scope list first) (passed scope list second)
  kept-passed scope Empty n h = h
  kept-passed scope (And first rest) n h =
      kept-passed_one scope (declared first) (declared-has Has first n.0) (kept-passed (within (declared first) scope) rest n.1 h)

  kept-initialised : (context : Context) (scope : Scope) (variable : Var) (initial : Option Exp) → Has variable → EachInOption Has initial → Alone (initialised context scope variable initial)
  kept-initialised context scope variable None n e = kept.pures Normal
  kept-initialised context scope variable (Some initial) n e =
      kept.binds (kept-assigned kept context.headers scope variable n (kept-value kept context scope initial e)) (λ done. kept.pures Normal)

  kept-does : (context : Context) (reply : Reply (Option Value)) → Alone (does context reply)
  kept-does context reply = kept.binds (kept.asks context.headers reply) (λ dropped. kept.pures Normal)

  kept-field_set : (context : Context) (name : Name) {object new : Meaning Value} → R Value object object → R Value new new → (selection : Selection) → Alone (field_set context name object new selection)
  kept-field_set context name h k Length = kept.stops Stuck
  kept-field_set context name h k (Member class field) =
      kept.binds h (λ found. kept.binds (kept.binds k (kept-fitted kept context.headers field.type)) (λ value. kept-does context (field_written class name field found value)))

  kept-element_set : (context : Context) {array index new : Meaning Value} → R Value array array → R Value index index → R Value new new → (element : JType) → Alone (element_set context array index new element)
  kept-element_set context h i k element =
      kept.binds h (λ found. kept.binds i (λ place. kept.binds (kept.binds k (kept-fitted kept context.headers element)) (λ value. kept-does context (element_written context.headers found place value))))

  kept-constructed : (context : Context) (place : Place) (asked : Option Target) {arguments : List JType → Meaning (List Value)} → ((types : List JType) → R (List Value) (arguments types) (arguments types)) → Alone (constructed context place asked arguments)
  kept-constructed context First asked h =
      kept-either kept context.constructs (kept.binds (kept-call_on kept context asked (kept-this kept context) h) (λ nothing. kept.pures Normal)) (kept.stops Stuck)
  kept-constructed context (Behind label) asked h = kept.stops Stuck
  kept-constructed context Elsewhere asked h = kept.stops Stuck

  kept-returns_nothing : (result : Option JType) → Alone (returns_nothing result)
  kept-returns_nothing None = kept.pures (Return None)
  kept-returns_nothing (Some type) = kept.pures Misfit

  kept-returns_value : (context : Context) (result : Option JType) (value : Value) → Alone (returns_value context result value)
  kept-returns_value context None value = kept.pures Misfit
  kept-returns_value context (Some type) value = kept.binds (kept-fitted kept context.headers type value) (λ result. kept.pures (Return (Some result)))

  kept-thrown : (context : Context) (value : Value) → Alone (thrown context value)
  kept-thrown context value = kept.asks context.headers (with_object value (λ reference. Halts (if is_throwable context.headers reference then Throws reference else Stuck)))

  kept-caught : (scope : Scope) (variable : Var) (reference : RefValue) → Has variable → {first second : Meaning Completion} → R Completion first second → R Completion (caught scope variable reference first) (caught scope variable reference second)
  kept-caught scope variable reference n h =
      kept.locals variable n (kept.binds (kept-opened scope variable n) (λ done. kept.binds (kept.puts variable (Some (Ref reference)) n) (λ done. h)))

  kept-synchronized : (context : Context) {first second : Meaning Completion} → R Completion first second → (monitor : Value) → R Completion (synchronized context first monitor) (synchronized context second monitor)
  kept-synchronized context h monitor =
      kept.binds (kept.asks context.headers (with_object monitor (λ reference. Gives reference))) (λ reference. kept.holds context.headers reference h)

  kept-switched : {go later : Option ℤ → Meaning Completion} → ((label : Option ℤ) → R Completion (go label) (later label)) → (label : Option (Option ℤ)) → R Completion (switched go label) (switched later label)
  kept-switched h None = kept.pures Normal
  kept-switched h (Some label) = h label

  -- ---- statements

  module _ (context : Context) where
    mutual
      pub kept-run : (scope : Scope) (place : Place) (stm : Stm) → EachInStm Has stm → R Completion (run context scope bound place stm) (run context scope longer place stm)
      kept-run scope place (Block list) n = kept-then scope list n (kept.pures Normal)
      kept-run scope place (Labelled label statement) n = kept.binds (kept-run scope (Behind label) statement n) (kept-taken label)
      kept-run scope place (Declare variable kind initial) n =
          kept.binds (kept-opened scope variable n.0) (λ done. kept-initialised context (with_type variable kind scope) variable initial n.0 n.1)
      kept-run scope place (Set variable new) n = kept.binds (kept-assigned kept context.headers scope variable n.0 (kept-value kept context scope new n.1)) (λ done. kept.pures Normal)
      kept-run scope place (SetField object name new) n =
          kept-with kept (option_and_then (selected context.headers context.members context.class name) (plain (type_of context scope object)))
          (kept-field_set context name (kept-value kept context scope object n.0) (kept-value kept context scope new n.1))
      kept-run scope place (SetStatic class name new) n =
          kept-with kept (named_field context.headers context.members context.class class name) (λ field.
          kept.binds (kept.binds (kept-value kept context scope new n) (kept-fitted kept context.headers field.type)) (λ value. kept-does context (ask (PutStatic (Class class) name field.type value))))
      kept-run scope place (SetElement array index new) n =
          kept-with kept (option_and_then element_of (plain (type_of context scope array)))
          (kept-element_set context (kept-value kept context scope array n.0) (kept-value kept context scope index n.1) (kept-value kept context scope new n.2))
      kept-run scope place (Run call) n = kept.binds (kept-effect kept context scope call n) (λ dropped. kept.pures Normal)
      kept-run scope place (If condition first second) n =
          kept.binds (kept-test kept context scope condition n.0) (λ answer. kept-either kept answer (kept-then scope first n.1 (kept.pures Normal)) (kept-then scope second n.2 (kept.pures Normal)))
      kept-run scope place (While condition body) n =
          kept.loops (label_at place) (kept-test kept context scope condition n.0) (kept.pures tt) (kept-then scope body n.1 (kept.pures Normal))
      kept-run scope place (Switch on cases) n =
          kept.binds (kept-value kept context scope on n.0) (λ found. kept.binds (kept.asks context.headers (number_of found))
          (λ number. kept-switched (kept-from scope cases n.1) (label_for cases number)))
      kept-run scope place (trees.Break label) n = kept.pures (Break label)
      kept-run scope place (trees.Continue label) n = kept.pures (Continue label)
      kept-run scope place (trees.Return None) n = kept-returns_nothing context.result
      kept-run scope place (trees.Return (Some result)) n = kept.binds (kept-value kept context scope result n) (kept-returns_value context context.result)
      kept-run scope place (Throw exception) n = kept.binds (kept-value kept context scope exception n) (kept-thrown context)
      kept-run scope place (Rethrow variable) n = kept.binds (kept.looks scope variable n) (kept-thrown context)
      kept-run scope place (Try body clauses) n = kept.handles (kept-clauses scope clauses n.1) (kept-then scope body n.0 (kept.pures Normal))
      kept-run scope place (Synchronized monitor body) n =
          kept.binds (kept-value kept context scope monitor n.0) (kept-synchronized context (kept-then scope body n.1 (kept.pures Normal)))
      kept-run scope place (Construct this arguments) n =
          kept-constructed context place (construct_target context this (types_of context scope arguments)) (kept-values kept context scope arguments n)
      kept-run scope place (Do body condition) n =
          kept.do_loops (label_at place) (kept-test kept context scope condition n.1) (kept-then scope body n.0 (kept.pures Normal))
      kept-run scope place (For condition variable step body) n =
          kept.loops (label_at place) (kept-test kept context scope condition n.0)
          (kept.binds (kept-assigned kept context.headers scope variable n.1 (kept-value kept context scope step n.2)) (λ done. kept.pures tt)) (kept-then scope body n.3 (kept.pures Normal))
      kept-run scope place (Finally body last) n = kept.finishes (kept-then scope last n.1 (kept.pures Normal)) (kept-then scope body n.0 (kept.pures Normal))

      pub kept-then : (scope : Scope) (list : Stms) → EachInStms Has list → {next later : Meaning Completion} → R Completion next later → R Completion (run_then context scope bound list next) (run_then context scope longer list later)
      kept-then scope Empty n h = h
      kept-then scope (And first rest) n h =
          kept-locally (declared first) (declared-has Has first n.0) (kept.binds (kept-run scope Elsewhere first n.0) (kept-sequence (kept-then (within (declared first) scope) rest n.1 h)))

      kept-groups : (scope : Scope) (groups : Groups) → EachInGroups Has groups → R Completion (run_groups context scope bound groups) (run_groups context scope longer groups)
      kept-groups scope NoGroups n = kept.pures Normal
      kept-groups scope (AndGroup labels body rest) n = kept-then scope body n.0 (kept-groups (behind body scope) rest n.1)

      kept-from : (scope : Scope) (groups : Groups) → EachInGroups Has groups → (wanted : Option ℤ) → R Completion (run_from context scope bound groups wanted) (run_from context scope longer groups wanted)
      kept-from scope NoGroups n wanted = kept.pures Normal
      kept-from scope (AndGroup labels body rest) n wanted =
          kept-either kept (has_label wanted labels) (kept-then scope body n.0 (kept-groups (behind body scope) rest n.1))
          (kept-passed scope body n.0 (kept-from (behind body scope) rest n.1 wanted))

      kept-clauses : (scope : Scope) (clauses : Catches) → EachInCatches Has clauses → (reference : RefValue) → R Completion (run_clauses context scope bound clauses reference) (run_clauses context scope longer clauses reference)
      kept-clauses scope NoCatches n reference = kept.stops (Throws reference)
      kept-clauses scope (AndCatch class variable body rest) n reference =
          kept-either kept (is_instance context.headers reference.class class)
          (kept-caught scope variable reference n.0 (kept-then (with_type variable (Class class) scope) body n.1 (kept.pures Normal))) (kept-clauses scope rest n.2 reference)

  -- statements in order
  pub kept-all : (context : Context) (scope : Scope) (list : Stms) → EachInStms Has list → R Completion (run_all context scope bound list) (run_all context scope longer list)
  kept-all context scope list n = kept-then context scope list n (kept.pures Normal)

  -- the statements of a body
  pub kept-statements : (context : Context) (scope : Scope) (list : Stms) → EachInStms Has list → R Completion (run_statements context scope bound list) (run_statements context scope longer list)
  kept-statements context scope Empty n = kept.pures Normal
  kept-statements context scope (And first rest) n =
      kept-locally (declared first) (declared-has Has first n.0) (kept.binds (kept-run context scope First first n.0) (kept-sequence (kept-all context (within (declared first) scope) rest n.1)))
