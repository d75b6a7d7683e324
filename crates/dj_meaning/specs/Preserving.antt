-- What a rewrite of a statement preserves: what it does wherever it may stand, from each start from which it isn't stuck (JLS 14).
use Rattle.std.specs.Prelude.{◌≡◌, ℕ, Some}
use Rattle.dj_names.specs.Types.{JType}
use Rattle.dj_syntax.specs.declared.variable.Var.{Var}
use Rattle.dj_syntax.specs.Trees.{Stm, Block, Stms}
use Rattle.dj_values.specs.Values.{Value}
use Rattle.dj_values.specs.Outcomes.{Throws, More, Stuck, Gives, State, Outcome, Is, Stops, bind, Below}
use Rattle.dj_meaning.specs.Conversions.{converted}
use Rattle.dj_meaning.specs.StaticTypes.{Context, Scope}
use Rattle.dj_meaning.specs.Runs.{Store}
use Rattle.dj_meaning.specs.Completions.{Completion, taken}
use Rattle.dj_meaning.specs.Declarations.{declared}
use Rattle.dj_meaning.specs.Statements.{Place, First, Behind, Elsewhere}
use Rattle.dj_meaning.specs.Meaning.{run, run_statements}

-- a run isn't stuck
abbrev pub IsFree : {A : Type 0} → Outcome Store A → Type 0
IsFree (Is result state) = Unit {0}
IsFree (Stops (Throws reference) state) = Unit {0}
IsFree (Stops More state) = Unit {0}
IsFree (Stops Stuck state) = ⊥

-- a run of a statement, with the label right before it taken: a continue of that label that leaves the statement is stuck, since no loop is left so (14.16)
abbrev pub at_label : Place → Outcome Store Completion → Outcome Store Completion
at_label First run = run
at_label (Behind label) run = bind run (taken label)
at_label Elsewhere run = run

-- where a statement begins: each variable in scope that has a value has one that its type keeps; at no bound is its run stuck
pub record IsStart (context : Context) (scope : Scope) (place : Place) (statement : Stm) (state : State Store) : Type 0 where
  pub typed : (variable : Var) (type : JType) (value : Value) → scope variable ≡ Some type → state.store.variables variable ≡ Some value → converted type value ≡ Gives value
  pub free : (bound : ℕ) → IsFree (at_label place (run context scope bound place statement state))

-- where the whole list of a body begins; its first statement may be the call of another constructor (8.8.7)
pub record IsBodyStart (context : Context) (scope : Scope) (list : Stms) (state : State Store) : Type 0 where
  pub typed : (variable : Var) (type : JType) (value : Value) → scope variable ≡ Some type → state.store.variables variable ≡ Some value → converted type value ≡ Gives value
  pub free : (bound : ℕ) → IsFree (run_statements context scope bound list state)

-- the whole list of a body may stand for another
pub record PreservesBody (first second : Stms) : Type 0 where
  pub forth : (context : Context) (scope : Scope) (state : State Store) → IsBodyStart context scope first state → (bound : ℕ)
      → Below (run_statements context scope bound first state) (run_statements context scope bound second state)
  pub back : (context : Context) (scope : Scope) (state : State Store) → IsBodyStart context scope first state → (bound : ℕ)
      → (more : ℕ) × Below (run_statements context scope bound second state) (run_statements context scope more first state)

-- A statement may stand for another: in each class and method, at each place, and from each start, a run of the first is
-- below that of the second at the same bound, and a run of the second below one of the first at some bound. A run that isn't cut is below
-- an equal one alone: with the same actions, answers left, completion and variables. A variable that the one declares the other declares too.
pub record Preserves (first second : Stm) : Type 0 where
  pub declares : declared second ≡ declared first
  pub forth : (context : Context) (scope : Scope) (place : Place) (state : State Store) → IsStart context scope place first state → (bound : ℕ)
      → Below (run context scope bound place first state) (run context scope bound place second state)
  pub back : (context : Context) (scope : Scope) (place : Place) (state : State Store) → IsStart context scope place first state → (bound : ℕ)
      → (more : ℕ) × Below (run context scope bound place second state) (run context scope more place first state)

-- What a rule of rewriting answers stands for what it was given, wherever that stands: as a statement, and, where both are Blocks, as the whole list of a body.
pub record Keeps (first second : Stm) : Type 0 where
  pub statement : Preserves first second
  pub body : (list other : Stms) → first ≡ Block list → second ≡ Block other → PreservesBody list other
