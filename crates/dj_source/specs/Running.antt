-- How what statements come to is seen as in the definition.
use Rattle.std.specs.Prelude.{◌≡◌, ⊤, ℕ, Bool, List, Option, Some, None, Result, Ok, Err, IfSome, option_map}
use Rattle.dj_names.specs.declared.header.Header.{Header}
use Rattle.dj_names.specs.Types.{Class}
use Rattle.dj_syntax.specs.declared.variable.VarKind.TheVariants as kind
use Rattle.dj_syntax.specs.declared.variable.Var.{Var}
use Rattle.dj_syntax.specs.Trees.{Exp, Exps, Stms, Empty, And}
use Rattle.dj_values.specs.Values.{RefValue, Value, Ref}
use Rattle.dj_values.specs.Views.{view_value}
use Rattle.dj_values.specs.Outcomes.{Gives, State, Outcome, Is, Stops, outside}
use Rattle.dj_meaning.specs.StaticTypes.{Context, Scope, with_type, types_of, construct_target}
use Rattle.dj_meaning.specs.Objects.{with_object}
use Rattle.dj_meaning.specs.Runs.{Store, Meaning, pure, ◌>>=◌, put, assigned}
use Rattle.dj_meaning.specs.Expressions.{value, values, this_value, call_on}
use Rattle.dj_meaning.specs.Completions.{Completion, Normal, Break, Continue, Return, Misfit, sequence, next_turn, entered_on}
use Rattle.dj_meaning.specs.Declarations.{declared, within, locally, opened}
use Rattle.dj_meaning.specs.Statements.{Place, First, Behind, Elsewhere, label_at}
use Rattle.dj_meaning.specs.Meaning.{run, run_then, run_all, run_statements, ended}
use Rattle.dj_outside.specs.declared.stop.Stop as code_stop
use Rattle.dj_outside.specs.declared.stop.Stop.TheVariants as stops
use Rattle.dj_outside.specs.Runs.{stop_of}
use Rattle.dj_source.specs.declared.scopes.KeptValue.{KeptValue}
use Rattle.dj_source.specs.Keeping.{back}
use Rattle.dj_source.specs.declared.completion.Completion as code_completion
use Rattle.dj_source.specs.declared.completion.Completion.TheVariants as completions
use Rattle.dj_source.specs.declared.completion.Place as code_place
use Rattle.dj_source.specs.declared.completion.Place.TheVariants as places

-- how a statement completes
abbrev pub view_completion : code_completion.Completion → Completion
view_completion completions.Normal = Normal
view_completion (completions.Break label) = Break label
view_completion (completions.Continue label) = Continue label
view_completion (completions.Return result) = Return (option_map view_value result)
view_completion completions.Misfit = Misfit

-- where a statement stands
abbrev pub view_place : code_place.Place → Place
view_place places.First = First
view_place (places.Behind label) = Behind label
view_place places.Elsewhere = Elsewhere

-- what is said where a run throws; of one that is cut or stuck, or wants for memory, it isn't
abbrev pub WhereItStops : code_stop.Stop → Type 0 → Type 0
WhereItStops (stops.Throws reference) fact = fact
WhereItStops stops.More fact = ⊤
WhereItStops stops.Stuck fact = ⊤
WhereItStops (stops.Memory error) fact = ⊤

-- what is said where a run completes or throws
abbrev pub WhereItEnds : {A : Type 0} → Result A code_stop.Stop → Type 0 → Type 0
WhereItEnds (Ok result) fact = fact
WhereItEnds (Err stop) fact = WhereItStops stop fact

-- statements in order, of which the first stands at this place, and what comes behind them in their scope
abbrev pub begun : Context → Scope → ℕ → Place → Stms → Meaning Completion → Meaning Completion
begun context scope bound Elsewhere list next = run_then context scope bound list next
begun context scope bound First Empty next = next
begun context scope bound First (And first rest) next =
    locally (declared first) (run context scope bound First first >>= sequence (run_then context (within (declared first) scope) bound rest next))
begun context scope bound (Behind label) Empty next = next
begun context scope bound (Behind label) (And first rest) next =
    locally (declared first) (run context scope bound (Behind label) first >>= sequence (run_then context (within (declared first) scope) bound rest next))

-- statements whose variables are still to be put back came to this, and then comes what is behind them
abbrev pub Opens : Result code_completion.Completion code_stop.Stop → List KeptValue → State Store → Meaning Completion → Outcome Store Completion → Type 0
Opens (Ok completion) kept state next whole = whole ≡ back kept (sequence next (view_completion completion) state)
Opens (Err stop) kept state next whole = IfSome (stop_of stop) (λ why. whole ≡ back kept (Stops why state))

-- declarations that are jumped over came to this, and then comes what is behind them
abbrev pub Passes : Result (Unit {0}) code_stop.Stop → List KeptValue → State Store → Meaning Completion → Outcome Store Completion → Type 0
Passes (Ok done) kept state next whole = whole ≡ back kept (next state)
Passes (Err stop) kept state next whole = IfSome (stop_of stop) (λ why. whole ≡ back kept (Stops why state))

-- a turn of a loop came to this: how the loop completes, or that it goes on
abbrev pub Turns : Result (Option code_completion.Completion) code_stop.Stop → State Store → Meaning Completion → Outcome Store Completion → Type 0
Turns (Ok None) state next whole = whole ≡ next state
Turns (Ok (Some completion)) state next whole = whole ≡ Is (view_completion completion) state
Turns (Err stop) state next whole = IfSome (stop_of stop) (λ why. whole ≡ Stops why state)

-- the step of a loop, if it has one
abbrev pub step_of : Context → Scope → Option (Var × Exp) → Meaning (Unit {0})
step_of context scope None = pure tt
step_of context scope (Some step) = assigned context.headers scope step.0 (value context scope step.1) >>= λ kept. pure tt

-- the innermost monitor was left, and then comes what is behind it
abbrev pub Leaves : Result (Unit {0}) code_stop.Stop → State Store → Meaning Completion → Outcome Store Completion → Type 0
Leaves (Ok done) state next whole = whole ≡ next state
Leaves (Err stop) state next whole = IfSome (stop_of stop) (λ why. whole ≡ Stops why state)

-- a call of another constructor on `this` (JLS 8.8.7.1)
abbrev pub constructor_called : Context → Scope → Bool → Exps → Meaning Completion
constructor_called context scope own arguments =
    call_on context (construct_target context own (types_of context scope arguments)) (this_value context) (values context scope arguments) >>= λ nothing. pure Normal

-- a turn of a loop behind its test: the body, the step, and what comes next
abbrev pub turn_of : Context → Scope → ℕ → Place → Stms → Option (Var × Exp) → Meaning Completion → Meaning Completion
turn_of context scope bound place body step next = run_all context scope bound body >>= next_turn (label_at place) (step_of context scope step >>= λ done. next)

-- the body of a catch clause, whose variable has the exception
abbrev pub caught_body : Context → Scope → ℕ → List ℕ → Var → Stms → RefValue → Meaning Completion
caught_body context scope bound class variable body reference =
    opened scope variable >>= λ done. put variable (Some (Ref reference)) >>= λ done. run_all context (with_type variable (Class class) scope) bound body

-- a monitor that is no null is entered and held
abbrev pub entered_with : List Header → Value → Meaning (Unit {0})
entered_with headers monitor = outside headers (with_object monitor (λ reference. Gives reference)) >>= entered_on headers

-- the statements of a body, up to its end
abbrev pub ended_statements : Context → Scope → ℕ → Stms → Meaning (Option Value)
ended_statements context scope bound list = run_statements context scope bound list >>= ended context.result

-- the variable of a parameter
abbrev pub parameter : ℕ → Var
parameter number = record { kind = kind.Param; number = number }
