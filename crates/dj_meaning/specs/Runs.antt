-- What a tree means: an outcome from each state, and how meanings are put together (JLS 6.3, 15.6, 15.7, 16).
use Rattle.std.specs.Prelude.{List, Option, Some, None, if◌then◌else◌}
use Rattle.dj_names.specs.declared.header.Header.{Header}
use Rattle.dj_names.specs.Types.{JType}
use Rattle.dj_syntax.specs.declared.variable.Var.{Var}
use Rattle.dj_values.specs.Values.{RefValue, Value}
use Rattle.dj_values.specs.Outcomes.{Stop, Stuck, State, Outcome, Is, Stops, bind, outside}
use Rattle.dj_meaning.specs.Conversions.{converted}
use Rattle.dj_meaning.specs.StaticTypes.{Scope, is_same_variable}

-- what a run changes: the value of each variable that has one, and the monitors that it holds, the innermost first
pub record Store : Type 0 where
  pub variables : Var → Option Value
  pub held : List RefValue

-- what a tree means: an outcome from each state
abbrev pub Meaning : Type 0 → Type 0
Meaning A = State Store → Outcome Store A

-- a result, and nothing done
abbrev pub pure : {A : Type 0} → A → Meaning A
pure result state = Is result state

-- a stop, and nothing done
abbrev pub stop : {A : Type 0} → Stop → Meaning A
stop why state = Stops why state

-- what the rules of the language rule out
abbrev pub stuck : {A : Type 0} → Meaning A
stuck state = Stops Stuck state

infixl 10 ◌>>=◌
-- one thing after another
abbrev pub ◌>>=◌ : {A B : Type 0} → Meaning A → (A → Meaning B) → Meaning B
first >>= next = λ state. bind (first state) next

-- what has to be there
abbrev pub present : {A : Type 0} → Option A → Meaning A
present None = stuck
present (Some result) = pure result

-- a value, which has to be there
abbrev pub given : Meaning (Option Value) → Meaning Value
given first = first >>= present

-- with what has to be there, before anything is done
abbrev pub with : {A B : Type 0} → Option A → (A → Meaning B) → Meaning B
with None next = stuck
with (Some one) next = next one

-- ---- variables

-- a store with another value of a variable, or none
abbrev pub with_value : Var → Option Value → Store → Store
with_value variable value store = record {
  variables = λ other. if is_same_variable other variable then value else store.variables other;
  held = store.held;
}

-- a state with another store
abbrev pub with_store : (Store → Store) → State Store → State Store
with_store change state = record { store = change state.store; world = state.world }

-- a variable that has this value, or none, from now on
abbrev pub put : Var → Option Value → Meaning (Unit {0})
put variable value state = Is tt (with_store (with_value variable value) state)

-- a variable has a type, and a value (6.3, 16)
abbrev pub looked_up : Option JType → Option Value → Meaning Value
looked_up None found = stuck
looked_up (Some type) None = stuck
looked_up (Some type) (Some value) = pure value

-- the value of a variable
abbrev pub look : Scope → Var → Meaning Value
look scope variable = λ state. looked_up (scope variable) (state.store.variables variable) state

-- a value that goes where a type is wanted
abbrev pub fitted : List Header → JType → Value → Meaning Value
fitted headers type value = outside headers (converted type value)

-- a value that is assigned to a variable, which has the converted one then (15.26.1)
abbrev pub assigned : List Header → Scope → Var → Meaning Value → Meaning Value
assigned headers scope variable value =
    with (scope variable) (λ type. value >>= fitted headers type >>= λ kept. put variable (Some kept) >>= λ done. pure kept)

-- an outcome with another state
abbrev pub map_state : {A : Type 0} → (State Store → State Store) → Outcome Store A → Outcome Store A
map_state change (Is result state) = Is result (change state)
map_state change (Stops why state) = Stops why (change state)

-- a variable is of this part alone: behind it the variable has the value that it had, however the part ends
abbrev pub local : {A : Type 0} → Var → Meaning A → Meaning A
local variable part = λ state. map_state (with_store (with_value variable (state.store.variables variable))) (part state)
