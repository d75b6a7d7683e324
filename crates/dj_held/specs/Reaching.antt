-- Where control comes, and what holds there: the invariant of a run (JLS 6.3, 16).
use Rattle.std.specs.Prelude.{◌≡◌, Bool, true, false, not, List, IsSome, Option, Some, None, pos}
use Rattle.std.specs.Ordering.{int_eq}
use Rattle.dj_names.specs.declared.header.Header.{Header}
use Rattle.dj_names.specs.Types.{JType, StaticType}
use Rattle.dj_syntax.specs.declared.variable.Var.{Var}
use Rattle.dj_values.specs.Values.{RefValue, Value, Int, Long, Null, Ref}
use Rattle.dj_values.specs.Fits.{IsThrowable}
use Rattle.dj_values.specs.Outcomes.{State}
use Rattle.dj_meaning.specs.StaticTypes.{Scope}
use Rattle.dj_meaning.specs.Runs.{Store}
use Rattle.dj_places.specs.Constants.{is_always}
use Rattle.dj_variables.specs.Sets.{Set}
use Rattle.dj_conditions.specs.Conditions.{When, after_both}
use Rattle.dj_held.specs.Values.{IsHeld, IsOfSome}

-- what a variable has, given its type: nothing where it isn't in scope, else a value of its type, or none yet
abbrev pub Matches : List Header → Option JType → Option Value → Type 0
Matches headers None None = Unit {0}
Matches headers None (Some value) = ⊥
Matches headers (Some type) None = Unit {0}
Matches headers (Some type) (Some value) = IsHeld headers type value

-- control comes to a state, from an earlier one, with these variables in scope and these assigned; what had a value has one still
pub record Reaches (headers : List Header) (scope : Scope) (set : Set) (start state : State Store) : Type 0 where
  pub types : (variable : Var) → Matches headers (scope variable) (state.store.variables variable)
  pub values : (variable : Var) → set variable ≡ true → IsSome (scope variable) → IsSome (state.store.variables variable)
  pub keeps : (variable : Var) → IsSome (start.store.variables variable) → IsSome (state.store.variables variable)

-- no variable
abbrev pub nothing : Set
nothing = λ variable. false

-- an exception is thrown at a state, where nothing is known to be assigned
pub record Leaves (headers : List Header) (scope : Scope) (start : State Store) (reference : RefValue) (state : State Store) : Type 0 where
  pub throwable : IsThrowable headers reference
  pub reaches : Reaches headers scope nothing start state

-- what is assigned behind a condition with this answer
abbrev pub side : Bool → When → Set
side true when = when.true
side false when = when.false

-- what is assigned behind an expression with this value
abbrev pub assigned_by : Value → When → Set
assigned_by (Int number) when = side (not (int_eq number (pos 0))) when
assigned_by (Long number) when = after_both when
assigned_by Null when = after_both when
assigned_by (Ref reference) when = after_both when

-- an expression of a type gives a value at a state
pub record Values (headers : List Header) (type : Option StaticType) (scope : Scope) (when : When) (start : State Store) (value : Value) (state : State Store) : Type 0 where
  pub of_type : IsOfSome headers type value
  pub reaches : Reaches headers scope (assigned_by value when) start state

-- a condition has an answer at a state, which is none that it never has
pub record Decides (headers : List Header) (known : Option Bool) (scope : Scope) (when : When) (start : State Store) (answer : Bool) (state : State Store) : Type 0 where
  pub agrees : is_always (not answer) known ≡ false
  pub reaches : Reaches headers scope (side answer when) start state
