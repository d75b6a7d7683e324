-- What stands at the head of a body may stand there, and gives its variables what those of a graph hold as its run begins.
use Rattle.std.specs.Prelude.{◌≡◌, ℕ, true, false, not, List, length, map, slice_get, Option, Some, None}
use Rattle.dj_names.specs.declared.header.Header.{Header}
use Rattle.dj_names.specs.Types.{JType, Class}
use Rattle.dj_syntax.specs.declared.variable.VarKind.TheVariants as kind
use Rattle.dj_syntax.specs.declared.variable.Var.{Var}
use Rattle.dj_syntax.specs.Trees.{Stms}
use Rattle.dj_values.specs.Values.{Value, Answer}
use Rattle.dj_values.specs.Fits.{AreValuesOf, IsThis}
use Rattle.dj_values.specs.Outcomes.{State, opening}
use Rattle.dj_meaning.specs.StaticTypes.{Context, Scope}
use Rattle.dj_meaning.specs.Runs.{Store}
use Rattle.dj_meaning.specs.Variables.{EachInStms}
use Rattle.dj_meaning.specs.Meaning.{of_parameter, entered}
use Rattle.dj_typing.specs.Sites.{Site, is_whole, is_whole_type, may_name_type}
use Rattle.dj_declare.specs.Formed.{graph_scope}
use Rattle.dj_declare.specs.States.{Alike}
use Rattle.dj_declare.specs.Heads.{Head, behind_heads, has_dummy, CanStand, started, Start}
use Rattle.dj_declare.specs.Starts.{Occur}
use Rattle.dj_declaring.specs.declared.entry.Entry.{Entry}
use Rattle.dj_declaring.specs.declared.found.Found.{Found}
use Rattle.dj_declaring.specs.Occurring.{nothing_found, stms_found, variables_of, covers}
use Rattle.dj_declaring.specs.Entries.{parameter, heads_of, held_by, first_store, may_copy}

-- the variables of a graph's trees: the parameters, those that have kinds, among them those that hold monitors, and those that hold states
abbrev pub tree_scope : List JType → List JType → Scope
tree_scope parameters kinds = graph_scope parameters kinds (λ number. false)

-- what is found in a tree
abbrev pub found_in : List JType → Stms → Found
found_in kinds tree = stms_found tree (nothing_found kinds)

-- the head of a body with this tree
abbrev pub heads_for : List JType → List JType → Entry → Stms → List Head
heads_for kinds parameters entry tree = heads_of kinds parameters entry (variables_of (found_in kinds tree))

-- what its variables hold, given `this` and what the parameters hold
abbrev pub held_for : List JType → Option Value → List Value → Entry → Stms → List Value
held_for kinds this arguments entry tree = map (held_by kinds this arguments entry) (variables_of (found_in kinds tree))

-- the state as the run of a graph begins
abbrev pub first_state : List JType → Option Value → List Value → Entry → List Answer → State Store
first_state kinds this arguments entry answers = record { store = first_store kinds this arguments entry; world = opening answers }

-- what heads ask of kinds and of copies: each kind can be written and has a dummy value, and what holds `this` or a parameter is of a type to which that may be copied
pub record MayEnter (site : Site) (parameters kinds : List JType) (entry : Entry) : Type 0 where
  pub written : (number : ℕ) (type : JType) → slice_get kinds number ≡ Some type → may_name_type site type ≡ true
  pub dummies : (number : ℕ) (type : JType) → slice_get kinds number ≡ Some type → has_dummy type ≡ true
  pub itself : (number : ℕ) (type : JType) → entry.itself ≡ Some number → slice_get kinds number ≡ Some type
      → (site.has_this ≡ true) × (is_whole site.headers site.class ≡ true) × (may_copy site.headers (Class site.class) type ≡ true)
  pub copies : (place number : ℕ) (given type : JType) → slice_get entry.parameters place ≡ Some (Some number) → slice_get parameters place ≡ Some given → slice_get kinds number ≡ Some type
      → (is_whole_type site.headers given ≡ true) × (may_copy site.headers given type ≡ true)

-- no variable holds two of them
pub record IsApart (entry : Entry) : Type 0 where
  pub itself : (place number : ℕ) → entry.itself ≡ Some number → slice_get entry.parameters place ≡ Some (Some number) → ⊥
  pub parameters : (first second number : ℕ) → slice_get entry.parameters first ≡ Some (Some number) → slice_get entry.parameters second ≡ Some (Some number) → first ≡ second

-- what a run is given: `this`, where it is copied, and one argument of each parameter's type
pub record IsGiven (headers : List Header) (class : List ℕ) (parameters : List JType) (entry : Entry) (this : Option Value) (arguments : List Value) : Type 0 where
  pub itself : (number : ℕ) → entry.itself ≡ Some number → (value : Value) × (this ≡ Some value) × IsThis headers class value
  pub fit : AreValuesOf headers parameters arguments

-- ---- the laws

-- the head may stand as a body begins
abbrev pub HeadsMayStand : Type 0
HeadsMayStand =
    (site : Site) (parameters kinds : List JType) (entry : Entry) (tree : Stms) → MayEnter site parameters kinds entry → CanStand site (of_parameter parameters) (heads_for kinds parameters entry tree)

-- each variable that the tree names has in the graph's scope the type that it has behind the head
abbrev pub HeadsGiveTypes : Type 0
HeadsGiveTypes = (parameters kinds : List JType) (entry : Entry) (tree : Stms) → Occur (tree_scope parameters kinds) (of_parameter parameters) (heads_for kinds parameters entry tree) tree

-- each first value is evaluated at once, in each state in which the parameters have their arguments
abbrev pub HeadsBegin : Type 0
HeadsBegin =
    (site : Site) (context : Context) (parameters kinds : List JType) (entry : Entry) (arguments : List Value) (tree : Stms) (state : State Store) → MayEnter site parameters kinds entry
    → IsGiven context.headers site.class parameters entry context.this arguments
    → ((place : ℕ) → state.store.variables (parameter place) ≡ slice_get arguments place)
    → Start context (of_parameter parameters) (heads_for kinds parameters entry tree) (held_for kinds context.this arguments entry tree) state

-- behind the head each variable that the tree names holds what it holds as the run of the graph begins
abbrev pub HeadsGiveValues : Type 0
HeadsGiveValues =
    (parameters kinds : List JType) (entry : Entry) (this : Option Value) (arguments : List Value) (answers : List Answer) (tree : Stms)
    → EachInStms (λ variable. covers (found_in kinds tree) variable ≡ true) tree
    × Alike (λ variable. covers (found_in kinds tree) variable ≡ true)
    (started (heads_for kinds parameters entry tree) (held_for kinds this arguments entry tree) (entered arguments answers)) (first_state kinds this arguments entry answers)

-- and there the variable of a parameter has its argument, and that of `this` has it
abbrev pub CopiesHold : Type 0
CopiesHold =
    (kinds : List JType) (entry : Entry) (this : Option Value) (arguments : List Value) (number : ℕ) (type : JType) → IsApart entry → slice_get kinds number ≡ Some type
    → ((place : ℕ) (value : Value) → slice_get entry.parameters place ≡ Some (Some number) → slice_get arguments place ≡ Some value
    → (first_store kinds this arguments entry).variables (record { kind = kind.Local; number = number }) ≡ Some value)
    × ((value : Value) → entry.itself ≡ Some number → this ≡ Some value → (first_store kinds this arguments entry).variables (record { kind = kind.Local; number = number }) ≡ Some value)
