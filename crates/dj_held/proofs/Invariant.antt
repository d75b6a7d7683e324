-- The laws of the invariant: states that follow one another, variables that get values, and scopes that begin and end.
use Rattle.std.proofs.Common.{◌≡◌, Bool, true, false, not, ◌&&◌, ◌||◌, is_some, IsSome, if◌then◌else◌, List, Option, Some, None, refl, sym, ap, subst, ◌∙◌, inl, inr}
use Rattle.std.proofs.lemmas.Bool.{false≢true, and_parts, or_cases}
use Rattle.dj_names.specs.declared.header.Header.{Header}
use Rattle.dj_names.specs.Types.{JType}
use Rattle.dj_syntax.specs.declared.variable.Var.{Var}
use Rattle.dj_values.specs.Values.{Value}
use Rattle.dj_values.specs.Outcomes.{State}
use Rattle.dj_meaning.specs.StaticTypes.{Scope, is_same_variable, with_type}
use Rattle.dj_meaning.specs.Runs.{Store, with_value, with_store}
use Rattle.dj_scopes.proofs.KeepingLemmas.{one_variable}
use Rattle.dj_variables.specs.Sets.{Set, with, without, meet, join}
use Rattle.dj_held.specs.Reaching.{Matches, Reaches, nothing}

-- ---- sets, and what depends on a test

pub in_join_left : (first second : Set) (variable : Var) → first variable ≡ true → join first second variable ≡ true
in_join_left first second variable is = rw is refl

or_true : (a b : Bool) → b ≡ true → (a || b) ≡ true
or_true true b is = refl
or_true false b is = is

pub in_join_right : (first second : Set) (variable : Var) → second variable ≡ true → join first second variable ≡ true
in_join_right first second variable is = or_true (first variable) (second variable) is

pub in_left : (first second : Set) (variable : Var) → meet first second variable ≡ true → first variable ≡ true
in_left first second variable is = (and_parts (first variable) (second variable) is).0

pub in_right : (first second : Set) (variable : Var) → meet first second variable ≡ true → second variable ≡ true
in_right first second variable is = (and_parts (first variable) (second variable) is).1

if_matches : (headers : List Header) (b : Bool) (type : Option JType) (new old : Option Value) → (b ≡ true → Matches headers type new) → Matches headers type old → Matches headers type (if b then new else old)
if_matches headers true type new old fits was = fits refl
if_matches headers false type new old fits was = was

if_some : {A : Type 0} (b : Bool) (new old : Option A) → (b ≡ true → IsSome new) → (b ≡ false → IsSome old) → IsSome (if b then new else old)
if_some true new old here there = here refl
if_some false new old here there = there refl

in_with : (b c : Bool) → (b || c) ≡ true → b ≡ false → c ≡ true
in_with true c is no_one = absurd (false≢true (sym no_one))
in_with false c is no_one = is

-- a variable that isn't in scope has nothing
has_nothing : (headers : List Header) (type : Option JType) (value : Option Value) → is_some type ≡ false → Matches headers type value → value ≡ None
has_nothing headers None None none fits = refl
has_nothing headers None (Some value) none fits = absurd fits
has_nothing headers (Some type) value none fits = absurd (false≢true (sym none))

declared_matches : (headers : List Header) (b : Bool) (type : JType) (outer : Option JType) (new old : Option Value) → Matches headers (Some type) new → Matches headers outer old → Matches headers (if b then Some type else outer) (if b then new else old)
declared_matches headers true type outer new old fits was = fits
declared_matches headers false type outer new old fits was = was

declared_some : (b c : Bool) (type : JType) (outer : Option JType) (new old : Option Value) → (not b && c) ≡ true → IsSome (if b then Some type else outer) → (c ≡ true → IsSome outer → IsSome old) → IsSome (if b then new else old)
declared_some true c type outer new old is in_scope has = absurd (false≢true is)
declared_some false c type outer new old is in_scope has = has is in_scope

left_matches : (headers : List Header) (b : Bool) (type : JType) (outer : Option JType) (before after : Option Value) → (b ≡ true → Matches headers outer before) → Matches headers (if b then Some type else outer) after
    → Matches headers outer (if b then before else after)
left_matches headers true type outer before after was fits = was refl
left_matches headers false type outer before after was fits = fits

left_some : (b : Bool) (type : JType) (outer : Option JType) (before after : Option Value) → (b ≡ true → is_some outer ≡ false) → IsSome outer → (IsSome (if b then Some type else outer) → IsSome after) → IsSome (if b then before else after)
left_some true type outer before after fresh in_scope has = absurd (false≢true (sym (fresh refl) ∙ in_scope))
left_some false type outer before after fresh in_scope has = has in_scope

-- ---- states

module _ {headers : List Header} where
  pub from_here : {scope : Scope} {set : Set} {start state : State Store} → Reaches headers scope set start state → Reaches headers scope set state state
  from_here r = record { types = r.types; values = r.values; keeps = λ variable has. has }

  pub fewer : {scope : Scope} {set : Set} {start state : State Store} (less : Set) → Reaches headers scope set start state → ((variable : Var) → less variable ≡ true → set variable ≡ true) → Reaches headers scope less start state
  fewer less r more = record { types = r.types; values = λ variable is. r.values variable (more variable is); keeps = r.keeps }

  pub none_known : {scope : Scope} {set : Set} {start state : State Store} → Reaches headers scope set start state → Reaches headers scope nothing start state
  none_known r = fewer nothing r (λ variable is. absurd (false≢true is))

  -- what was assigned stays so
  pub again : {scope : Scope} {first second : Set} {start middle state : State Store} → Reaches headers scope first start middle → Reaches headers scope second middle state → Reaches headers scope (join first second) start state
  again {first = first} {second = second} r q = record {
    types = q.types;
    values = λ variable is in_scope. elim (or_cases (first variable) (second variable) is) [ inl here ↦ q.keeps variable (r.values variable here in_scope) | inr there ↦ q.values variable there in_scope ];
    keeps = λ variable has. q.keeps variable (r.keeps variable has);
  }

  -- from an earlier state
  pub later : {scope : Scope} {first second : Set} {start middle state : State Store} → Reaches headers scope first start middle → Reaches headers scope second middle state → Reaches headers scope second start state
  later {first = first} {second = second} r q = fewer second (again r q) (in_join_right first second)

  pub kept : {scope : Scope} {first second : Set} {start middle state : State Store} → Reaches headers scope first start middle → Reaches headers scope second middle state → Reaches headers scope first start state
  kept {first = first} {second = second} r q = fewer first (again r q) (in_join_left first second)

  -- the same variables
  pub same_variables : {scope : Scope} {set : Set} {start state : State Store} (other : State Store) → Reaches headers scope set start state → other.store.variables ≡ state.store.variables → Reaches headers scope set start other
  same_variables {scope = scope} {set = set} {start = start} {state = state} other r same = record {
    types = λ variable. subst (λ (all : Var → Option Value). Matches headers (scope variable) (all variable)) (sym same) (r.types variable);
    values = λ variable is in_scope. subst (λ (all : Var → Option Value). IsSome (all variable)) (sym same) (r.values variable is in_scope);
    keeps = λ variable has. subst (λ (all : Var → Option Value). IsSome (all variable)) (sym same) (r.keeps variable has);
  }

  pub same_store : {scope : Scope} {set : Set} {start state : State Store} (other : State Store) → Reaches headers scope set start state → other.store ≡ state.store → Reaches headers scope set start other
  same_store other r same = same_variables other r (ap (λ (store : Store). store.variables) same)

  -- ---- a variable gets a value

  pub puts : {scope : Scope} {set : Set} {start state : State Store} (variable : Var) (value : Value) → Reaches headers scope set start state → Matches headers (scope variable) (Some value)
      → Reaches headers scope (with variable set) start (with_store (with_value variable (Some value)) state)
  puts {scope = scope} {set = set} {start = start} {state = state} variable value r fits = record {
    types = λ other. if_matches headers (is_same_variable other variable) (scope other) (Some value) (state.store.variables other)
        (λ same. subst (λ one. Matches headers (scope one) (Some value)) (sym (one_variable other variable same)) fits) (r.types other);
    values = λ other is in_scope. if_some (is_same_variable other variable) (Some value) (state.store.variables other) (λ same. refl)
        (λ differs. r.values other (in_with (is_same_variable other variable) (set other) is differs) in_scope);
    keeps = λ other has. if_some (is_same_variable other variable) (Some value) (state.store.variables other) (λ same. refl) (λ differs. r.keeps other has);
  }

  -- ---- a variable is declared

  pub not_there : {scope : Scope} {set : Set} {start state : State Store} (variable : Var) → Reaches headers scope set start state → is_some (scope variable) ≡ false → state.store.variables variable ≡ None
  not_there {scope = scope} {state = state} variable r none = has_nothing headers (scope variable) (state.store.variables variable) none (r.types variable)

  was_nothing : {scope : Scope} {set : Set} {start state : State Store} (variable other : Var) (new : Option Value) → Reaches headers scope set start state → is_some (scope variable) ≡ false → is_same_variable other variable ≡ true
      → IsSome (start.store.variables other) → IsSome new
  was_nothing {start = start} {state = state} variable other new r none same has =
      absurd (false≢true (subst (λ (found : Option Value). is_some found ≡ true) (not_there variable r none) (subst (λ one. IsSome (state.store.variables one)) (one_variable other variable same) (r.keeps other has))))

  -- without a value
  pub declares : {scope : Scope} {set : Set} {start state : State Store} (variable : Var) (type : JType) → Reaches headers scope set start state → is_some (scope variable) ≡ false
      → Reaches headers (with_type variable type scope) (without variable set) start (with_store (with_value variable None) state)
  declares {scope = scope} {set = set} {start = start} {state = state} variable type r none = record {
    types = λ other. declared_matches headers (is_same_variable other variable) type (scope other) None (state.store.variables other) tt (r.types other);
    values = λ other is in_scope. declared_some (is_same_variable other variable) (set other) type (scope other) None (state.store.variables other) is in_scope (r.values other);
    keeps = λ other has. if_some (is_same_variable other variable) None (state.store.variables other) (λ same. was_nothing variable other None r none same has) (λ differs. r.keeps other has);
  }

  -- ---- a scope ends

  pub leaves_scope : {scope : Scope} {set inner : Set} {start state after : State Store} (variable : Var) (type : JType) → Reaches headers scope set start state → is_some (scope variable) ≡ false
      → Reaches headers (with_type variable type scope) inner start after → Reaches headers scope inner start (with_store (with_value variable (state.store.variables variable)) after)
  leaves_scope {scope = scope} {set = set} {inner = inner} {start = start} {state = state} {after = after} variable type r none q = record {
    types = λ other. left_matches headers (is_same_variable other variable) type (scope other) (state.store.variables variable) (after.store.variables other)
        (λ same. subst (λ one. Matches headers (scope one) (state.store.variables variable)) (sym (one_variable other variable same)) (r.types variable)) (q.types other);
    values = λ other is in_scope. left_some (is_same_variable other variable) type (scope other) (state.store.variables variable) (after.store.variables other)
        (λ same. subst (λ one. is_some (scope one) ≡ false) (sym (one_variable other variable same)) none) in_scope (q.values other is);
    keeps = λ other has. if_some (is_same_variable other variable) (state.store.variables variable) (after.store.variables other)
        (λ same. subst (λ one. IsSome (state.store.variables one)) (one_variable other variable same) (r.keeps other has)) (λ differs. q.keeps other has);
  }
