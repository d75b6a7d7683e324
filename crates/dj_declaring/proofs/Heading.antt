-- The head of a body may stand where the body begins, and gives its variables what those of a graph have as its run begins.
use Rattle.std.proofs.Common.{arith, ℕ, ◌+◌, Bool, true, false, not, pos, List, [], ◌∷◌, ◌++◌, map, Option, Some, None, ◌≡◌, refl, sym, ap, ◌∙◌, subst, ◌&&◌, ◌||◌, ◌==◌}
use Rattle.std.specs.Prelude.{slice_get, is_some, if◌then◌else◌, option_map}
use Rattle.std.proofs.lemmas.Bool.{false≢true, and_from}
use Rattle.dj_names.specs.Types as types
use Rattle.dj_names.specs.Types.{JType, Boolean, Byte, Char, Short, Float, Double, Class, Array, StaticType, Of}
use Rattle.dj_syntax.specs.declared.variable.VarKind.{VarKind}
use Rattle.dj_syntax.specs.declared.variable.VarKind.TheVariants as kind
use Rattle.dj_syntax.specs.declared.variable.Var.{Var}
use Rattle.dj_syntax.specs.Trees.{Exp, This, Variable, Choice, Stms}
use Rattle.dj_syntax.specs.Trees as trees
use Rattle.dj_values.specs.Values as values
use Rattle.dj_values.specs.Values.{Value, Answer}
use Rattle.dj_values.specs.Fits.{IsValueOf, AreValuesOf}
use Rattle.dj_values.specs.Outcomes.{Gives, State, Outcome, Is, outside, bind}
use Rattle.dj_meaning.specs.Calls.{is_assignable}
use Rattle.dj_meaning.specs.Conversions.{converted}
use Rattle.dj_meaning.specs.StaticTypes.{Context, Scope, is_same_variable, with_type, typed}
use Rattle.dj_meaning.specs.Runs.{Store, with_value, with_store, present, looked_up, pure}
use Rattle.dj_meaning.specs.Expressions.{value, either, tested}
use Rattle.dj_meaning.specs.Variables.{EachInStms}
use Rattle.dj_meaning.specs.Meaning.{of_parameter, entered}
use Rattle.dj_typing.specs.Sites.{Site, may_name_type}
use Rattle.dj_typing.specs.Operands.{if_typed, is_of, is_boolean}
use Rattle.dj_typing.specs.Expressions.{goes, is_whole_static}
use Rattle.dj_declare.specs.Formed.{local_type}
use Rattle.dj_declare.proofs.FormedNamed.{map_stms}
use Rattle.dj_declare.specs.Heads.{Head, behind_heads, MayBegin, CanStand, begun, started, Begins, Start, dummy, dummy_value, has_dummy}
use Rattle.dj_declare.proofs.Dummies.{dummies_may_stand, dummies_begin}
use Rattle.dj_declare.proofs.Heads.{same_variable}
use Rattle.dj_declare.proofs.Named.{same_is}
use Rattle.dj_declaring.specs.declared.entry.Entry.{Entry}
use Rattle.dj_declaring.specs.declared.found.Found.{Found}
use Rattle.dj_declaring.specs.Occurring.{nothing_found, is_among, stms_found, variables_of, covers, is_marked}
use Rattle.dj_declaring.specs.Entries.{parameter, is_it, place_in, copied, parameter_copy, first_copy, first_value, kind_or_int, head_type, head_initial, head_of, heads_of, or_value, first_argument, first_held, held_by, first_store, may_copy}
use Rattle.dj_declaring.specs.Starting.{tree_scope, found_in, heads_for, held_for, first_state, MayEnter, IsApart, IsGiven, HeadsMayStand, HeadsGiveTypes, HeadsBegin, HeadsGiveValues, CopiesHold}
use Rattle.dj_declaring.proofs.Occurring.{a_variable, among_more, stms_covered}
use Rattle.dj_declaring.proofs.Sound.{Distinct, Each, each_more, not_both, neither, other_way, HasKind, HoldsState, IsSound, found_sound}
use Rattle.dj_declaring.proofs.Copying.{is_it_so, it_is, found_place, place_there, argument_there, argument_not, as_copied, copy_goes, copy_stays, this_stays, truth_cases}

-- ---- variables at the head

-- a variable has a kind, or holds a state
abbrev pub IsHeaded : List JType → VarKind → ℕ → Type 0
IsHeaded kinds kind.Param number = ⊥
IsHeaded kinds kind.Local number = is_some (slice_get kinds number) ≡ true
IsHeaded kinds kind.Caught number = ⊥
IsHeaded kinds kind.State number = Unit {0}

kind_headed : (kinds : List JType) (one : VarKind) (number : ℕ) → HasKind kinds one number → IsHeaded kinds one number
kind_headed kinds kind.Param number has = has
kind_headed kinds kind.Local number has = has
kind_headed kinds kind.Caught number has = has
kind_headed kinds kind.State number has = absurd has

state_headed : (kinds : List JType) (one : VarKind) (number : ℕ) → HoldsState one → IsHeaded kinds one number
state_headed kinds kind.Param number has = has
state_headed kinds kind.Local number has = absurd has
state_headed kinds kind.Caught number has = has
state_headed kinds kind.State number has = has

each_on : (Has Other : Var → Type 0) → ((variable : Var) → Has variable → Other variable) → (list : List Var) → Each Has list → Each Other list
each_on Has Other on [] have = tt
each_on Has Other on (first ∷ rest) have = (on first have.0, each_on Has Other on rest have.1)

-- a variable that has a kind is none that holds a state
kinds_apart : (kinds : List JType) (one other : VarKind) (number place : ℕ) → HasKind kinds one number → HoldsState other → is_same_variable (a_variable other place) (a_variable one number) ≡ false
kinds_apart kinds kind.Param other number place has holds = absurd has
kinds_apart kinds kind.Local kind.Param number place has holds = absurd holds
kinds_apart kinds kind.Local kind.Local number place has holds = absurd holds
kinds_apart kinds kind.Local kind.Caught number place has holds = absurd holds
kinds_apart kinds kind.Local kind.State number place has holds = refl
kinds_apart kinds kind.Caught other number place has holds = absurd has
kinds_apart kinds kind.State other number place has holds = absurd has

none_of : (kinds : List JType) (variable : Var) (states : List Var) → HasKind kinds variable.kind variable.number → Each (λ other. HoldsState other.kind) states → is_among variable states ≡ false
none_of kinds variable [] has holds = refl
none_of kinds variable (first ∷ rest) has holds =
    neither (is_same_variable first variable) (is_among variable rest) (kinds_apart kinds variable.kind first.kind variable.number first.number has holds.0) (none_of kinds variable rest has holds.1)

among_both : (variable : Var) (list more : List Var) → is_among variable list ≡ false → is_among variable more ≡ false → is_among variable (list ++ more) ≡ false
among_both variable [] more none other = other
among_both variable (first ∷ rest) more none other =
    let parts = not_both (is_same_variable first variable) (is_among variable rest) none in
    neither (is_same_variable first variable) (is_among variable (rest ++ more)) parts.0 (among_both variable rest more parts.1 other)

all_distinct : (kinds : List JType) (locals states : List Var) → Each (λ variable. HasKind kinds variable.kind variable.number) locals → Each (λ variable. HoldsState variable.kind) states → Distinct locals → Distinct states
    → Distinct (locals ++ states)
all_distinct kinds [] states has holds one other = other
all_distinct kinds (first ∷ rest) states has holds one other = (among_both first rest states one.0 (none_of kinds first states has.0 holds), all_distinct kinds rest states has.1 holds one.1 other)

-- what is found may stand at a head
pub record MayHead (kinds : List JType) (list : List Var) : Type 0 where
  pub headed : Each (λ variable. IsHeaded kinds variable.kind variable.number) list
  pub distinct : Distinct list

found_heads : (kinds : List JType) (found : Found) → IsSound kinds found → MayHead kinds (variables_of found)
found_heads kinds found sound = record {
  headed = each_more _ found.locals found.states (each_on _ _ (λ variable. kind_headed kinds variable.kind variable.number) found.locals sound.locals)
      (each_on _ _ (λ variable. state_headed kinds variable.kind variable.number) found.states sound.states);
  distinct = all_distinct kinds found.locals found.states sound.locals sound.states sound.distinct sound.apart;
}

-- ---- scopes behind heads

-- a variable at a head is no parameter
no_parameter : (kinds : List JType) (one : VarKind) (number place : ℕ) → IsHeaded kinds one number → is_same_variable (parameter place) (a_variable one number) ≡ false
no_parameter kinds kind.Param number place headed = absurd headed
no_parameter kinds kind.Local number place headed = refl
no_parameter kinds kind.Caught number place headed = absurd headed
no_parameter kinds kind.State number place headed = refl

-- a scope with the parameters
abbrev HasParameters : List JType → Scope → Type 0
HasParameters parameters scope = (place : ℕ) → scope (parameter place) ≡ slice_get parameters place

parameters_stay : (kinds parameters : List JType) (scope : Scope) (variable : Var) (type : JType) → IsHeaded kinds variable.kind variable.number → HasParameters parameters scope → HasParameters parameters (with_type variable type scope)
parameters_stay kinds parameters scope variable type headed has place =
    ap (λ (same : Bool). if same then Some type else scope (parameter place)) (no_parameter kinds variable.kind variable.number place headed) ∙ has place

-- each variable is out of a scope
abbrev Fresh : Scope → List Var → Type 0
Fresh scope list = Each (λ variable. is_some (scope variable) ≡ false) list

fresh_on : (scope : Scope) (first : Var) (type : JType) (rest : List Var) → is_among first rest ≡ false → Fresh scope rest → Fresh (with_type first type scope) rest
fresh_on scope first type [] none fresh = tt
fresh_on scope first type (one ∷ rest) none fresh =
    let parts = not_both (is_same_variable one first) (is_among first rest) none in
    (ap (λ (same : Bool). is_some (if same then Some type else scope one)) parts.0 ∙ fresh.0, fresh_on scope first type rest parts.1 fresh.1)

fresh_at_first : (kinds parameters : List JType) (list : List Var) → Each (λ variable. IsHeaded kinds variable.kind variable.number) list → Fresh (of_parameter parameters) list
fresh_at_first kinds parameters [] headed = tt
fresh_at_first kinds parameters (first ∷ rest) headed = (go first.kind first.number headed.0, fresh_at_first kinds parameters rest headed.1)
  where
    go : (one : VarKind) (number : ℕ) → IsHeaded kinds one number → is_some (of_parameter parameters (a_variable one number)) ≡ false
    go kind.Param number headed = absurd headed
    go kind.Local number headed = refl
    go kind.Caught number headed = absurd headed
    go kind.State number headed = refl

-- ---- first values that may stand

module _ (site : Site) (parameters kinds : List JType) (entry : Entry) (may : MayEnter site parameters kinds entry) where
  module _ (scope : Scope) (has : HasParameters parameters scope) (number : ℕ) (type : JType) (there : slice_get kinds number ≡ Some type)
      (fresh : is_some (scope (a_variable kind.Local number)) ≡ false) where
    abbrev its : Var
    its = a_variable kind.Local number

    is_new_so : (not (is_some (scope its)) && may_name_type site type) ≡ true
    is_new_so = and_from (not (is_some (scope its))) (may_name_type site type) (ap not fresh) (may.written number type there)

    with_dummy : MayBegin site scope (record { variable = its; type = type; initial = dummy type })
    with_dummy = dummies_may_stand site scope its type (may.dummies number type there) is_new_so

    with_this : entry.itself ≡ Some number → MayBegin site scope (record { variable = its; type = type; initial = This })
    with_this e =
        let holds = may.itself number type e there in
        record { is_new = is_new_so; goes = copy_goes site.headers (Class site.class) type holds.2; types = (holds.0, holds.1); reads = tt }

    -- a parameter as it is
    with_parameter : (place : ℕ) (given : JType) → slice_get parameters place ≡ Some given → (if_typed (Some (Of given)) (is_whole_static site.headers) ≡ true) → goes site.headers (Some (Of given)) (Some type) ≡ true
        → MayBegin site scope (record { variable = its; type = type; initial = Variable (parameter place) })
    with_parameter place given e whole fits = record {
      is_new = is_new_so;
      goes = ap (λ found. goes site.headers (typed found) (Some type)) (has place ∙ e) ∙ fits;
      types = (ap is_some (has place ∙ e), ap (λ found. if_typed (typed found) (is_whole_static site.headers)) (has place ∙ e) ∙ whole);
      reads = refl;
    }

    with_copy : (place : ℕ) (given : JType) → slice_get parameters place ≡ Some given → (if_typed (Some (Of given)) (is_whole_static site.headers) ≡ true) → may_copy site.headers given type ≡ true
        → MayBegin site scope (record { variable = its; type = type; initial = copied given (Variable (parameter place)) })
    with_copy place Boolean e whole fits = record {
      is_new = is_new_so;
      goes = copy_goes site.headers Boolean type fits;
      types = (
        ap (λ found. if_typed (typed found) (is_of is_boolean)) (has place ∙ e),
        (
          refl,
          ((ap is_some (has place ∙ e), ap (λ found. if_typed (typed found) (is_whole_static site.headers)) (has place ∙ e) ∙ whole), (tt, tt)),
        ),
      );
      reads = (refl, (tt, tt));
    }
    with_copy place Byte e whole fits = with_parameter place Byte e whole (copy_goes site.headers Byte type fits)
    with_copy place Char e whole fits = with_parameter place Char e whole (copy_goes site.headers Char type fits)
    with_copy place Short e whole fits = with_parameter place Short e whole (copy_goes site.headers Short type fits)
    with_copy place types.Int e whole fits = with_parameter place types.Int e whole (copy_goes site.headers types.Int type fits)
    with_copy place types.Long e whole fits = with_parameter place types.Long e whole (copy_goes site.headers types.Long type fits)
    with_copy place Float e whole fits = with_parameter place Float e whole (copy_goes site.headers Float type fits)
    with_copy place Double e whole fits = with_parameter place Double e whole (copy_goes site.headers Double type fits)
    with_copy place (Class name) e whole fits = with_parameter place (Class name) e whole (copy_goes site.headers (Class name) type fits)
    with_copy place (Array element) e whole fits = with_parameter place (Array element) e whole (copy_goes site.headers (Array element) type fits)

    with_given : (place : ℕ) (given : Option JType) → slice_get parameters place ≡ given → place_in entry.parameters 0 number ≡ Some place
        → MayBegin site scope (record { variable = its; type = type; initial = parameter_copy type place given })
    with_given place None e at = with_dummy
    with_given place (Some given) e at =
        let found = found_place entry.parameters 0 number place at in
        let same : found.at ≡ place = sym (found.counted ∙ (omega arith)) in
        let copies = may.copies place number given type (subst (λ at. slice_get entry.parameters at ≡ Some (Some number)) same found.holds) e there in
        with_copy place given e copies.0 copies.1

    with_place : (place : Option ℕ) → place_in entry.parameters 0 number ≡ place → MayBegin site scope (record { variable = its; type = type; initial = first_copy parameters type place })
    with_place None at = with_dummy
    with_place (Some place) at = with_given place (slice_get parameters place) refl at

    with_first : (it : Bool) → is_it entry.itself number ≡ it
        → MayBegin site scope (record { variable = its; type = type; initial = if it then This else first_copy parameters type (place_in entry.parameters 0 number) })
    with_first true e = with_this (is_it_so entry.itself number e)
    with_first false e = with_place (place_in entry.parameters 0 number) refl

  -- a variable at the head, given the type that its kind says
  abbrev local_head : ℕ → JType → Head
  local_head number type = record { variable = a_variable kind.Local number; type = type; initial = first_value parameters entry type number }

  local_may : (scope : Scope) → HasParameters parameters scope → (number : ℕ) (found : Option JType) → slice_get kinds number ≡ found → is_some found ≡ true → is_some (scope (a_variable kind.Local number)) ≡ false
      → MayBegin site scope (local_head number (kind_or_int found))
  local_may scope has number None e some fresh = absurd (false≢true some)
  local_may scope has number (Some type) e some fresh = with_first scope has number type e fresh (is_it entry.itself number) refl

  head_may : (scope : Scope) → HasParameters parameters scope → (variable : Var) → IsHeaded kinds variable.kind variable.number → is_some (scope variable) ≡ false → MayBegin site scope (head_of kinds parameters entry variable)
  head_may scope has variable = go variable.kind variable.number
    where
      go : (one : VarKind) (number : ℕ) → IsHeaded kinds one number → is_some (scope (a_variable one number)) ≡ false → MayBegin site scope (head_of kinds parameters entry (a_variable one number))
      go kind.Param number headed fresh = absurd headed
      go kind.Local number headed fresh = local_may scope has number (slice_get kinds number) refl headed fresh
      go kind.Caught number headed fresh = absurd headed
      go kind.State number headed fresh = dummies_may_stand site scope (a_variable kind.State number) types.Int refl (and_from (not (is_some (scope (a_variable kind.State number)))) true (ap not fresh) refl)

  heads_can : (scope : Scope) → HasParameters parameters scope → (list : List Var) → MayHead kinds list → Fresh scope list → CanStand site scope (heads_of kinds parameters entry list)
  heads_can scope has [] heads fresh = tt
  heads_can scope has (first ∷ rest) heads fresh = (
    head_may scope has first heads.headed.0 fresh.0,
    heads_can (with_type first (head_type kinds first) scope) (parameters_stay kinds parameters scope first (head_type kinds first) heads.headed.0 has) rest (record { headed = heads.headed.1; distinct = heads.distinct.1 })
        (fresh_on scope first (head_type kinds first) rest heads.distinct.0 fresh.1),
  )

pub heads_may_stand : HeadsMayStand
heads_may_stand site parameters kinds entry tree may =
    let heads = found_heads kinds (found_in kinds tree) (found_sound kinds tree) in
    heads_can site parameters kinds entry may (of_parameter parameters) (λ place. refl) (variables_of (found_in kinds tree)) heads (fresh_at_first kinds parameters (variables_of (found_in kinds tree)) heads.headed)

-- ---- what stands behind a head

abbrev heads_with : List JType → List JType → Entry → List Var → List Head
heads_with kinds parameters entry list = heads_of kinds parameters entry list

not_behind : (kinds parameters : List JType) (entry : Entry) (scope : Scope) (list : List Var) (variable : Var) → is_among variable list ≡ false → behind_heads (heads_of kinds parameters entry list) scope variable ≡ scope variable
not_behind kinds parameters entry scope [] variable none = refl
not_behind kinds parameters entry scope (first ∷ rest) variable none =
    let parts = not_both (is_same_variable first variable) (is_among variable rest) none in
    not_behind kinds parameters entry (with_type first (head_type kinds first) scope) rest variable parts.1
    ∙ ap (λ (same : Bool). if same then Some (head_type kinds first) else scope variable) (other_way first variable parts.0)

type_behind : (kinds parameters : List JType) (entry : Entry) (scope : Scope) (list : List Var) (variable : Var) → is_among variable list ≡ true
    → behind_heads (heads_of kinds parameters entry list) scope variable ≡ Some (head_type kinds variable)
type_behind kinds parameters entry scope [] variable there = absurd (false≢true there)
type_behind kinds parameters entry scope (first ∷ rest) variable there = go (is_among variable rest) refl (is_same_variable first variable) refl there
    (λ e. type_behind kinds parameters entry (with_type first (head_type kinds first) scope) rest variable e)
  where
    go : (later : Bool) → is_among variable rest ≡ later → (same : Bool) → is_same_variable first variable ≡ same → (is_same_variable first variable || is_among variable rest) ≡ true
        → (is_among variable rest ≡ true → behind_heads (heads_of kinds parameters entry rest) (with_type first (head_type kinds first) scope) variable ≡ Some (head_type kinds variable))
        → behind_heads (heads_of kinds parameters entry rest) (with_type first (head_type kinds first) scope) variable ≡ Some (head_type kinds variable)
    go true e same s there on = on e
    go false e true s there on =
        not_behind kinds parameters entry (with_type first (head_type kinds first) scope) rest variable e
        ∙ subst (λ one. with_type one (head_type kinds one) scope variable ≡ Some (head_type kinds variable)) (sym (same_is first variable s))
        (ap (λ (same : Bool). if same then Some (head_type kinds variable) else scope variable) (same_variable variable))
    go false e false s there on = absurd (false≢true (sym (neither (is_same_variable first variable) (is_among variable rest) s e) ∙ there))

-- what a variable holds behind heads
abbrev behind_of : List JType → List JType → Entry → Option Value → List Value → List Var → State Store → State Store
behind_of kinds parameters entry this arguments list state = started (heads_of kinds parameters entry list) (map (held_by kinds this arguments entry) list) state

not_started : (kinds parameters : List JType) (entry : Entry) (this : Option Value) (arguments : List Value) (state : State Store) (list : List Var) (variable : Var) → is_among variable list ≡ false
    → (behind_of kinds parameters entry this arguments list state).store.variables variable ≡ state.store.variables variable
not_started kinds parameters entry this arguments state [] variable none = refl
not_started kinds parameters entry this arguments state (first ∷ rest) variable none =
    let parts = not_both (is_same_variable first variable) (is_among variable rest) none in
    let held = held_by kinds this arguments entry first in
    not_started kinds parameters entry this arguments (begun first held state) rest variable parts.1
    ∙ ap (λ (same : Bool). if same then Some held else if same then None else state.store.variables variable) (other_way first variable parts.0)

value_behind : (kinds parameters : List JType) (entry : Entry) (this : Option Value) (arguments : List Value) (state : State Store) (list : List Var) (variable : Var) → is_among variable list ≡ true
    → (behind_of kinds parameters entry this arguments list state).store.variables variable ≡ Some (held_by kinds this arguments entry variable)
value_behind kinds parameters entry this arguments state [] variable there = absurd (false≢true there)
value_behind kinds parameters entry this arguments state (first ∷ rest) variable there = go (is_among variable rest) refl (is_same_variable first variable) refl there
    (λ e. value_behind kinds parameters entry this arguments (begun first (held_by kinds this arguments entry first) state) rest variable e)
  where
    go : (later : Bool) → is_among variable rest ≡ later → (same : Bool) → is_same_variable first variable ≡ same → (is_same_variable first variable || is_among variable rest) ≡ true
        → (is_among variable rest ≡ true
        → (behind_of kinds parameters entry this arguments rest (begun first (held_by kinds this arguments entry first) state)).store.variables variable ≡ Some (held_by kinds this arguments entry variable))
        → (behind_of kinds parameters entry this arguments rest (begun first (held_by kinds this arguments entry first) state)).store.variables variable ≡ Some (held_by kinds this arguments entry variable)
    go true e same s there on = on e
    go false e true s there on =
        not_started kinds parameters entry this arguments (begun first (held_by kinds this arguments entry first) state) rest variable e
        ∙ subst (λ one. (begun one (held_by kinds this arguments entry one) state).store.variables variable ≡ Some (held_by kinds this arguments entry variable)) (sym (same_is first variable s))
        (ap (λ (same : Bool). if same then Some (held_by kinds this arguments entry variable) else if same then None else state.store.variables variable) (same_variable variable))
    go false e false s there on = absurd (false≢true (sym (neither (is_same_variable first variable) (is_among variable rest) s e) ∙ there))

held_behind : (kinds parameters : List JType) (entry : Entry) (this : Option Value) (arguments : List Value) (state : State Store) (list : List Var)
    → (behind_of kinds parameters entry this arguments list state).store.held ≡ state.store.held
held_behind kinds parameters entry this arguments state [] = refl
held_behind kinds parameters entry this arguments state (first ∷ rest) = held_behind kinds parameters entry this arguments (begun first (held_by kinds this arguments entry first) state) rest

world_behind : (kinds parameters : List JType) (entry : Entry) (this : Option Value) (arguments : List Value) (state : State Store) (list : List Var)
    → (behind_of kinds parameters entry this arguments list state).world ≡ state.world
world_behind kinds parameters entry this arguments state [] = refl
world_behind kinds parameters entry this arguments state (first ∷ rest) = world_behind kinds parameters entry this arguments (begun first (held_by kinds this arguments entry first) state) rest

-- ---- variables that are named

-- a variable is at the head, or has neither kind nor state
abbrev IsNotHeaded : List JType → VarKind → ℕ → Type 0
IsNotHeaded kinds kind.Param number = Unit {0}
IsNotHeaded kinds kind.Local number = slice_get kinds number ≡ None
IsNotHeaded kinds kind.Caught number = Unit {0}
IsNotHeaded kinds kind.State number = ⊥

data IsTold (kinds : List JType) (list : List Var) (one : VarKind) (number : ℕ) : Type 0 where
  at_head : is_among (a_variable one number) list ≡ true → IsHeaded kinds one number → IsTold kinds list one number
  elsewhere : is_among (a_variable one number) list ≡ false → IsNotHeaded kinds one number → IsTold kinds list one number

among_second : (variable : Var) (list more : List Var) → is_among variable more ≡ true → is_among variable (list ++ more) ≡ true
among_second variable [] more c = c
among_second variable (first ∷ rest) more c = go (is_same_variable first variable) (among_second variable rest more c)
  where
    go : (same : Bool) → is_among variable (rest ++ more) ≡ true → (same || is_among variable (rest ++ more)) ≡ true
    go true later = refl
    go false later = later

-- what isn't headed isn't among what is
not_among : (kinds : List JType) (one : VarKind) (number : ℕ) → (IsHeaded kinds one number → ⊥) → (list : List Var) → Each (λ variable. IsHeaded kinds variable.kind variable.number) list → is_among (a_variable one number) list ≡ false
not_among kinds one number not_headed [] headed = refl
not_among kinds one number not_headed (first ∷ rest) headed =
    neither (is_same_variable first (a_variable one number)) (is_among (a_variable one number) rest) (go (is_same_variable first (a_variable one number)) refl) (not_among kinds one number not_headed rest headed.1)
  where
    go : (same : Bool) → is_same_variable first (a_variable one number) ≡ same → is_same_variable first (a_variable one number) ≡ false
    go true e = absurd (not_headed (subst (λ variable. IsHeaded kinds variable.kind variable.number) (same_is first (a_variable one number) e) headed.0))
    go false e = e

told : (kinds : List JType) (found : Found) → IsSound kinds found → (one : VarKind) (number : ℕ) → covers found (a_variable one number) ≡ true → IsTold kinds (variables_of found) one number
told kinds found sound kind.Param number c = elsewhere (not_among kinds kind.Param number (λ none. none) (variables_of found) (found_heads kinds found sound).headed) tt
told kinds found sound kind.Caught number c = elsewhere (not_among kinds kind.Caught number (λ none. none) (variables_of found) (found_heads kinds found sound).headed) tt
told kinds found sound kind.State number c = at_head (among_second (a_variable kind.State number) found.locals found.states c) tt
told kinds found sound kind.Local number c = go (slice_get kinds number) refl (slice_get found.seen number) refl c
  where
    two : false ≡ true → ⊥
    two e = false≢true e

    go : (type : Option JType) → slice_get kinds number ≡ type → (mark : Option Bool) → slice_get found.seen number ≡ mark → is_marked (slice_get found.seen number) ≡ true → IsTold kinds (variables_of found) kind.Local number
    go None e mark m c =
        elsewhere (not_among kinds kind.Local number (λ some. false≢true (sym (ap is_some e) ∙ some)) (variables_of found) (found_heads kinds found sound).headed) e
    go (Some type) e None m c = absurd (false≢true (sym (ap is_some m) ∙ sound.there number ∙ ap is_some e))
    go (Some type) e (Some true) m c = at_head (among_more (a_variable kind.Local number) found.locals found.states (sound.marked number m)) (ap is_some e)
    go (Some type) e (Some false) m c = absurd (false≢true (sym (ap is_marked m) ∙ c))

kind_of_local : (found : Option JType) → is_some found ≡ true → found ≡ Some (kind_or_int found)
kind_of_local None some = absurd (false≢true some)
kind_of_local (Some type) some = refl

-- the type that the graph's scope gives
graph_type : (parameters kinds : List JType) (one : VarKind) (number : ℕ) → IsHeaded kinds one number → tree_scope parameters kinds (a_variable one number) ≡ Some (head_type kinds (a_variable one number))
graph_type parameters kinds kind.Param number headed = absurd headed
graph_type parameters kinds kind.Local number headed = go (slice_get kinds number) headed
  where
    go : (found : Option JType) → is_some found ≡ true → local_type found false ≡ Some (kind_or_int found)
    go None some = absurd (false≢true some)
    go (Some type) some = refl
graph_type parameters kinds kind.Caught number headed = absurd headed
graph_type parameters kinds kind.State number headed = refl

graph_no_type : (parameters kinds : List JType) (one : VarKind) (number : ℕ) → IsNotHeaded kinds one number → tree_scope parameters kinds (a_variable one number) ≡ of_parameter parameters (a_variable one number)
graph_no_type parameters kinds kind.Param number headed = refl
graph_no_type parameters kinds kind.Local number headed = ap (λ found. local_type found false) headed
graph_no_type parameters kinds kind.Caught number headed = refl
graph_no_type parameters kinds kind.State number headed = absurd headed

type_told : (parameters kinds : List JType) (entry : Entry) (list : List Var) (one : VarKind) (number : ℕ) → IsTold kinds list one number
    → tree_scope parameters kinds (a_variable one number) ≡ behind_heads (heads_of kinds parameters entry list) (of_parameter parameters) (a_variable one number)
type_told parameters kinds entry list one number (at_head among headed) =
    graph_type parameters kinds one number headed ∙ sym (type_behind kinds parameters entry (of_parameter parameters) list (a_variable one number) among)
type_told parameters kinds entry list one number (elsewhere among headed) =
    graph_no_type parameters kinds one number headed ∙ sym (not_behind kinds parameters entry (of_parameter parameters) list (a_variable one number) among)

pub heads_give_types : HeadsGiveTypes
heads_give_types parameters kinds entry tree =
    map_stms (λ variable c. type_told parameters kinds entry (variables_of (found_in kinds tree)) variable.kind variable.number (told kinds (found_in kinds tree) (found_sound kinds tree) variable.kind variable.number c)) tree
    (stms_covered tree (nothing_found kinds))

-- ---- values

graph_value : (kinds : List JType) (this : Option Value) (arguments : List Value) (entry : Entry) (one : VarKind) (number : ℕ) → IsHeaded kinds one number
    → Some (held_by kinds this arguments entry (a_variable one number)) ≡ (first_store kinds this arguments entry).variables (a_variable one number)
graph_value kinds this arguments entry kind.Param number headed = absurd headed
graph_value kinds this arguments entry kind.Local number headed = go (slice_get kinds number) headed
  where
    go : (found : Option JType) → is_some found ≡ true → Some (first_held this arguments entry (kind_or_int found) number) ≡ option_map (λ type. first_held this arguments entry type number) found
    go None some = absurd (false≢true some)
    go (Some type) some = refl
graph_value kinds this arguments entry kind.Caught number headed = absurd headed
graph_value kinds this arguments entry kind.State number headed = refl

graph_no_value : (kinds : List JType) (this : Option Value) (arguments : List Value) (entry : Entry) (one : VarKind) (number : ℕ) → IsNotHeaded kinds one number
    → of_parameter arguments (a_variable one number) ≡ (first_store kinds this arguments entry).variables (a_variable one number)
graph_no_value kinds this arguments entry kind.Param number headed = refl
graph_no_value kinds this arguments entry kind.Local number headed = sym (ap (option_map (λ type. first_held this arguments entry type number)) headed)
graph_no_value kinds this arguments entry kind.Caught number headed = refl
graph_no_value kinds this arguments entry kind.State number headed = absurd headed

value_told : (parameters kinds : List JType) (entry : Entry) (this : Option Value) (arguments : List Value) (answers : List Answer) (list : List Var) (one : VarKind) (number : ℕ) → IsTold kinds list one number
    → (behind_of kinds parameters entry this arguments list (entered arguments answers)).store.variables (a_variable one number) ≡ (first_store kinds this arguments entry).variables (a_variable one number)
value_told parameters kinds entry this arguments answers list one number (at_head among headed) =
    value_behind kinds parameters entry this arguments (entered arguments answers) list (a_variable one number) among ∙ graph_value kinds this arguments entry one number headed
value_told parameters kinds entry this arguments answers list one number (elsewhere among headed) =
    not_started kinds parameters entry this arguments (entered arguments answers) list (a_variable one number) among ∙ graph_no_value kinds this arguments entry one number headed

pub heads_give_values : HeadsGiveValues
heads_give_values parameters kinds entry this arguments answers tree = (
  stms_covered tree (nothing_found kinds),
  record {
    variables = λ variable c. value_told parameters kinds entry this arguments answers (variables_of (found_in kinds tree)) variable.kind variable.number
        (told kinds (found_in kinds tree) (found_sound kinds tree) variable.kind variable.number c);
    held = held_behind kinds parameters entry this arguments (entered arguments answers) (variables_of (found_in kinds tree));
    world = world_behind kinds parameters entry this arguments (entered arguments answers) (variables_of (found_in kinds tree));
  },
)

-- ---- first values are evaluated at once

-- a state in which the parameters have their arguments
abbrev HasArguments : List Value → State Store → Type 0
HasArguments arguments state = (place : ℕ) → state.store.variables (parameter place) ≡ slice_get arguments place

arguments_stay : (kinds : List JType) (arguments : List Value) (variable : Var) (one : Value) (state : State Store) → IsHeaded kinds variable.kind variable.number → HasArguments arguments state → HasArguments arguments (begun variable one state)
arguments_stay kinds arguments variable one state headed has place =
    ap (λ (same : Bool). if same then Some one else if same then None else state.store.variables (parameter place)) (no_parameter kinds variable.kind variable.number place headed) ∙ has place

module _ (site : Site) (context : Context) (parameters kinds : List JType) (entry : Entry) (arguments : List Value) (may : MayEnter site parameters kinds entry)
    (given : IsGiven context.headers site.class parameters entry context.this arguments) where
  module _ (scope : Scope) (has : HasParameters parameters scope) (state : State Store) (holds : HasArguments arguments state) (number : ℕ) (type : JType) (there : slice_get kinds number ≡ Some type)
      (fresh : is_some (scope (a_variable kind.Local number)) ≡ false) where
    abbrev own : Var
    own = a_variable kind.Local number

    abbrev opened : State Store
    opened = with_store (with_value own None) state

    dummy_begins : Begins context scope (record { variable = own; type = type; initial = dummy type }) (dummy_value type) state
    dummy_begins = dummies_begin context scope own type state (may.dummies number type there) fresh

    this_begins : entry.itself ≡ Some number → Begins context scope (record { variable = own; type = type; initial = This }) (or_value (dummy_value type) context.this) state
    this_begins e =
        let itself = given.itself number e in
        record {
          is_new = fresh;
          found = itself.0;
          evaluates = ap (λ found. present found opened) itself.1;
          converts = this_stays context.headers site.headers site.class type itself.0 (may.itself number type e there).2 itself.2 ∙ ap Gives (sym (ap (or_value (dummy_value type)) itself.1));
        }

    looks : (place : ℕ) (from : JType) (one : Value) → slice_get parameters place ≡ Some from → slice_get arguments place ≡ Some one
        → value context (with_type own type scope) (Variable (parameter place)) opened ≡ Is one opened
    looks place from one e a =
        ap (λ found. looked_up found (state.store.variables (parameter place)) opened) (has place ∙ e) ∙ ap (λ found. looked_up (Some from) found opened) (holds place ∙ a)

    parameter_begins : (place : ℕ) (from : JType) (one : Value) → slice_get parameters place ≡ Some from → slice_get arguments place ≡ Some one → converted type one ≡ Gives one
        → Begins context scope (record { variable = own; type = type; initial = Variable (parameter place) }) (or_value (dummy_value type) (slice_get arguments place)) state
    parameter_begins place from one e a stays =
        record { is_new = fresh; found = one; evaluates = looks place from one e a; converts = stays ∙ ap Gives (sym (ap (or_value (dummy_value type)) a)) }

    truth_begins : (place : ℕ) (one : Value) → slice_get parameters place ≡ Some Boolean → slice_get arguments place ≡ Some one → IsValueOf context.headers Boolean one → converted type one ≡ Gives one
        → Begins context scope (record { variable = own; type = type; initial = Choice (Variable (parameter place)) (trees.Int (pos 1)) (trees.Int (pos 0)) }) (or_value (dummy_value type) (slice_get arguments place)) state
    truth_begins place one e a fits stays = record {
      is_new = fresh;
      found = one;
      evaluates =
          ap (λ outcome. bind (bind outcome (tested context)) (λ answer. either answer (pure (values.Int (pos 1))) (pure (values.Int (pos 0))))) (looks place Boolean one e a)
          ∙ truth_cases context.headers (λ one. bind (bind (Is one opened) (tested context)) (λ answer. either answer (pure (values.Int (pos 1))) (pure (values.Int (pos 0)))) ≡ Is one opened) refl refl one fits;
      converts = stays ∙ ap Gives (sym (ap (or_value (dummy_value type)) a));
    }

    copy_begins : (place : ℕ) (from : JType) (one : Value) → slice_get parameters place ≡ Some from → slice_get arguments place ≡ Some one → IsValueOf context.headers from one → converted type one ≡ Gives one
        → Begins context scope (record { variable = own; type = type; initial = copied from (Variable (parameter place)) }) (or_value (dummy_value type) (slice_get arguments place)) state
    copy_begins place Boolean one e a fits stays = truth_begins place one e a fits stays
    copy_begins place Byte one e a fits stays = parameter_begins place Byte one e a stays
    copy_begins place Char one e a fits stays = parameter_begins place Char one e a stays
    copy_begins place Short one e a fits stays = parameter_begins place Short one e a stays
    copy_begins place types.Int one e a fits stays = parameter_begins place types.Int one e a stays
    copy_begins place types.Long one e a fits stays = parameter_begins place types.Long one e a stays
    copy_begins place Float one e a fits stays = parameter_begins place Float one e a stays
    copy_begins place Double one e a fits stays = parameter_begins place Double one e a stays
    copy_begins place (Class name) one e a fits stays = parameter_begins place (Class name) one e a stays
    copy_begins place (Array element) one e a fits stays = parameter_begins place (Array element) one e a stays

    given_begins : (place : ℕ) (from : Option JType) → slice_get parameters place ≡ from → place_in entry.parameters 0 number ≡ Some place
        → Begins context scope (record { variable = own; type = type; initial = parameter_copy type place from }) (or_value (dummy_value type) (slice_get arguments place)) state
    given_begins place None e at =
        subst (λ one. Begins context scope (record { variable = own; type = type; initial = dummy type }) one state)
        (sym (ap (or_value (dummy_value type)) (argument_not context.headers parameters arguments place given.fit e))) dummy_begins
    given_begins place (Some from) e at =
        let found = found_place entry.parameters 0 number place at in
        let same : found.at ≡ place = sym (found.counted ∙ (omega arith)) in
        let copies = may.copies place number from type (subst (λ at. slice_get entry.parameters at ≡ Some (Some number)) same found.holds) e there in
        let argument = argument_there context.headers parameters arguments place from given.fit e in
        copy_begins place from argument.0 e argument.1 argument.2 (copy_stays context.headers site.headers from type argument.0 copies.1 argument.2)

    place_begins : (place : Option ℕ) → place_in entry.parameters 0 number ≡ place
        → Begins context scope (record { variable = own; type = type; initial = first_copy parameters type place }) (first_argument arguments type place) state
    place_begins None at = dummy_begins
    place_begins (Some place) at = given_begins place (slice_get parameters place) refl at

    first_begins : (it : Bool) → is_it entry.itself number ≡ it
        → Begins context scope (record { variable = own; type = type; initial = if it then This else first_copy parameters type (place_in entry.parameters 0 number) })
        (if it then or_value (dummy_value type) context.this else first_argument arguments type (place_in entry.parameters 0 number)) state
    first_begins true e = this_begins (is_it_so entry.itself number e)
    first_begins false e = place_begins (place_in entry.parameters 0 number) refl

  local_begins : (scope : Scope) → HasParameters parameters scope → (state : State Store) → HasArguments arguments state → (number : ℕ) (found : Option JType) → slice_get kinds number ≡ found → is_some found ≡ true
      → is_some (scope (a_variable kind.Local number)) ≡ false
      → Begins context scope (record { variable = a_variable kind.Local number; type = kind_or_int found; initial = first_value parameters entry (kind_or_int found) number })
      (first_held context.this arguments entry (kind_or_int found) number) state
  local_begins scope has state holds number None e some fresh = absurd (false≢true some)
  local_begins scope has state holds number (Some type) e some fresh = first_begins scope has state holds number type e fresh (is_it entry.itself number) refl

  head_begins : (scope : Scope) → HasParameters parameters scope → (state : State Store) → HasArguments arguments state → (variable : Var) → IsHeaded kinds variable.kind variable.number → is_some (scope variable) ≡ false
      → Begins context scope (head_of kinds parameters entry variable) (held_by kinds context.this arguments entry variable) state
  head_begins scope has state holds variable = go variable.kind variable.number
    where
      go : (one : VarKind) (number : ℕ) → IsHeaded kinds one number → is_some (scope (a_variable one number)) ≡ false
          → Begins context scope (head_of kinds parameters entry (a_variable one number)) (held_by kinds context.this arguments entry (a_variable one number)) state
      go kind.Param number headed fresh = absurd headed
      go kind.Local number headed fresh = local_begins scope has state holds number (slice_get kinds number) refl headed fresh
      go kind.Caught number headed fresh = absurd headed
      go kind.State number headed fresh = dummies_begin context scope (a_variable kind.State number) types.Int state refl fresh

  heads_start : (scope : Scope) → HasParameters parameters scope → (state : State Store) → HasArguments arguments state → (list : List Var) → MayHead kinds list → Fresh scope list
      → Start context scope (heads_of kinds parameters entry list) (map (held_by kinds context.this arguments entry) list) state
  heads_start scope has state holds [] heads fresh = tt
  heads_start scope has state holds (first ∷ rest) heads fresh = (
    head_begins scope has state holds first heads.headed.0 fresh.0,
    heads_start (with_type first (head_type kinds first) scope) (parameters_stay kinds parameters scope first (head_type kinds first) heads.headed.0 has)
        (begun first (held_by kinds context.this arguments entry first) state) (arguments_stay kinds arguments first (held_by kinds context.this arguments entry first) state heads.headed.0 holds) rest
        (record { headed = heads.headed.1; distinct = heads.distinct.1 }) (fresh_on scope first (head_type kinds first) rest heads.distinct.0 fresh.1),
  )

pub heads_begin : HeadsBegin
heads_begin site context parameters kinds entry arguments tree state may given holds =
    let heads = found_heads kinds (found_in kinds tree) (found_sound kinds tree) in
    heads_start site context parameters kinds entry arguments may given (of_parameter parameters) (λ place. refl) state holds (variables_of (found_in kinds tree)) heads
    (fresh_at_first kinds parameters (variables_of (found_in kinds tree)) heads.headed)

-- ---- copies

pub copies_hold : CopiesHold
copies_hold kinds entry this arguments number type apart there = (of_place, of_this)
  where
    held : Some (first_held this arguments entry type number) ≡ (first_store kinds this arguments entry).variables (a_variable kind.Local number)
    held = sym (ap (option_map (λ type. first_held this arguments entry type number)) there)

    of_place : (place : ℕ) (value : Value) → slice_get entry.parameters place ≡ Some (Some number) → slice_get arguments place ≡ Some value
        → (first_store kinds this arguments entry).variables (a_variable kind.Local number) ≡ Some value
    of_place place value e a = sym held ∙ ap Some (go (is_it entry.itself number) refl)
      where
        go : (it : Bool) → is_it entry.itself number ≡ it → (if it then or_value (dummy_value type) this else first_argument arguments type (place_in entry.parameters 0 number)) ≡ value
        go true t = absurd (apart.itself place number (is_it_so entry.itself number t) e)
        go false t =
            let some = place_there entry.parameters 0 number place e in
            let found = found_place entry.parameters 0 number some.0 some.1 in
            let same : some.0 ≡ place = found.counted ∙ ((omega arith) ∙ apart.parameters found.at place number found.holds e) in
            ap (first_argument arguments type) some.1 ∙ ap (λ at. or_value (dummy_value type) (slice_get arguments at)) same ∙ ap (or_value (dummy_value type)) a

    of_this : (value : Value) → entry.itself ≡ Some number → this ≡ Some value → (first_store kinds this arguments entry).variables (a_variable kind.Local number) ≡ Some value
    of_this value e t =
        sym held
        ∙ ap Some (ap (λ (it : Bool). if it then or_value (dummy_value type) this else first_argument arguments type (place_in entry.parameters 0 number)) (ap (λ one. is_it one number) e ∙ it_is number)
        ∙ ap (or_value (dummy_value type)) t)
