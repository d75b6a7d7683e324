-- What an expression's value tells of its type and of the variables that are assigned (JLS 15.25, 16.1).
use Rattle.std.proofs.Common.{◌≡◌, pos, Bool, true, false, not, int_eq, List, [], ◌∷◌, Option, Some, refl, sym, subst, inl, inr, ◌⊎◌}
use Rattle.std.proofs.lemmas.Bool.{and_parts, and_from}
use Rattle.dj_names.specs.declared.header.Header.{Header}
use Rattle.dj_names.specs.Types as types
use Rattle.dj_names.specs.Types.{JType, StaticType, Of}
use Rattle.dj_names.specs.Assignable.{IsReference}
use Rattle.dj_syntax.specs.declared.variable.Var.{Var}
use Rattle.dj_values.specs.Values.{Value, Int, Long, Null, Ref}
use Rattle.dj_values.specs.Deciding.{is_type}
use Rattle.dj_values.specs.Outcomes.{State}
use Rattle.dj_meaning.specs.Operators.{truth}
use Rattle.dj_meaning.specs.Runs.{Store}
use Rattle.dj_meaning.specs.StaticTypes.{Scope, choice_type}
use Rattle.dj_static.proofs.TypeLemmas.{Decides-types}
use Rattle.dj_typing.specs.Operands.{agree}
use Rattle.dj_variables.specs.Sets.{Set}
use Rattle.dj_conditions.specs.Conditions.{When, after_both, either_way}
use Rattle.dj_held.specs.Values.{IsHeld, IsNull, IsOf, IsOfSome}
use Rattle.dj_held.specs.Reaching.{Reaches, side, assigned_by, Values}
use Rattle.dj_held.proofs.Invariant.{fewer}
use Rattle.dj_held.proofs.Converting.{reference_true}

-- ---- `a ? b : c`

null_held : (headers : List Header) (type : JType) (value : Value) → IsReference type → IsNull value → IsHeld headers type value
null_held headers type (Int number) reference null = absurd null
null_held headers type (Long number) reference null = absurd null
null_held headers type Null reference null = reference
null_held headers type (Ref other) reference null = absurd null

one_type : (first second : JType) → is_type first second ≡ true → first ≡ second
one_type first second is =
    let same : first ∷ [] ≡ second ∷ [] = (Decides-types (first ∷ []) (second ∷ [])).0 (and_from (is_type first second) true is refl) in cc

-- a value of one of two types that agree is of the type of the choice
pub agreed : (headers : List Header) (first second : StaticType) (value : Value) → agree first second ≡ true → IsOf headers first value ⊎ IsOf headers second value → IsOfSome headers (choice_type (Some first) (Some second)) value
agreed headers types.Null types.Null value is (inl held) = held
agreed headers types.Null types.Null value is (inr held) = held
agreed headers types.Null (Of second) value is (inl held) = null_held headers second value (reference_true second is) held
agreed headers types.Null (Of second) value is (inr held) = held
agreed headers (Of first) second value is (inl held) = held
agreed headers (Of first) types.Null value is (inr held) = null_held headers first value (reference_true first is) held
agreed headers (Of first) (Of second) value is (inr held) = subst (λ type. IsHeld headers type value) (sym (one_type first second is)) held

-- ---- what is assigned

pub side_known : (answer : Bool) (when : When) (variable : Var) → after_both when variable ≡ true → side answer when variable ≡ true
side_known true when variable is = (and_parts (when.true variable) (when.false variable) is).0
side_known false when variable is = (and_parts (when.true variable) (when.false variable) is).1

pub both_known : (value : Value) (when : When) (variable : Var) → after_both when variable ≡ true → assigned_by value when variable ≡ true
both_known (Int number) when variable is = side_known (not (int_eq number (pos 0))) when variable is
both_known (Long number) when variable is = is
both_known Null when variable is = is
both_known (Ref reference) when variable is = is

pub both_either : (set : Set) (variable : Var) → after_both (either_way set) variable ≡ true → set variable ≡ true
both_either set variable is = (and_parts (set variable) (set variable) is).0

side_either : (answer : Bool) (set : Set) (variable : Var) → side answer (either_way set) variable ≡ true → set variable ≡ true
side_either true set variable is = is
side_either false set variable is = is

pub known_either : (value : Value) (set : Set) (variable : Var) → assigned_by value (either_way set) variable ≡ true → set variable ≡ true
known_either (Int number) set variable is = side_either (not (int_eq number (pos 0))) set variable is
known_either (Long number) set variable is = both_either set variable is
known_either Null set variable is = both_either set variable is
known_either (Ref reference) set variable is = both_either set variable is

-- the first has no more, on either side
pub record Less (first second : When) : Type 0 where
  pub true : (variable : Var) → first.true variable ≡ Bool.true → second.true variable ≡ Bool.true
  pub false : (variable : Var) → first.false variable ≡ Bool.true → second.false variable ≡ Bool.true

less_both : (first second : When) → Less first second → (variable : Var) → after_both first variable ≡ true → after_both second variable ≡ true
less_both first second less variable is =
    let both = and_parts (first.true variable) (first.false variable) is in
    and_from (second.true variable) (second.false variable) (less.true variable both.0) (less.false variable both.1)

less_side : (answer : Bool) (first second : When) → Less first second → (variable : Var) → side answer first variable ≡ true → side answer second variable ≡ true
less_side true first second less variable is = less.true variable is
less_side false first second less variable is = less.false variable is

less_known : (value : Value) (first second : When) → Less first second → (variable : Var) → assigned_by value first variable ≡ true → assigned_by value second variable ≡ true
less_known (Int number) first second less = less_side (not (int_eq number (pos 0))) first second less
less_known (Long number) first second less = less_both first second less
less_known Null first second less = less_both first second less
less_known (Ref reference) first second less = less_both first second less

module _ {headers : List Header} {scope : Scope} {start : State Store} where
  -- a value, of which nothing more is known
  pub either_value : {type : Option StaticType} {set : Set} {state : State Store} (value : Value) → IsOfSome headers type value → Reaches headers scope set start state → Values headers type scope (either_way set) start value state
  either_value {set = set} value held r = record { of_type = held; reaches = fewer (assigned_by value (either_way set)) r (known_either value set) }

  pub after_value : {type : Option StaticType} {when : When} {value : Value} {state : State Store} → Values headers type scope when start value state → Reaches headers scope (after_both when) start state
  after_value {when = when} {value = value} v = fewer (after_both when) v.reaches (both_known value when)

  -- told otherwise
  pub less_value : {type : Option StaticType} {when : When} {value : Value} {state : State Store} (other : Option StaticType) (less : When) → IsOfSome headers other value → Less less when
      → Values headers type scope when start value state → Values headers other scope less start value state
  less_value {when = when} {value = value} other less held is v = record { of_type = held; reaches = fewer (assigned_by value less) v.reaches (less_known value less when is) }

  -- a boolean, with what is assigned behind it
  pub truth_value : {when : When} {state : State Store} {type : Option StaticType} (answer : Bool) → IsOfSome headers type (truth answer) → Reaches headers scope (side answer when) start state → Values headers type scope when start (truth answer) state
  truth_value true held r = record { of_type = held; reaches = r }
  truth_value false held r = record { of_type = held; reaches = r }
