-- The parts that expressions are evaluated by end well: replies, variables, conversions and conditions.
use Rattle.std.proofs.Common.{◌≡◌, ℤ, pos, Bool, true, false, not, int_eq, IsSome, List, Option, Some, None, refl, sym, ap, subst, ◌∙◌}
use Rattle.std.proofs.lemmas.Bool.{false≢true, and_from}
use Rattle.dj_names.specs.declared.header.Header.{Header}
use Rattle.dj_names.specs.Types.{JType, StaticType}
use Rattle.dj_syntax.specs.declared.variable.Var.{Var}
use Rattle.dj_syntax.specs.Trees.{Exp}
use Rattle.dj_values.specs.Values.{Value, Int, Long, Null, Ref}
use Rattle.dj_values.specs.Outcomes.{Reply, Gives, State, Outcome, Is, bind, outside}
use Rattle.dj_meaning.specs.Calls.{is_assignable}
use Rattle.dj_meaning.specs.Operators.{truth_of}
use Rattle.dj_meaning.specs.Runs.{Store, Meaning, looked_up, fitted, assigned, with_value, with_store}
use Rattle.dj_meaning.specs.StaticTypes.{Scope, typed}
use Rattle.dj_meaning.specs.Expressions.{value, tested}
use Rattle.dj_places.specs.Constants.{is_always, constant_truth, constant}
use Rattle.dj_typing.specs.Expressions.{goes, is_condition}
use Rattle.dj_variables.specs.Sets.{Set, everything}
use Rattle.dj_variables.specs.Sets as sets
use Rattle.dj_conditions.specs.Conditions.{When, after_both, either_way, decided}
use Rattle.dj_held.specs.Values.{IsHeld, IsOf, IsOfSome}
use Rattle.dj_held.specs.Replies.{Replied, Ends}
use Rattle.dj_held.specs.Running.{Running, context, surroundings, IsInOrder}
use Rattle.dj_held.specs.Reaching.{Matches, Reaches, Leaves, side, Values, Decides}
use Rattle.dj_held.proofs.Ending.{ends, then_ends, weaker, outside_ends}
use Rattle.dj_held.proofs.Invariant.{fewer, none_known, same_store, puts}
use Rattle.dj_held.proofs.Converting.{converts}
use Rattle.dj_held.proofs.Operating.{boolean_int, IsInt, an_int}
use Rattle.dj_held.proofs.Typed.{Alike}
use Rattle.dj_held.proofs.Knowing.{either_value, after_value, both_known}
use Rattle.dj_held.proofs.Constants.{IsConstant, truth_known}

-- a value that is put
pub put_matches : (headers : List Header) (scope : Scope) (variable : Var) (type : JType) (found : Value) → scope variable ≡ Some type → IsHeld headers type found → Matches headers (scope variable) (Some found)
put_matches headers scope variable type found is held = subst (λ type. Matches headers type (Some found)) (sym is) held

never_other : (answer : Bool) (known : Option Bool) → ((one : Bool) → known ≡ Some one → one ≡ answer) → is_always (not answer) known ≡ false
never_other true None same = refl
never_other false None same = refl
never_other true (Some true) same = refl
never_other true (Some false) same = absurd (false≢true (same false refl))
never_other false (Some true) same = absurd (false≢true (sym (same true refl)))
never_other false (Some false) same = refl

same_outcome : {first second : Value} {state after : State Store} (run : Outcome Store Value) → run ≡ Is first state → run ≡ Is second after → first ≡ second
same_outcome run one other = cc

same_answer : (first second : Bool) → Gives first ≡ Gives second → second ≡ first
same_answer first second same = cc

module _ {headers : List Header} {scope : Scope} {start : State Store} where
  -- a reply, from where control came
  pub reply_ends : {A : Type 0} {So : A → Type 0} {set : Set} {state : State Store} {reply : Reply A} (Next : A → State Store → Type 0) → Replied A headers So reply → Reaches headers scope set start state
      → ((result : A) (after : State Store) → So result → Reaches headers scope set start after → Next result after) → Ends A Next (Leaves headers scope start) (outside headers reply state)
  reply_ends {state = state} Next replied r next =
      outside_ends headers state replied (λ result after same holds. next result after holds (same_store after r same))
      (λ reference after same throwable. record { throwable = throwable; reaches = none_known (same_store after r same) })

  pub value_ends : {type : Option StaticType} {set : Set} {state : State Store} {reply : Reply Value} → Replied Value headers (IsOfSome headers type) reply → Reaches headers scope set start state
      → Ends Value (Values headers type scope (either_way set) start) (Leaves headers scope start) (outside headers reply state)
  value_ends replied r = reply_ends _ replied r (λ found after holds q. either_value found holds q)

  -- a variable that has a value
  pub looks : {set : Set} {state : State Store} (type : Option JType) (found : Option Value) → IsSome type → Matches headers type found → IsSome found → Reaches headers scope set start state
      → Ends Value (Values headers (typed type) scope (either_way set) start) (Leaves headers scope start) (looked_up type found state)
  looks None found is fits has r = absurd (false≢true is)
  looks (Some type) None is fits has r = absurd (false≢true has)
  looks {state = state} (Some type) (Some found) is fits has r = ends found state (either_value found fits r)

module _ (body : Running) (order : IsInOrder body) where
  -- the answer is the one that a constant condition always has
  one_answer : (scope : Scope) (number : ℤ) (exp : Exp) (state after : State Store) (known : Bool) → value (context body) scope exp state ≡ Is (Int number) after → ((found : Value) → constant (surroundings body.site) exp ≡ Some found → IsConstant body order scope exp found)
      → constant_truth (surroundings body.site) exp ≡ Some known → known ≡ not (int_eq number (pos 0))
  one_answer scope number exp state after known run constants is =
      let one = truth_known (surroundings body.site) exp known is in
      let same = same_outcome (value (context body) scope exp state) ((constants one.0 one.1).runs state) run in
      same_answer (not (int_eq number (pos 0))) known (ap truth_of (sym same) ∙ one.2)

  module _ {scope : Scope} {start : State Store} where
    -- a value that goes where a type is wanted
    pub fitted_ends : {set : Set} {state : State Store} (from : StaticType) (to : JType) (found : Value) → is_assignable body.site.headers from to ≡ true → IsOf body.headers from found → Reaches body.headers scope set start state
        → Ends Value (λ kept after. IsHeld body.headers to kept × Reaches body.headers scope set start after) (Leaves body.headers scope start) (fitted body.headers to found state)
    fitted_ends from to found goes_so held r =
        reply_ends _ (converts body.site.headers body.headers order.widens from to found goes_so held) r (λ kept after holds q. (holds, q))

    -- a value that is assigned
    pub assigned_ends : {first second : Option StaticType} {when : When} {state : State Store} (variable : Var) (type : JType) (part : Meaning Value) → scope variable ≡ Some type → Alike body.site.headers first second → goes body.site.headers first (Some type) ≡ true
        → Ends Value (Values body.headers first scope when start) (Leaves body.headers scope start) (part state)
        → Ends Value (λ kept after. IsHeld body.headers type kept × Reaches body.headers scope (sets.with variable (after_both when)) start after) (Leaves body.headers scope start) (assigned body.headers scope variable part state)
    assigned_ends {first = first} variable type part is alike goes_so holds =
        rw is (then_ends (then_ends holds (λ found after v.
        fitted_ends alike.type type found (subst (λ found. goes body.site.headers found (Some type) ≡ true) alike.found goes_so) (subst (λ type. IsOfSome body.headers type found) alike.found v.of_type) (after_value v)))
        (λ kept after q. ends kept (with_store (with_value variable (Some kept)) after) (q.0, puts variable kept q.1 (put_matches body.headers scope variable type kept is q.0))))

    -- ---- conditions

    answers : {type : Option StaticType} {when : When} (exp : Exp) (state after : State Store) (found : Value) → IsInt found → ((found : Value) → constant (surroundings body.site) exp ≡ Some found → IsConstant body order scope exp found)
        → value (context body) scope exp state ≡ Is found after → Values body.headers type scope when start found after
        → Ends Bool (Decides body.headers (constant_truth (surroundings body.site) exp) scope when start) (Leaves body.headers scope start) (tested (context body) found after)
    answers exp state after _ (an_int {amount}) constants run v =
        ends (not (int_eq amount (pos 0))) after (record {
          agrees = never_other (not (int_eq amount (pos 0))) (constant_truth (surroundings body.site) exp) (λ known is. one_answer scope amount exp state after known run constants is);
          reaches = v.reaches;
        })

    -- a condition has an answer
    pub condition_ends : {first second : Option StaticType} {when : When} (exp : Exp) (state : State Store) → Alike body.site.headers first second → is_condition first ≡ true → ((found : Value) → constant (surroundings body.site) exp ≡ Some found → IsConstant body order scope exp found)
        → Ends Value (Values body.headers first scope when start) (Leaves body.headers scope start) (value (context body) scope exp state)
        → Ends Bool (Decides body.headers (constant_truth (surroundings body.site) exp) scope when start) (Leaves body.headers scope start) (bind (value (context body) scope exp state) (tested (context body)))
    condition_ends {first = first} {when = when} exp state alike is constants holds =
        then_ends {So = λ found after. (value (context body) scope exp state ≡ Is found after) × Values body.headers first scope when start found after}
        (weaker holds (λ found after run v. (run, v)) (λ reference after l. l))
        (λ found after both. answers exp state after found
        (boolean_int body.headers alike.type found (subst (λ type. is_condition type ≡ true) alike.found is) (subst (λ type. IsOfSome body.headers type found) alike.found both.1.of_type)) constants both.0 both.1)

    -- ---- constant conditions have one side

    pub decided_side : (known : Bool) (set : Set) (after : State Store) → Reaches body.headers scope set start after → Reaches body.headers scope (side known (decided (Some known) set)) start after
    decided_side true set after r = r
    decided_side false set after r = r

    decided_value : {type : Option StaticType} {set : Set} {after : State Store} (known : Bool) (found : Value) → truth_of found ≡ Gives known → Values body.headers type scope (either_way set) start found after
        → Values body.headers type scope (decided (Some known) set) start found after
    decided_value {set = set} {after = after} known (Int number) is v = record {
      of_type = v.of_type;
      reaches = subst (λ answer. Reaches body.headers scope (side answer (decided (Some known) set)) start after) (same_answer (not (int_eq number (pos 0))) known is)
          (decided_side known set after (fewer set v.reaches (λ variable is. both_known (Int number) (either_way set) variable (and_from (set variable) (set variable) is is))));
    }
    decided_value known (Long number) is v = absurd cc
    decided_value known Null is v = absurd cc
    decided_value known (Ref reference) is v = absurd cc

    -- an expression that is always one has one side
    pub decides : {type : Option StaticType} {set : Set} (exp : Exp) (state : State Store) → ((found : Value) → constant (surroundings body.site) exp ≡ Some found → IsConstant body order scope exp found)
        → Ends Value (Values body.headers type scope (either_way set) start) (Leaves body.headers scope start) (value (context body) scope exp state)
        → Ends Value (Values body.headers type scope (decided (constant_truth (surroundings body.site) exp) set) start) (Leaves body.headers scope start) (value (context body) scope exp state)
    decides {type} {set} exp state constants holds = by (constant_truth (surroundings body.site) exp) refl
      where
        by : (known : Option Bool) → constant_truth (surroundings body.site) exp ≡ known
            → Ends Value (Values body.headers type scope (decided (constant_truth (surroundings body.site) exp) set) start) (Leaves body.headers scope start) (value (context body) scope exp state)
        by None is = subst (λ known. Ends Value (Values body.headers type scope (decided known set) start) (Leaves body.headers scope start) (value (context body) scope exp state)) (sym is) holds
        by (Some known) is =
            let one = truth_known (surroundings body.site) exp known is in
            subst (λ known. Ends Value (Values body.headers type scope (decided known set) start) (Leaves body.headers scope start) (value (context body) scope exp state)) (sym is)
            (weaker holds (λ found after run v. decided_value known found
            (ap truth_of (same_outcome (value (context body) scope exp state) run ((constants one.0 one.1).runs state)) ∙ one.2) v) (λ reference after l. l))
