-- Operators and choices end well, given that their operands do (JLS 15.15 to 15.25).
use Rattle.std.proofs.Common.{◌≡◌, pos, Bool, true, false, not, int_eq, List, Option, Some, refl, sym, subst}
use Rattle.std.proofs.lemmas.Bool.{false≢true, and_parts}
use Rattle.dj_names.specs.declared.header.Header.{Header}
use Rattle.dj_names.specs.Types.{Boolean, StaticType, Of}
use Rattle.dj_syntax.specs.declared.variable.Var.{Var}
use Rattle.dj_values.specs.Values.{Value}
use Rattle.dj_values.specs.Outcomes.{Reply, State, Is, bind, outside}
use Rattle.dj_meaning.specs.Operators.{Strict, After, truth, truth_of, is_wanted, by_form}
use Rattle.dj_meaning.specs.UnaryOperators.{inverted}
use Rattle.dj_meaning.specs.Runs.{Store, Meaning}
use Rattle.dj_meaning.specs.StaticTypes.{Scope}
use Rattle.dj_meaning.specs.Expressions.{floating}
use Rattle.dj_variables.specs.Sets.{Set}
use Rattle.dj_conditions.specs.Conditions.{When, after_both, either_way, behind_operator}
use Rattle.dj_held.specs.Values.{IsOfSome}
use Rattle.dj_held.specs.Replies.{Replied, Ends}
use Rattle.dj_held.specs.Reaching.{Reaches, Leaves, side, Values}
use Rattle.dj_held.proofs.Ending.{ends, cut, then_ends, either_ends}
use Rattle.dj_held.proofs.Invariant.{fewer}
use Rattle.dj_held.proofs.Operating.{IsInt, an_int, truth_held}
use Rattle.dj_held.proofs.Knowing.{after_value, truth_value}
use Rattle.dj_held.proofs.Parts.{value_ends}

-- what is assigned behind the right operand, where it is evaluated, and where it isn't
right_side : (wanted known last : Bool) (known_answer : Option Bool) (one : When) (other : Set → When) → is_wanted wanted known ≡ true → (variable : Var)
    → side last (behind_operator (Some wanted) known_answer one other) variable ≡ true → side last (other (side wanted one)) variable ≡ true
right_side true known true answer one other is variable in_side = in_side
right_side true known false answer one other is variable in_side = (and_parts (one.false variable) ((other one.true).false variable) in_side).1
right_side false known true answer one other is variable in_side = (and_parts (one.true variable) ((other one.false).true variable) in_side).1
right_side false known false answer one other is variable in_side = in_side

left_side : (wanted known : Bool) (known_answer : Option Bool) (one : When) (other : Set → When) → is_wanted wanted known ≡ false → (variable : Var) → side known (behind_operator (Some wanted) known_answer one other) variable ≡ true → side known one variable ≡ true
left_side true true answer one other is variable in_side = absurd (false≢true (sym is))
left_side true false answer one other is variable in_side = (and_parts (one.false variable) ((other one.true).false variable) in_side).0
left_side false true answer one other is variable in_side = (and_parts (one.true variable) ((other one.false).true variable) in_side).0
left_side false false answer one other is variable in_side = absurd (false≢true (sym is))

wanted_is : (wanted answer : Bool) → is_wanted wanted answer ≡ true → answer ≡ wanted
wanted_is true true is = refl
wanted_is true false is = absurd (false≢true is)
wanted_is false true is = absurd (false≢true is)
wanted_is false false is = refl

module _ {headers : List Header} {scope : Scope} {start : State Store} where
  -- ---- `!`

  swapped : (answer : Bool) (when : When) (state : State Store) → Reaches headers scope (side answer when) start state
      → Values headers (Some (Of Boolean)) scope (record { true = when.false; false = when.true }) start (truth (not answer)) state
  swapped true when state r = record { of_type = refl; reaches = r }
  swapped false when state r = record { of_type = refl; reaches = r }

  pub not_ends : {type : Option StaticType} {when : When} {state : State Store} (found : Value) → IsInt found → Values headers type scope when start found state
      → Ends Value (Values headers (Some (Of Boolean)) scope (record { true = when.false; false = when.true }) start) (Leaves headers scope start) (outside headers (inverted found) state)
  not_ends {when = when} {state = state} _ (an_int {amount}) v = ends (truth (not (not (int_eq amount (pos 0))))) state (swapped (not (int_eq amount (pos 0))) when state v.reaches)

  -- ---- operators that evaluate both operands

  pub strict_ends : {first second result : Option StaticType} {one : When} {state : State Store} (other : Set → When) (operation : Value → Value → Reply Value) (left right : Meaning Value) (floats : Bool)
      → Ends Value (Values headers first scope one start) (Leaves headers scope start) (left state)
      → ((behind : State Store) → Reaches headers scope (after_both one) start behind → Ends Value (Values headers second scope (other (after_both one)) start) (Leaves headers scope start) (right behind))
      → ((x y : Value) → IsOfSome headers first x → IsOfSome headers second y → Replied Value headers (IsOfSome headers result) (operation x y))
      → Ends Value (Values headers result scope (either_way (after_both (other (after_both one)))) start) (Leaves headers scope start) (by_form headers (Strict operation) (floating floats left) right state)
  strict_ends other operation left right true holds follows gives = then_ends {So = λ found behind. ⊥} (then_ends holds (λ found behind v. cut behind)) (λ found behind none. absurd none)
  strict_ends other operation left right false holds follows gives =
      then_ends holds (λ x behind v. then_ends (follows behind (after_value v)) (λ y later w. value_ends (gives x y v.of_type w.of_type) (after_value w)))

  -- ---- `&&` and `||`

  truth_ends : {type : Option StaticType} {when : When} {state : State Store} (found : Value) → IsInt found → Values headers type scope when start found state → Ends Bool (λ answer after. Reaches headers scope (side answer when) start after) (Leaves headers scope start) (outside headers (truth_of found) state)
  truth_ends {state = state} _ (an_int {amount}) v = ends (not (int_eq amount (pos 0))) state v.reaches

  pub after_ends : {first second result : Option StaticType} {one : When} {state : State Store} (other : Set → When) (wanted : Bool) (known : Option Bool) (left right : Meaning Value) → result ≡ Some (Of Boolean)
      → Ends Value (λ found after. IsInt found × Values headers first scope one start found after) (Leaves headers scope start) (left state)
      → ((behind : State Store) → Reaches headers scope (side wanted one) start behind
      → Ends Value (λ found after. IsInt found × Values headers second scope (other (side wanted one)) start found after) (Leaves headers scope start) (right behind))
      → Ends Value (Values headers result scope (behind_operator (Some wanted) known one other) start) (Leaves headers scope start) (by_form headers (After wanted) left right state)
  after_ends {result = result} {one = one} other wanted known left right is holds follows =
      then_ends (then_ends holds (λ found after both. truth_ends found both.0 both.1)) (λ answer behind r.
      either_ends (λ behind. bind (bind (right behind) (λ y. outside headers (truth_of y))) (λ last. Is (truth last))) (Is (truth answer)) behind (is_wanted wanted answer)
      (λ evaluated.
      then_ends (then_ends (follows behind (subst (λ answer. Reaches headers scope (side answer one) start behind) (wanted_is wanted answer evaluated) r)) (λ found after both. truth_ends found both.0 both.1))
      (λ last later q. ends (truth last) later (truth_value last (held last) (fewer _ q (right_side wanted answer last known one other evaluated)))))
      (λ passed. ends (truth answer) behind (truth_value answer (held answer) (fewer _ r (left_side wanted answer known one other passed)))))
    where
      held : (b : Bool) → IsOfSome headers result (truth b)
      held b = subst (λ type. IsOfSome headers type (truth b)) (sym is) (truth_held headers b)
