-- An operator, as what comes behind its left operand.
use Rattle.std.proofs.Common.{◌≡◌, ℕ, Bool, true, false, List, Option, Some, None, refl, sym, ap, ◌∙◌}
use Rattle.std.specs.Prelude.{not, pos, Err, IfSome, if◌then◌else◌}
use Rattle.std.specs.Ordering.{int_eq}
use Rattle.dj_names.specs.declared.header.Header.{Header}
use Rattle.dj_names.specs.Types.{JType}
use Rattle.dj_syntax.specs.declared.operator.Op.{Op}
use Rattle.dj_syntax.specs.declared.operator.Op.TheVariants as op
use Rattle.dj_syntax.specs.declared.expression.Exp as code_exp
use Rattle.dj_syntax.specs.declared.expression.Exp.TheFolds.{fold-roll-Exp}
use Rattle.dj_syntax.specs.declared.expression.Exp.TheOpen as layer
use Rattle.dj_syntax.specs.declared.expression.Exp.TheVariants as variants
use Rattle.dj_syntax.specs.Trees as trees
use Rattle.dj_syntax.specs.Trees.{exp_layer, view_exp}
use Rattle.dj_values.specs.Values.{Value, Int, Long, Null, Ref}
use Rattle.dj_values.specs.Views.{view_value}
use Rattle.dj_values.specs.Outcomes as outcomes
use Rattle.dj_values.specs.Outcomes.{More, Stuck, Reply, Gives, Halts, there, State, Outcome, Is, Stops, bind, outside}
use Rattle.dj_meaning.specs.Operators.{Operator, Strict, After, operator_of, is_wanted, truth, truth_of, by_form, operate}
use Rattle.dj_meaning.specs.Promotions.{typing_of, becomes_floating}
use Rattle.dj_meaning.specs.Runs.{Store, Meaning, pure, stop, ◌>>=◌}
use Rattle.dj_meaning.specs.Expressions.{floating}
use Rattle.dj_outside.specs.declared.stop.Stop as code_stop
use Rattle.dj_outside.specs.Runs.{stop_of, Ends}
use Rattle.dj_operators.specs.Strict as operators
use Rattle.dj_evaluating.specs.Operands.{after_answer, as_truth, operation_in, behind_answer, behind_left, IsBehindLeft}

-- ---- an operator that evaluates both is what the crate below makes of them

pub joined_strict : (operator : Op) (left right : Value) → None ≡ after_answer (operator_of operator) → operators.operation_of operator left right ≡ operation_in (operator_of operator) left right
joined_strict op.Mul left right is = refl
joined_strict op.Div left right is = refl
joined_strict op.Rem left right is = refl
joined_strict op.Add left right is = refl
joined_strict op.Sub left right is = refl
joined_strict op.Shl left right is = refl
joined_strict op.Shr left right is = refl
joined_strict op.Ushr left right is = refl
joined_strict op.Lt left right is = refl
joined_strict op.Le left right is = refl
joined_strict op.Gt left right is = refl
joined_strict op.Ge left right is = refl
joined_strict op.Eq left right is = refl
joined_strict op.Ne left right is = refl
joined_strict op.And left right is = refl
joined_strict op.Xor left right is = refl
joined_strict op.Or left right is = refl
joined_strict op.AndAlso left right is = absurd (cc)
joined_strict op.OrElse left right is = absurd (cc)

pub joined_after : (form : Operator) (wanted : Bool) (left right : Value) → Some wanted ≡ after_answer form → operation_in form left right ≡ as_truth right
joined_after (Strict operation) wanted left right is = absurd (cc)
joined_after (After other) wanted left right is = refl

-- ---- behind the left operand

pub floats_more : (form : Operator) (value : Value) → None ≡ after_answer form → (headers : List Header) (right : Meaning Value) → behind_left headers form true value right ≡ stop More
floats_more (Strict operation) value is headers right = refl
floats_more (After wanted) value is headers right = absurd (cc)

pub wants_right : (form : Operator) (value : Value) → None ≡ after_answer form → (headers : List Header) (right : Meaning Value) → behind_left headers form false value right ≡ (right >>= λ other. outside headers (operation_in form value other))
wants_right (Strict operation) value is headers right = refl
wants_right (After wanted) value is headers right = absurd (cc)

pub no_truth : (form : Operator) (wanted floats : Bool) (value : Value) → Some wanted ≡ after_answer form → truth_of value ≡ there None → (headers : List Header) (right : Meaning Value) → behind_left headers form floats value right ≡ stop Stuck
no_truth (Strict operation) wanted floats value is lacks headers right = absurd (cc)
no_truth (After other) wanted floats value is lacks headers right = ap (λ reply. outside headers reply >>= behind_answer headers other right) lacks

pub wants_after : (form : Operator) (wanted floats answer : Bool) (value first : Value) → Some wanted ≡ after_answer form → truth_of value ≡ there (Some answer) → is_wanted wanted answer ≡ true
    → (headers : List Header) (right : Meaning Value) → behind_left headers form floats value right ≡ (right >>= λ other. outside headers (operation_in form first other))
wants_after (Strict operation) wanted floats answer value first is truly goes headers right = absurd (cc)
wants_after (After other) wanted floats answer value first is truly goes headers right =
    let same : other ≡ wanted = cc in
    ap (λ reply. outside headers reply >>= behind_answer headers other right) truly
    ∙ ap (λ one. behind_answer headers one right answer) same
    ∙ ap (λ test. if test then (right >>= λ other. outside headers (as_truth other)) else pure (truth answer)) goes

pub gives_after : (form : Operator) (wanted floats answer : Bool) (value given : Value) → Some wanted ≡ after_answer form → truth_of value ≡ there (Some answer) → is_wanted wanted answer ≡ false → given ≡ truth answer
    → (headers : List Header) (right : Meaning Value) → behind_left headers form floats value right ≡ pure given
gives_after (Strict operation) wanted floats answer value given is truly stays known headers right = absurd (cc)
gives_after (After other) wanted floats answer value given is truly stays known headers right =
    let same : other ≡ wanted = cc in
    ap (λ reply. outside headers reply >>= behind_answer headers other right) truly
    ∙ ap (λ one. behind_answer headers one right answer) same
    ∙ ap (λ test. if test then (right >>= λ other. outside headers (as_truth other)) else pure (truth answer)) stays
    ∙ ap pure (sym known)

-- ---- the whole

module _ (headers : List Header) (left right : Meaning Value) where
  cut : (outcome : Outcome Store Value) (next : Value → State Store → Outcome Store Value) → bind (bind outcome (λ value. stop More)) next ≡ bind outcome (λ value. stop More)
  cut (Is value state) next = refl
  cut (Stops why state) next = refl

  strict_is : (operation : Value → Value → Reply Value) (floats : Bool) (state : State Store)
      → by_form headers (Strict operation) (floating floats left) right state ≡ bind (left state) (λ value. behind_left headers (Strict operation) floats value right)
  strict_is operation true state = cut (left state) (λ x behind. bind (right behind) (λ y. outside headers (operation x y)))
  strict_is operation false state = refl

  last_is : (outcome : Outcome Store Value) → bind (bind outcome (λ y. outside headers (truth_of y))) (λ last. Is (truth last)) ≡ bind outcome (λ other. outside headers (as_truth other))
  last_is (Is (Int number) state) = refl
  last_is (Is (Long number) state) = refl
  last_is (Is Null state) = refl
  last_is (Is (Ref reference) state) = refl
  last_is (Stops why state) = refl

  abbrev after : Bool → Bool → Meaning Value
  after wanted answer = if is_wanted wanted answer then (λ behind. bind (bind (right behind) (λ y. outside headers (truth_of y))) (λ last. Is (truth last))) else Is (truth answer)

  answer_is : (test answer : Bool) (state : State Store)
      → (if test then (λ (behind : State Store). bind (bind (right behind) (λ y. outside headers (truth_of y))) (λ last. Is (truth last))) else Is (truth answer)) state
      ≡ (if test then (right >>= λ other. outside headers (as_truth other)) else pure (truth answer)) state
  answer_is true answer state = last_is (right state)
  answer_is false answer state = refl

  after_is : (wanted : Bool) (outcome : Outcome Store Value) → bind (bind outcome (λ x. outside headers (truth_of x))) (after wanted) ≡ bind outcome (λ value. behind_left headers (After wanted) false value right)
  after_is wanted (Is (Int number) state) = answer_is (is_wanted wanted (not (int_eq number (pos 0)))) (not (int_eq number (pos 0))) state
  after_is wanted (Is (Long number) state) = refl
  after_is wanted (Is Null state) = refl
  after_is wanted (Is (Ref reference) state) = refl
  after_is wanted (Stops why state) = refl

  module _ (first second : Option JType) where
    pub operate_is : (operator : Op) (state : State Store)
        → operate headers operator (floating (becomes_floating (typing_of operator) first second) left) right state
        ≡ bind (left state) (λ value. behind_left headers (operator_of operator) (becomes_floating (typing_of operator) first second) value right)
    operate_is op.Mul state = strict_is _ (becomes_floating (typing_of op.Mul) first second) state
    operate_is op.Div state = strict_is _ (becomes_floating (typing_of op.Div) first second) state
    operate_is op.Rem state = strict_is _ (becomes_floating (typing_of op.Rem) first second) state
    operate_is op.Add state = strict_is _ (becomes_floating (typing_of op.Add) first second) state
    operate_is op.Sub state = strict_is _ (becomes_floating (typing_of op.Sub) first second) state
    operate_is op.Shl state = strict_is _ (becomes_floating (typing_of op.Shl) first second) state
    operate_is op.Shr state = strict_is _ (becomes_floating (typing_of op.Shr) first second) state
    operate_is op.Ushr state = strict_is _ (becomes_floating (typing_of op.Ushr) first second) state
    operate_is op.Lt state = strict_is _ (becomes_floating (typing_of op.Lt) first second) state
    operate_is op.Le state = strict_is _ (becomes_floating (typing_of op.Le) first second) state
    operate_is op.Gt state = strict_is _ (becomes_floating (typing_of op.Gt) first second) state
    operate_is op.Ge state = strict_is _ (becomes_floating (typing_of op.Ge) first second) state
    operate_is op.Eq state = strict_is _ (becomes_floating (typing_of op.Eq) first second) state
    operate_is op.Ne state = strict_is _ (becomes_floating (typing_of op.Ne) first second) state
    operate_is op.And state = strict_is _ (becomes_floating (typing_of op.And) first second) state
    operate_is op.Xor state = strict_is _ (becomes_floating (typing_of op.Xor) first second) state
    operate_is op.Or state = strict_is _ (becomes_floating (typing_of op.Or) first second) state
    operate_is op.AndAlso state = after_is true (left state)
    operate_is op.OrElse state = after_is false (left state)

-- what stops behind the left operand's value
pub left_stops : (form : Operator) (floats : Bool) (value : Value) (why : code_stop.Stop) → IsBehindLeft form floats value (Err why) → (headers : List Header) (right : Meaning Value) (state : State Store)
    → Ends view_value (Err why) state (behind_left headers form floats value right state)
left_stops form floats value why is headers right state = of_stop (stop_of why) is
  where
    of_stop : (maybe : Option outcomes.Stop) → IfSome maybe (λ it. (all : List Header) (other : Meaning Value) → behind_left all form floats value other ≡ stop it) → IfSome maybe (λ it. behind_left headers form floats value right state ≡ Stops it state)
    of_stop None same = tt
    of_stop (Some it) same = ap (λ part. part state) (same headers right)

-- ---- how the expressions of the code are seen

pub view-static : (class name : List ℕ) → view_exp (variants.Static class name) ≡ trees.Static class name
view-static class name = ap view_exp (sym (variants.rolls-Static class name)) ∙ fold-roll-Exp trees.Exp exp_layer (layer.Static class name)

pub view-binary : (operator : Op) (left right : code_exp.Exp) → view_exp (variants.Binary operator left right) ≡ trees.Binary operator (view_exp left) (view_exp right)
view-binary operator left right = ap view_exp (sym (variants.rolls-Binary operator left right)) ∙ fold-roll-Exp trees.Exp exp_layer (layer.Binary operator left right)

pub view-choice : (condition first second : code_exp.Exp) → view_exp (variants.Choice condition first second) ≡ trees.Choice (view_exp condition) (view_exp first) (view_exp second)
view-choice condition first second = ap view_exp (sym (variants.rolls-Choice condition first second)) ∙ fold-roll-Exp trees.Exp exp_layer (layer.Choice condition first second)
