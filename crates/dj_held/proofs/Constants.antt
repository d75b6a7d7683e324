-- A constant expression that keeps the rules is evaluated to its constant, which is of its type (JLS 15.28).
use Rattle.std.proofs.Common.{◌≡◌, ℕ, ℤ, ◌+◌, pos, Bool, true, false, not, int_eq, if◌then◌else◌, codes, Option, Some, None, option_map, option_and_then, refl, sym, ap, subst, ◌∙◌, inl, inr}
use Rattle.std.proofs.lemmas.Bool.{false≢true}
use Rattle.dj_names.specs.declared.members.Constant.{Constant}
use Rattle.dj_names.specs.Headers.{Name}
use Rattle.dj_names.specs.Types as types
use Rattle.dj_names.specs.Types.{JType, Boolean, Byte, Char, Short, Float, Double, Class, Array, StaticType, Of}
use Rattle.dj_syntax.specs.declared.operator.Op.{Op}
use Rattle.dj_syntax.specs.Trees.{Exp, Text, Truth, Null, This, Variable, ClassOf, Field, Static, Element, Call, StaticCall, SuperCall, New, NewArray, Cast, InstanceOf, Negative, Not, Binary, Choice, Assign}
use Rattle.dj_syntax.specs.Trees as trees
use Rattle.dj_syntax.specs.Weight.{weight_of_exp}
use Rattle.dj_values.specs.Values as values
use Rattle.dj_values.specs.Values.{RefValue, Value}
use Rattle.dj_values.specs.Deciding.{is_subtype}
use Rattle.dj_values.specs.Outcomes.{Reply, Gives, Halts, Asks, then_on, trap, State, Is, bind, outside}
use Rattle.dj_meaning.specs.Operators.{Strict, After, operator_of, truth, truth_of, is_wanted, by_form}
use Rattle.dj_meaning.specs.UnaryOperators.{negated, inverted}
use Rattle.dj_meaning.specs.Conversions.{cast}
use Rattle.dj_meaning.specs.Fields.{KnownField, named_field}
use Rattle.dj_meaning.specs.Objects.{text, constant_value, static_read}
use Rattle.dj_meaning.specs.Promotions.{typing_of, result_type, promoted, becomes_floating}
use Rattle.dj_meaning.specs.StaticTypes.{Scope, plain, typed, choice_type, type_of}
use Rattle.dj_meaning.specs.Runs.{Store, Meaning, with}
use Rattle.dj_meaning.specs.Expressions.{value, floating}
use Rattle.dj_places.specs.Constants.{Surroundings, given_at_once, field_constant, is_constant_type, constant_cast, constant_truths, constant_operation, constant_choice, constant, constant_truth}
use Rattle.dj_places.specs.Rules.{Holds}
use Rattle.dj_typing.specs.Sites.{context_of}
use Rattle.dj_typing.specs.Casting.{is_number, may_cast}
use Rattle.dj_typing.specs.Operands.{is_of, if_typed, if_both, operands_of, takes, agree}
use Rattle.dj_typing.specs.Expressions.{exp_types, is_condition}
use Rattle.dj_widened.proofs.Types.{subtype_true}
use Rattle.dj_widened.proofs.Asked.{then_from}
use Rattle.dj_held.specs.Values.{IsHeld, IsOf, IsOfSome}
use Rattle.dj_held.specs.Running.{Running, context, surroundings, IsInOrder}
use Rattle.dj_held.proofs.Ending.{given_holds}
use Rattle.dj_held.proofs.Converting.{casts}
use Rattle.dj_held.proofs.Operating.{Makes, operates, negates, inverts, not_floating, boolean_int, truth_held}
use Rattle.dj_held.proofs.Knowing.{agreed}
use Rattle.dj_held.proofs.Forms.{HasForm, strict, after, form_of}
use Rattle.dj_held.proofs.Typed.{Alike, exp_alike, found_static, named_whole}
use Rattle.dj_held.proofs.Objects.{text_held, static_replies, static_declared, declared_fits}

-- ---- conditions

-- a condition that always has an answer is a constant with that answer
pub truth_known : (around : Surroundings) (exp : Exp) (known : Bool) → constant_truth around exp ≡ Some known → (value : Value) × (constant around exp ≡ Some value) × (truth_of value ≡ Gives known)
truth_known around exp known is = by (constant around exp) refl
  where
    by : (found : Option Value) → constant around exp ≡ found → (value : Value) × (constant around exp ≡ Some value) × (truth_of value ≡ Gives known)
    by None same = let e : None ≡ Some known = rw same at is in absurd cc
    by (Some (values.Int number)) same = let e : Some (not (int_eq number (pos 0))) ≡ Some known = rw same at is in (values.Int number, same, ap Gives (let f : not (int_eq number (pos 0)) ≡ known = cc in f))
    by (Some (values.Long number)) same = let e : None ≡ Some known = rw same at is in absurd cc
    by (Some values.Null) same = let e : None ≡ Some known = rw same at is in absurd cc
    by (Some (values.Ref reference)) same = let e : None ≡ Some known = rw same at is in absurd cc

-- ---- replies at once

at_once : (reply : Reply Value) (value : Value) → given_at_once reply ≡ Some value → reply ≡ Gives value
at_once (Gives other) value is = ap Gives (let e : other ≡ value = cc in e)
at_once (Halts stop) value is = absurd cc
at_once (Asks action next) value is = absurd cc

kept_if : (b : Bool) (reply : Reply Value) (value : Value) → (if b then given_at_once reply else None) ≡ Some value → reply ≡ Gives value
kept_if true reply value is = at_once reply value is
kept_if false reply value is = absurd cc

static_kept : (class : JType) (name : Name) (of_class : Bool) (type : JType) (found : Option Constant) (kept : Constant) → found ≡ Some kept
    → static_read class name (record { of_class = of_class; type = type; constant = found }) ≡ constant_value type kept
static_kept class name of_class type None kept is = absurd cc
static_kept class name of_class type (Some other) kept is = ap (constant_value type) (let e : other ≡ kept = cc in e)

trap_not : {A : Type 0} (class : Name) (result : A) → ¬ (trap class ≡ Gives result)
trap_not class result is = cc

truths : (wanted : Bool) (left right result : Value) → constant_truths wanted left right ≡ Gives result
    → (one : ℤ) × (other : ℤ) × (left ≡ values.Int one) × (right ≡ values.Int other) × (truth (if is_wanted wanted (not (int_eq one (pos 0))) then not (int_eq other (pos 0)) else not (int_eq one (pos 0))) ≡ result)
truths wanted (values.Int one) (values.Int other) result is = (one, other, refl, refl, let e : truth (if is_wanted wanted (not (int_eq one (pos 0))) then not (int_eq other (pos 0)) else not (int_eq one (pos 0))) ≡ result = cc in e)
truths wanted (values.Int one) (values.Long other) result is = absurd cc
truths wanted (values.Int one) values.Null result is = absurd cc
truths wanted (values.Int one) (values.Ref other) result is = absurd cc
truths wanted (values.Long one) right result is = absurd cc
truths wanted values.Null right result is = absurd cc
truths wanted (values.Ref one) right result is = absurd cc

chosen_at : (test first second result : Value) → then_on (truth_of test) (λ answer. Gives (if answer then first else second)) ≡ Gives result
    → (number : ℤ) × (test ≡ values.Int number) × ((if not (int_eq number (pos 0)) then first else second) ≡ result)
chosen_at (values.Int number) first second result is = (number, refl, let e : (if not (int_eq number (pos 0)) then first else second) ≡ result = cc in e)
chosen_at (values.Long number) first second result is = absurd cc
chosen_at values.Null first second result is = absurd cc
chosen_at (values.Ref reference) first second result is = absurd cc

module _ (body : Running) (order : IsInOrder body) where
  -- the run of a constant expression is its constant, of its type
  pub record IsConstant (scope : Scope) (exp : Exp) (constant : Value) : Type 0 where
    pub runs : (state : State Store) → value (context body) scope exp state ≡ Is constant state
    pub of_type : IsOfSome body.headers (type_of (context_of body.site) scope exp) constant

  literal : (scope : Scope) (exp : Exp) (one other : Value) → Some one ≡ Some other → ((state : State Store) → value (context body) scope exp state ≡ Is one state)
      → IsOfSome body.headers (type_of (context_of body.site) scope exp) one → IsConstant scope exp other
  literal scope exp one other is runs held = let same : one ≡ other = cc in subst (IsConstant scope exp) same (record { runs = runs; of_type = held })

  -- a part's constant is of the part's type
  part_of : {scope : Scope} {part : Exp} {found : Value} → IsConstant scope part found → (alike : Alike body.site.headers (type_of (context_of body.site) scope part) (type_of (context body) scope part)) → IsOf body.headers alike.type found
  part_of {found = found} is alike = subst (λ type. IsOfSome body.headers type found) alike.found is.of_type

  -- what is done with one part
  one_part : (scope : Scope) (exp part : Exp) (one result : Value) (does : Value → Reply Value) → IsConstant scope part one → ((state : State Store) → value (context body) scope exp state ≡ bind (value (context body) scope part state) (λ found. outside body.headers (does found)))
      → does one ≡ Gives result → IsOfSome body.headers (type_of (context_of body.site) scope exp) result → IsConstant scope exp result
  one_part scope exp part one result does is runs gives held = record {
    runs = λ state. runs state ∙ ap (λ outcome. bind outcome (λ found. outside body.headers (does found))) (is.runs state) ∙ ap (λ reply. outside body.headers reply state) gives;
    of_type = held;
  }

  cast_by : (kind : JType) (reference : RefValue) (result : Value) (b c : Bool) → (b ≡ true → c ≡ true) → (if b then Gives (values.Ref reference) else trap (codes "java/lang/ClassCastException")) ≡ Gives result
      → (if c then Gives (values.Ref reference) else trap (codes "java/lang/ClassCastException")) ≡ Gives result
  cast_by kind reference result true true keeps is = is
  cast_by kind reference result true false keeps is = absurd (false≢true (keeps refl))
  cast_by kind reference result false c keeps is = absurd (trap_not (codes "java/lang/ClassCastException") result is)

  cast_kept : (kind : JType) (found result : Value) → cast body.site.headers kind found ≡ Gives result → cast body.headers kind found ≡ Gives result
  cast_kept kind (values.Int number) result is = is
  cast_kept kind (values.Long number) result is = is
  cast_kept kind values.Null result is = is
  cast_kept (Class name) (values.Ref reference) result is =
      cast_by (Class name) reference result (is_subtype body.site.headers reference.class (Class name)) (is_subtype body.headers reference.class (Class name)) (subtype_true body.site.headers body.headers order.widens reference.class (Class name)) is
  cast_kept (Array element) (values.Ref reference) result is =
      cast_by (Array element) reference result (is_subtype body.site.headers reference.class (Array element)) (is_subtype body.headers reference.class (Array element)) (subtype_true body.site.headers body.headers order.widens reference.class (Array element)) is
  cast_kept Boolean (values.Ref reference) result is = is
  cast_kept Byte (values.Ref reference) result is = is
  cast_kept Char (values.Ref reference) result is = is
  cast_kept Short (values.Ref reference) result is = is
  cast_kept types.Int (values.Ref reference) result is = is
  cast_kept types.Long (values.Ref reference) result is = is
  cast_kept Float (values.Ref reference) result is = is
  cast_kept Double (values.Ref reference) result is = is

  -- ---- two operands

  strict_runs : (operation : Value → Value → Reply Value) (left right : Meaning Value) (one other result : Value) (b : Bool) → b ≡ false → ((state : State Store) → left state ≡ Is one state) → ((state : State Store) → right state ≡ Is other state)
      → operation one other ≡ Gives result → (state : State Store) → by_form body.headers (Strict operation) (floating b left) right state ≡ Is result state
  strict_runs operation left right one other result true is first second gives state = absurd (false≢true (sym is))
  strict_runs operation left right one other result false is first second gives state =
      ap (λ outcome. bind outcome (λ x behind. bind (right behind) (λ y. outside body.headers (operation x y)))) (first state)
      ∙ ap (λ outcome. bind outcome (λ y. outside body.headers (operation one y))) (second state) ∙ ap (λ reply. outside body.headers reply state) gives

  after_by : (a c w : Bool) (right : Meaning Value) (number : ℤ) → ((state : State Store) → right state ≡ Is (values.Int number) state) → not (int_eq number (pos 0)) ≡ c → (state : State Store)
      → (if w then (λ behind. bind (bind (right behind) (λ y. outside body.headers (truth_of y))) (λ last. Is (truth last))) else Is (truth a)) state ≡ Is (truth (if w then c else a)) state
  after_by a c true right number second is state = ap (λ outcome. bind (bind outcome (λ y. outside body.headers (truth_of y))) (λ last. Is (truth last))) (second state) ∙ ap (λ c. Is (truth c) state) is
  after_by a c false right number second is state = refl

  after_runs : (wanted : Bool) (left right : Meaning Value) (one other : ℤ) (b : Bool) → b ≡ false → ((state : State Store) → left state ≡ Is (values.Int one) state) → ((state : State Store) → right state ≡ Is (values.Int other) state)
      → (state : State Store) → by_form body.headers (After wanted) (floating b left) right state
      ≡ Is (truth (if is_wanted wanted (not (int_eq one (pos 0))) then not (int_eq other (pos 0)) else not (int_eq one (pos 0)))) state
  after_runs wanted left right one other true is first second state = absurd (false≢true (sym is))
  after_runs wanted left right one other false is first second state =
      ap (λ outcome. bind (bind outcome (λ x. outside body.headers (truth_of x))) (λ answer.
      if is_wanted wanted answer then (λ behind. bind (bind (right behind) (λ y. outside body.headers (truth_of y))) (λ last. Is (truth last))) else Is (truth answer))) (first state)
      ∙ after_by (not (int_eq one (pos 0))) (not (int_eq other (pos 0))) (is_wanted wanted (not (int_eq one (pos 0)))) right other second refl state

  both_constant : (scope : Scope) (operator : Op) (left right : Exp) (one other result : Value)
      (first : Alike body.site.headers (type_of (context_of body.site) scope left) (type_of (context body) scope left)) (second : Alike body.site.headers (type_of (context_of body.site) scope right) (type_of (context body) scope right))
      → takes body.site.headers (operands_of operator) first.type second.type ≡ true → IsConstant scope left one → IsConstant scope right other → constant_operation (operator_of operator) one other ≡ Some result
      → HasForm operator → IsConstant scope (Binary operator left right) result
  both_constant scope operator left right one other result first second takes_so left_is right_is is (strict operation form none) =
      let gives = at_once (operation one other) result (subst (λ form. constant_operation form one other ≡ Some result) form is) in
      let floats : becomes_floating (typing_of operator) (plain (type_of (context body) scope left)) (plain (type_of (context body) scope right)) ≡ false =
      (λ i. becomes_floating (typing_of operator) (plain (first.also i)) (plain (second.also i))) ∙ not_floating body.headers (typing_of operator) first.type second.type one other (part_of left_is first) (part_of right_is second) in
      let made : Makes body.headers first.type second.type one other (typing_of operator) (Strict operation) =
      subst (Makes body.headers first.type second.type one other (typing_of operator)) form (operates body.headers body.site.headers operator first.type second.type one other takes_so (part_of left_is first) (part_of right_is second)) in
      record {
        runs = λ state. ap (λ form. by_form body.headers form (floating (becomes_floating (typing_of operator) (plain (type_of (context body) scope left)) (plain (type_of (context body) scope right))) (value (context body) scope left)) (value (context body) scope right) state) form
            ∙ strict_runs operation (value (context body) scope left) (value (context body) scope right) one other result _ floats left_is.runs right_is.runs gives state;
        of_type = subst (λ type. IsOfSome body.headers type result) (λ i. typed (result_type (typing_of operator) (plain (sym first.found i)) (plain (sym second.found i)))) (given_holds body.headers result made gives);
      }
  both_constant scope operator left right one other result first second takes_so left_is right_is is (after wanted form before typing operands) =
      let both = truths wanted one other result (at_once (constant_truths wanted one other) result (subst (λ form. constant_operation form one other ≡ Some result) form is)) in
      record {
        runs = λ state. ap (λ form. by_form body.headers form (floating (becomes_floating (typing_of operator) (plain (type_of (context body) scope left)) (plain (type_of (context body) scope right))) (value (context body) scope left)) (value (context body) scope right) state) form
            ∙ after_runs wanted (value (context body) scope left) (value (context body) scope right) both.0 both.1 (becomes_floating (typing_of operator) (plain (type_of (context body) scope left)) (plain (type_of (context body) scope right)))
            (ap (λ typing. becomes_floating typing (plain (type_of (context body) scope left)) (plain (type_of (context body) scope right))) typing)
            (λ state. left_is.runs state ∙ ap (λ found. Is found state) both.2) (λ state. right_is.runs state ∙ ap (λ found. Is found state) both.3) state
            ∙ ap (λ found. Is found state) both.4;
        of_type = subst (λ typing. IsOfSome body.headers (typed (result_type typing (plain (type_of (context_of body.site) scope left)) (plain (type_of (context_of body.site) scope right)))) result) (sym typing)
            (subst (λ found. IsHeld body.headers Boolean found) both.4 (truth_held body.headers _));
      }

  static_constant : (scope : Scope) (class name : Name) (result : Value) → Alike body.site.headers (type_of (context_of body.site) scope (Static class name)) (type_of (context body) scope (Static class name))
      → (field : KnownField) → named_field body.site.headers body.site.members body.site.class class name ≡ Some field → named_field body.headers body.site.members body.site.class class name ≡ Some field
      → field_constant field ≡ Some result → IsConstant scope (Static class name) result
  static_constant scope class name result alike field found also is =
      let kept = then_from (λ kept. given_at_once (constant_value field.type kept)) field.constant result is in
      let gives = static_kept (Class class) name field.of_class field.type field.constant kept.0 kept.1 ∙ at_once (constant_value field.type kept.0) result kept.2 in
      let fits = declared_fits order.members (static_declared body.site.headers body.site.members body.site.class class name field found) in
      record {
        runs = λ state. ap (λ one. with one (λ field. outside body.headers (static_read (Class class) name field)) state) also ∙ ap (λ reply. outside body.headers reply state) gives;
        of_type = subst (λ one. IsOfSome body.headers (typed (option_map (λ (field : KnownField). field.type) one)) result) (sym found)
            (given_holds body.headers result (static_replies body.headers (Class class) name field fits) gives);
      }

  choice_by : (test first second : Meaning Value) (one other result : Value) (number : ℤ) (b : Bool) → not (int_eq number (pos 0)) ≡ b → ((state : State Store) → test state ≡ Is (values.Int number) state)
      → ((state : State Store) → first state ≡ Is one state) → ((state : State Store) → second state ≡ Is other state) → (if b then one else other) ≡ result → (state : State Store)
      → bind (bind (test state) (λ found. outside body.headers (truth_of found))) (λ answer. if answer then first else second) ≡ Is result state
  choice_by test first second one other result number true is tests gives_first gives_second same state =
      ap (λ outcome. bind (bind outcome (λ found. outside body.headers (truth_of found))) (λ answer. if answer then first else second)) (tests state)
      ∙ ap (λ answer. (if answer then first else second) state) is ∙ gives_first state ∙ ap (λ found. Is found state) same
  choice_by test first second one other result number false is tests gives_first gives_second same state =
      ap (λ outcome. bind (bind outcome (λ found. outside body.headers (truth_of found))) (λ answer. if answer then first else second)) (tests state)
      ∙ ap (λ answer. (if answer then first else second) state) is ∙ gives_second state ∙ ap (λ found. Is found state) same

  agreed_by : (first second : StaticType) (one other : Value) (b : Bool) → agree first second ≡ true → IsOf body.headers first one → IsOf body.headers second other → IsOfSome body.headers (choice_type (Some first) (Some second)) (if b then one else other)
  agreed_by first second one other true agrees held also = agreed body.headers first second one agrees (inl held)
  agreed_by first second one other false agrees held also = agreed body.headers first second other agrees (inr also)

  pub constant_holds : (scope : Scope) (place : ℕ) (exp : Exp) (result : Value) → Holds (exp_types body.site scope place exp) → constant (surroundings body.site) exp ≡ Some result → IsConstant scope exp result
  constant_holds scope place (trees.Int number) result t is = literal scope (trees.Int number) (values.Int number) result is (λ state. refl) refl
  constant_holds scope place (trees.Long number) result t is = literal scope (trees.Long number) (values.Long number) result is (λ state. refl) refl
  constant_holds scope place (Text units) result t is = literal scope (Text units) (text units) result is (λ state. refl) (text_held body.headers units)
  constant_holds scope place (Truth known) result t is = literal scope (Truth known) (truth known) result is (λ state. refl) (truth_held body.headers known)
  constant_holds scope place Null result t is = absurd cc
  constant_holds scope place This result t is = absurd cc
  constant_holds scope place (Variable variable) result t is = absurd cc
  constant_holds scope place (ClassOf kind) result t is = absurd cc
  constant_holds scope place (Field object name) result t is = absurd cc
  constant_holds scope place (Static class name) result t is =
      let found = found_static body order class name (named_whole body order class name t.0) t.1.0 in
      static_constant scope class name result (exp_alike body order scope place (Static class name) t) found.one found.found found.also (subst (λ one. option_and_then field_constant one ≡ Some result) found.found is)
  constant_holds scope place (Element array index) result t is = absurd cc
  constant_holds scope place (Call object name arguments) result t is = absurd cc
  constant_holds scope place (StaticCall class name arguments) result t is = absurd cc
  constant_holds scope place (SuperCall above name arguments) result t is = absurd cc
  constant_holds scope place (New class arguments) result t is = absurd cc
  constant_holds scope place (NewArray kind sizes more) result t is = absurd cc
  constant_holds scope place (Cast kind operand) result t is =
      let one = then_from (constant_cast body.site.headers kind) (constant (surroundings body.site) operand) result is in
      let part = constant_holds scope (place + 1) operand one.0 t.1.1 one.1 in
      let alike = exp_alike body order scope (place + 1) operand t.1.1 in
      let gives = cast_kept kind one.0 result (kept_if (is_constant_type kind) (cast body.site.headers kind one.0) result one.2) in
      one_part scope (Cast kind operand) operand one.0 result (cast body.headers kind) part (λ state. refl) gives
      (given_holds body.headers result (casts body.site.headers body.headers order.widens alike.type kind one.0 (subst (λ type. if_typed type (λ type. may_cast body.site.headers type kind) ≡ true) alike.found t.1.0) (part_of part alike)) gives)
  constant_holds scope place (InstanceOf operand kind) result t is = absurd cc
  constant_holds scope place (Negative operand) result t is =
      let one = then_from (λ value. given_at_once (negated value)) (constant (surroundings body.site) operand) result is in
      let part = constant_holds scope (place + 1) operand one.0 t.1 one.1 in
      let alike = exp_alike body order scope (place + 1) operand t.1 in
      let gives = at_once (negated one.0) result one.2 in
      one_part scope (Negative operand) operand one.0 result negated part (λ state. refl) gives
      (subst (λ type. IsOfSome body.headers (typed (option_and_then promoted (plain type))) result) (sym alike.found)
      (given_holds body.headers result (negates body.headers alike.type one.0 (subst (λ type. if_typed type (is_of is_number) ≡ true) alike.found t.0) (part_of part alike)) gives))
  constant_holds scope place (Not operand) result t is =
      let one = then_from (λ value. given_at_once (inverted value)) (constant (surroundings body.site) operand) result is in
      let part = constant_holds scope (place + 1) operand one.0 t.1 one.1 in
      let alike = exp_alike body order scope (place + 1) operand t.1 in
      let gives = at_once (inverted one.0) result one.2 in
      one_part scope (Not operand) operand one.0 result inverted part (λ state. refl) gives
      (given_holds body.headers result (inverts body.headers one.0 (boolean_int body.headers alike.type one.0 (subst (λ type. is_condition type ≡ true) alike.found t.0) (part_of part alike))) gives)
  constant_holds scope place (Binary operator left right) result t is =
      let one = then_from (λ first. option_and_then (constant_operation (operator_of operator) first) (constant (surroundings body.site) right)) (constant (surroundings body.site) left) result is in
      let other = then_from (constant_operation (operator_of operator) one.0) (constant (surroundings body.site) right) result one.2 in
      let first = exp_alike body order scope (place + 1) left t.1.0 in
      let second = exp_alike body order scope (place + 1 + weight_of_exp left) right t.1.1 in
      both_constant scope operator left right one.0 other.0 result first second
      (subst (λ type. if_both (Some first.type) type (takes body.site.headers (operands_of operator)) ≡ true) second.found
      (subst (λ type. if_both type (type_of (context_of body.site) scope right) (takes body.site.headers (operands_of operator)) ≡ true) first.found t.0))
      (constant_holds scope (place + 1) left one.0 t.1.0 one.1) (constant_holds scope (place + 1 + weight_of_exp left) right other.0 t.1.1 other.1) other.2 (form_of operator)
  constant_holds scope place (Choice test first second) result t is =
      let answer = then_from (λ answer. option_and_then (λ one. option_and_then (constant_choice answer one) (constant (surroundings body.site) second)) (constant (surroundings body.site) first)) (constant (surroundings body.site) test) result is in
      let one = then_from (λ one. option_and_then (constant_choice answer.0 one) (constant (surroundings body.site) second)) (constant (surroundings body.site) first) result answer.2 in
      let other = then_from (constant_choice answer.0 one.0) (constant (surroundings body.site) second) result one.2 in
      let chosen = chosen_at answer.0 one.0 other.0 result (at_once (then_on (truth_of answer.0) (λ answer. Gives (if answer then one.0 else other.0))) result other.2) in
      let tests = constant_holds scope (place + 1) test answer.0 t.1.1.0 answer.1 in
      let firsts = constant_holds scope (place + 1 + weight_of_exp test) first one.0 t.1.1.1.0 one.1 in
      let seconds = constant_holds scope (place + 1 + weight_of_exp test + weight_of_exp first) second other.0 t.1.1.1.1 other.1 in
      let alike = exp_alike body order scope (place + 1 + weight_of_exp test) first t.1.1.1.0 in
      let also = exp_alike body order scope (place + 1 + weight_of_exp test + weight_of_exp first) second t.1.1.1.1 in
      let agrees = subst (λ type. if_both (Some alike.type) type agree ≡ true) also.found (subst (λ type. if_both type (type_of (context_of body.site) scope second) agree ≡ true) alike.found t.1.0) in
      record {
        runs = choice_by (value (context body) scope test) (value (context body) scope first) (value (context body) scope second) one.0 other.0 result chosen.0 (not (int_eq chosen.0 (pos 0))) refl
            (λ state. tests.runs state ∙ ap (λ found. Is found state) chosen.1) firsts.runs seconds.runs chosen.2;
        of_type = subst (λ type. IsOfSome body.headers type result) (λ i. choice_type (sym alike.found i) (sym also.found i))
            (subst (λ found. IsOfSome body.headers (choice_type (Some alike.type) (Some also.type)) found) chosen.2
            (agreed_by alike.type also.type one.0 other.0 (not (int_eq chosen.0 (pos 0))) agrees (part_of firsts alike) (part_of seconds also)));
      }
  constant_holds scope place (Assign variable value) result t is = absurd cc
