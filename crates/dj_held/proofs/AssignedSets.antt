-- Sets of assigned variables, and what constants tell of them.
use Rattle.std.proofs.Common.{ℕ, ℤ, pos, ◌+◌, Bool, true, false, not, int_eq, List, [], ◌∷◌, Option, Some, None, option_map, option_and_then, ◌≡◌, refl, sym, ap, ◌∙◌, subst, ◌&&◌, ◌||◌}
use Rattle.std.specs.Prelude.{if◌then◌else◌}
use Rattle.std.proofs.lemmas.Bool.{and_parts, and_from, false≢true}
use Rattle.dj_names.specs.Types as types
use Rattle.dj_names.specs.Types.{JType, Boolean, Byte, Char, Short, Float, Double, Class, Array, StaticType, Of}
use Rattle.dj_syntax.specs.declared.operator.Op.{Op}
use Rattle.dj_syntax.specs.declared.variable.Var.{Var}
use Rattle.dj_syntax.specs.Trees.{Exp, Text, Truth, Null, This, Variable, ClassOf, Field, Static, Element, Call, StaticCall, SuperCall, New, NewArray, Cast, InstanceOf, Negative, Not, Binary, Choice, Assign, Exps, NoExps, AndExp}
use Rattle.dj_syntax.specs.Trees as trees
use Rattle.dj_syntax.specs.Weight.{weight_of_exp}
use Rattle.dj_values.specs.Values as values
use Rattle.dj_values.specs.Values.{Value}
use Rattle.dj_values.specs.Outcomes.{Reply, Gives, Halts, Asks, then_on}
use Rattle.dj_meaning.specs.StaticTypes.{Scope, is_same_variable, plain, typed, choice_type, type_of}
use Rattle.dj_meaning.specs.Operators.{Strict, After, operator_of, truth, truth_of, is_wanted}
use Rattle.dj_meaning.specs.UnaryOperators.{negated, inverted}
use Rattle.dj_meaning.specs.Promotions.{promoted, typing_of, result_type}
use Rattle.dj_meaning.specs.Fields.{KnownField, named_field}
use Rattle.dj_places.specs.Constants.{Surroundings, given_at_once, field_constant, constant_cast, constant_operation, constant_truths, constant_choice, constant, constant_truth, is_always}
use Rattle.dj_places.specs.Rules.{Holds}
use Rattle.dj_variables.specs.Sets.{Set, everything, with, without, meet, join}
use Rattle.dj_conditions.specs.Conditions.{When, after_both, either_way, decided, wanted_before, behind_operator, behind_choice, when, after_each, after_exp}
use Rattle.dj_conditions.specs.Reads.{before_right, reads, reads_each, option_reads}
use Rattle.dj_typing.specs.Sites.{Site, context_of}
use Rattle.dj_typing.specs.Casting.{is_number}
use Rattle.dj_typing.specs.Operands.{Truths, is_of, is_boolean, operands_of, takes, agree, if_typed, if_both}
use Rattle.dj_typing.specs.Expressions.{is_condition, exp_types}
use Rattle.dj_held.specs.Running.{surroundings}
use Rattle.dj_widened.proofs.Asked.{then_from}
use Rattle.dj_held.proofs.Constants.{truth_known}
use Rattle.dj_held.proofs.Forms.{HasForm, strict, after, form_of}
use Rattle.dj_held.proofs.Results.{operator_gives, minus_gives}

-- ---- sets

pub record Inside (a b : Set) : Type 0 where
  pub at : (x : Var) → a x ≡ true → b x ≡ true

pub record All (a : Set) : Type 0 where
  pub at : (x : Var) → a x ≡ true

pub inside_same : (a : Set) → Inside a a
inside_same a = record { at = λ x e. e }

pub beyond : {a b c : Set} → Inside a b → Inside b c → Inside a c
beyond h k = record { at = λ x e. k.at x (h.at x e) }

pub in_all : {b : Set} (a : Set) → All b → Inside a b
in_all a h = record { at = λ x e. h.at x }

pub all_of : All everything
all_of = record { at = λ x. refl }

pub meets : {a b c d : Set} → Inside a b → Inside c d → Inside (meet a c) (meet b d)
meets {a = a} {b = b} {c = c} {d = d} h k = record { at = λ x e. and_from (b x) (d x) (h.at x (and_parts (a x) (c x) e).0) (k.at x (and_parts (a x) (c x) e).1) }

pub all_meet : {a b : Set} → All a → All b → All (meet a b)
all_meet {a = a} {b = b} h k = record { at = λ x. and_from (a x) (b x) (h.at x) (k.at x) }

either_or : (a b c d : Bool) → (a ≡ true → c ≡ true) → (b ≡ true → d ≡ true) → (a || b) ≡ true → (c || d) ≡ true
either_or true b c d f g e = subst (λ i. (i || d) ≡ true) (sym (f refl)) refl
either_or false b true d f g e = refl
either_or false b false d f g e = g e

pub joins : {a b c d : Set} → Inside a b → Inside c d → Inside (join a c) (join b d)
joins {a = a} {b = b} {c = c} {d = d} h k = record { at = λ x e. either_or (a x) (c x) (b x) (d x) (h.at x) (k.at x) e }

or_first : (a b : Bool) → a ≡ true → (a || b) ≡ true
or_first true b e = refl
or_first false b e = absurd (false≢true e)

or_second : (a b : Bool) → b ≡ true → (a || b) ≡ true
or_second true b e = refl
or_second false b e = e

pub all_first : {a : Set} (b : Set) → All a → All (join a b)
all_first {a = a} b h = record { at = λ x. or_first (a x) (b x) (h.at x) }

pub all_second : (a : Set) {b : Set} → All b → All (join a b)
all_second a {b = b} h = record { at = λ x. or_second (a x) (b x) (h.at x) }

pub with_more : {a b : Set} (variable : Var) → Inside a b → Inside (with variable a) (with variable b)
with_more {a = a} {b = b} variable h = record { at = λ y e. either_or (is_same_variable y variable) (a y) (is_same_variable y variable) (b y) (λ i. i) (h.at y) e }

pub without_more : {a b : Set} (variable : Var) → Inside a b → Inside (without variable a) (without variable b)
without_more {a = a} {b = b} variable h = record {
  at = λ y e.
      let p = and_parts (not (is_same_variable y variable)) (a y) e in
      and_from (not (is_same_variable y variable)) (b y) p.0 (h.at y p.1);
}

pub all_with : {a : Set} (variable : Var) → All a → All (with variable a)
all_with {a = a} variable h = record { at = λ y. or_second (is_same_variable y variable) (a y) (h.at y) }

-- ---- two sides

pub record More (v w : When) : Type 0 where
  pub true : Inside v.true w.true
  pub false : Inside v.false w.false

pub record AllWhen (w : When) : Type 0 where
  pub true : All w.true
  pub false : All w.false

pub both_more : {v w : When} → More v w → Inside (after_both v) (after_both w)
both_more m = meets m.true m.false

pub either_more : {a b : Set} → Inside a b → More (either_way a) (either_way b)
either_more h = record { true = h; false = h }

decided_more : {a b : Set} (known : Option Bool) → Inside a b → More (decided known a) (decided known b)
decided_more None h = either_more h
decided_more (Some Bool.true) h = record { true = h; false = inside_same everything }
decided_more (Some Bool.false) h = record { true = inside_same everything; false = h }

pub all_both : {w : When} → AllWhen w → All (after_both w)
all_both m = all_meet m.true m.false

all_either : {a : Set} → All a → AllWhen (either_way a)
all_either h = record { true = h; false = h }

all_decided : {a : Set} (known : Option Bool) → All a → AllWhen (decided known a)
all_decided None h = all_either h
all_decided (Some Bool.true) h = record { true = h; false = all_of }
all_decided (Some Bool.false) h = record { true = all_of; false = h }

-- of two operands
operator_more : {v w : When} {f g : Set → When} (wanted known : Option Bool) → More v w → ((a b : Set) → Inside a b → More (f a) (g b)) → More (behind_operator wanted known v f) (behind_operator wanted known w g)
operator_more {v = v} {w = w} None known m k = decided_more known (both_more (k (after_both v) (after_both w) (both_more m)))
operator_more {v = v} {w = w} (Some Bool.true) known m k = record { true = (k v.true w.true m.true).true; false = meets m.false (k v.true w.true m.true).false }
operator_more {v = v} {w = w} (Some Bool.false) known m k = record { true = meets m.true (k v.false w.false m.false).true; false = (k v.false w.false m.false).false }

all_operator : {v : When} {f : Set → When} (wanted known : Option Bool) → AllWhen v → ((a : Set) → All a → AllWhen (f a)) → AllWhen (behind_operator wanted known v f)
all_operator {v = v} None known m k = all_decided known (all_both (k (after_both v) (all_both m)))
all_operator {v = v} (Some Bool.true) known m k = record { true = (k v.true m.true).true; false = all_meet m.false (k v.true m.true).false }
all_operator {v = v} (Some Bool.false) known m k = record { true = all_meet m.true (k v.false m.false).true; false = (k v.false m.false).false }

right_more : {v w : When} (wanted : Option Bool) → More v w → Inside (before_right wanted v) (before_right wanted w)
right_more None m = meets m.true m.false
right_more (Some Bool.true) m = m.true
right_more (Some Bool.false) m = m.false

-- ---- expressions

module _ (around : Surroundings) where
  mutual
    pub when_more : {a b : Set} (exp : Exp) → Inside a b → More (when around exp a) (when around exp b)
    when_more (trees.Int number) h = either_more h
    when_more (trees.Long number) h = either_more h
    when_more (Text units) h = either_more h
    when_more (Truth known) h = decided_more (Some known) h
    when_more Null h = either_more h
    when_more This h = either_more h
    when_more (Variable variable) h = either_more h
    when_more (ClassOf kind) h = either_more h
    when_more (Field object name) h = either_more (both_more (when_more object h))
    when_more (Static class name) h = decided_more (constant_truth around (Static class name)) h
    when_more (Element array index) h = either_more (both_more (when_more index (both_more (when_more array h))))
    when_more (Call object name arguments) h = either_more (each_more arguments (both_more (when_more object h)))
    when_more (StaticCall class name arguments) h = either_more (each_more arguments h)
    when_more (SuperCall above name arguments) h = either_more (each_more arguments h)
    when_more (New class arguments) h = either_more (each_more arguments h)
    when_more (NewArray kind sizes more) h = either_more (each_more sizes h)
    when_more (Cast kind operand) h = decided_more (constant_truth around (Cast kind operand)) (both_more (when_more operand h))
    when_more (InstanceOf operand kind) h = either_more (both_more (when_more operand h))
    when_more (Negative operand) h = either_more (both_more (when_more operand h))
    when_more (Not operand) h = record { true = (when_more operand h).false; false = (when_more operand h).true }
    when_more (Binary operator left right) h = operator_more (wanted_before operator) (constant_truth around (Binary operator left right)) (when_more left h) (λ a b k. when_more right k)
    when_more (Choice test first second) h = record {
      true = meets (when_more first (when_more test h).true).true (when_more second (when_more test h).false).true;
      false = meets (when_more first (when_more test h).true).false (when_more second (when_more test h).false).false;
    }
    when_more (Assign variable new) h = either_more (with_more variable (both_more (when_more new h)))

    pub each_more : {a b : Set} (exps : Exps) → Inside a b → Inside (after_each around exps a) (after_each around exps b)
    each_more NoExps h = h
    each_more (AndExp first rest) h = each_more rest (both_more (when_more first h))

  pub exp_more : {a b : Set} (exp : Exp) → Inside a b → Inside (after_exp around exp a) (after_exp around exp b)
  exp_more exp h = both_more (when_more exp h)

  mutual
    pub reads_more : {a b : Set} (p q : ℕ) (exp : Exp) → Inside a b → Holds (reads around a p exp) → Holds (reads around b q exp)
    reads_more p q (trees.Int number) h t = tt
    reads_more p q (trees.Long number) h t = tt
    reads_more p q (Text units) h t = tt
    reads_more p q (Truth known) h t = tt
    reads_more p q Null h t = tt
    reads_more p q This h t = tt
    reads_more p q (Variable variable) h t = h.at variable t
    reads_more p q (ClassOf kind) h t = tt
    reads_more p q (Field object name) h t = reads_more (p + 1) (q + 1) object h t
    reads_more p q (Static class name) h t = tt
    reads_more p q (Element array index) h t = (reads_more (p + 1) (q + 1) array h t.0, reads_more (p + 1 + weight_of_exp array) (q + 1 + weight_of_exp array) index (exp_more array h) t.1)
    reads_more p q (Call object name arguments) h t =
        (reads_more (p + 1) (q + 1) object h t.0, all_reads_more (p + 1 + weight_of_exp object) (q + 1 + weight_of_exp object) arguments (exp_more object h) t.1)
    reads_more p q (StaticCall class name arguments) h t = all_reads_more (p + 1) (q + 1) arguments h t
    reads_more p q (SuperCall above name arguments) h t = all_reads_more (p + 1) (q + 1) arguments h t
    reads_more p q (New class arguments) h t = all_reads_more (p + 1) (q + 1) arguments h t
    reads_more p q (NewArray kind sizes more) h t = all_reads_more (p + 1) (q + 1) sizes h t
    reads_more p q (Cast kind operand) h t = reads_more (p + 1) (q + 1) operand h t
    reads_more p q (InstanceOf operand kind) h t = reads_more (p + 1) (q + 1) operand h t
    reads_more p q (Negative operand) h t = reads_more (p + 1) (q + 1) operand h t
    reads_more p q (Not operand) h t = reads_more (p + 1) (q + 1) operand h t
    reads_more p q (Binary operator left right) h t =
        (reads_more (p + 1) (q + 1) left h t.0, reads_more (p + 1 + weight_of_exp left) (q + 1 + weight_of_exp left) right (right_more (wanted_before operator) (when_more left h)) t.1)
    reads_more p q (Choice test first second) h t = (
      reads_more (p + 1) (q + 1) test h t.0,
      (
        reads_more (p + 1 + weight_of_exp test) (q + 1 + weight_of_exp test) first (when_more test h).true t.1.0,
        reads_more (p + 1 + weight_of_exp test + weight_of_exp first) (q + 1 + weight_of_exp test + weight_of_exp first) second (when_more test h).false t.1.1,
      ),
    )
    reads_more p q (Assign variable new) h t = reads_more (p + 1) (q + 1) new h t

    pub all_reads_more : {a b : Set} (p q : ℕ) (exps : Exps) → Inside a b → Holds (reads_each around a p exps) → Holds (reads_each around b q exps)
    all_reads_more p q NoExps h t = tt
    all_reads_more p q (AndExp first rest) h t = (reads_more p q first h t.0, all_reads_more (p + weight_of_exp first) (q + weight_of_exp first) rest (exp_more first h) t.1)

  pub option_reads_more : {a b : Set} (p q : ℕ) (exp : Option Exp) → Inside a b → Holds (option_reads around a p exp) → Holds (option_reads around b q exp)
  option_reads_more p q None h t = tt
  option_reads_more p q (Some exp) h t = reads_more p q exp h t

  -- ---- vacuously

  mutual
    pub all_when : {a : Set} (exp : Exp) → All a → AllWhen (when around exp a)
    all_when (trees.Int number) h = all_either h
    all_when (trees.Long number) h = all_either h
    all_when (Text units) h = all_either h
    all_when (Truth known) h = all_decided (Some known) h
    all_when Null h = all_either h
    all_when This h = all_either h
    all_when (Variable variable) h = all_either h
    all_when (ClassOf kind) h = all_either h
    all_when (Field object name) h = all_either (all_both (all_when object h))
    all_when (Static class name) h = all_decided (constant_truth around (Static class name)) h
    all_when (Element array index) h = all_either (all_both (all_when index (all_both (all_when array h))))
    all_when (Call object name arguments) h = all_either (all_each arguments (all_both (all_when object h)))
    all_when (StaticCall class name arguments) h = all_either (all_each arguments h)
    all_when (SuperCall above name arguments) h = all_either (all_each arguments h)
    all_when (New class arguments) h = all_either (all_each arguments h)
    all_when (NewArray kind sizes more) h = all_either (all_each sizes h)
    all_when (Cast kind operand) h = all_decided (constant_truth around (Cast kind operand)) (all_both (all_when operand h))
    all_when (InstanceOf operand kind) h = all_either (all_both (all_when operand h))
    all_when (Negative operand) h = all_either (all_both (all_when operand h))
    all_when (Not operand) h = record { true = (all_when operand h).false; false = (all_when operand h).true }
    all_when (Binary operator left right) h = all_operator (wanted_before operator) (constant_truth around (Binary operator left right)) (all_when left h) (λ a k. all_when right k)
    all_when (Choice test first second) h = record {
      true = all_meet (all_when first (all_when test h).true).true (all_when second (all_when test h).false).true;
      false = all_meet (all_when first (all_when test h).true).false (all_when second (all_when test h).false).false;
    }
    all_when (Assign variable new) h = all_either (all_with variable (all_both (all_when new h)))

    all_each : {a : Set} (exps : Exps) → All a → All (after_each around exps a)
    all_each NoExps h = h
    all_each (AndExp first rest) h = all_each rest (all_both (all_when first h))

-- ---- constants assign nothing

either_in : {a b : Set} → Inside b a → Inside (after_both (either_way b)) a
either_in {b = b} h = record { at = λ x e. h.at x (and_parts (b x) (b x) e).0 }

decided_in : {a b : Set} (known : Option Bool) → Inside b a → Inside (after_both (decided known b)) a
decided_in None h = either_in h
decided_in {b = b} (Some true) h = record { at = λ x e. h.at x (and_parts (b x) true e).0 }
decided_in {b = b} (Some false) h = record { at = λ x e. h.at x (and_parts true (b x) e).1 }

-- the side of an answer, and the other one
abbrev pub this_side : Bool → When → Set
this_side true sides = sides.true
this_side false sides = sides.false

abbrev pub other_side : Bool → When → Set
other_side true sides = sides.false
other_side false sides = sides.true

-- behind an operator that may not evaluate its right operand, of two constants
after_in : {a : Set} (v : When) (f : Set → When) (wanted : Bool) (known : Option Bool) → Inside (after_both v) a → ((b : Set) → Inside (after_both (f b)) b) → Inside (after_both (behind_operator (Some wanted) known v f)) a
after_in v f true known h k = record {
  at = λ x i.
      let p = and_parts ((f v.true).true x) (v.false x && (f v.true).false x) i in
      let q = and_parts (v.false x) ((f v.true).false x) p.1 in
      h.at x (and_from (v.true x) (v.false x) ((k v.true).at x (and_from ((f v.true).true x) ((f v.true).false x) p.0 q.1)) q.0);
}
after_in v f false known h k = record {
  at = λ x i.
      let p = and_parts (v.true x && (f v.false).true x) ((f v.false).false x) i in
      let q = and_parts (v.true x) ((f v.false).true x) p.0 in
      h.at x (and_from (v.true x) (v.false x) q.0 ((k v.false).at x (and_from ((f v.false).true x) ((f v.false).false x) q.1 p.1)));
}

choice_in : {a : Set} (v t u : When) → Inside (after_both v) a → Inside (after_both t) v.true → Inside (after_both u) v.false → Inside (after_both (behind_choice t u)) a
choice_in v t u h m n = record {
  at = λ x i.
      let p = and_parts (t.true x && u.true x) (t.false x && u.false x) i in
      let q = and_parts (t.true x) (u.true x) p.0 in
      let r = and_parts (t.false x) (u.false x) p.1 in
      h.at x (and_from (v.true x) (v.false x) (m.at x (and_from (t.true x) (t.false x) q.0 r.0)) (n.at x (and_from (u.true x) (u.false x) q.1 r.1)));
}

swapped_in : {a : Set} (v : When) → Inside (after_both v) a → Inside (meet v.false v.true) a
swapped_in v h = record { at = λ x i. let p = and_parts (v.false x) (v.true x) i in h.at x (and_from (v.true x) (v.false x) p.1 p.0) }

module _ (around : Surroundings) where
  operator_in : {a : Set} (v : When) (f : Set → When) (wanted known : Option Bool) → Inside (after_both v) a → ((b : Set) → Inside (after_both (f b)) b) → Inside (after_both (behind_operator wanted known v f)) a
  operator_in v f None known h k = decided_in known (beyond (k (after_both v)) h)
  operator_in v f (Some wanted) known h k = after_in v f wanted known h k

  constant_in : (a : Set) (exp : Exp) (found : Value) → constant around exp ≡ Some found → Inside (after_both (when around exp a)) a
  constant_in a (trees.Int number) found is = either_in (inside_same a)
  constant_in a (trees.Long number) found is = either_in (inside_same a)
  constant_in a (Text units) found is = either_in (inside_same a)
  constant_in a (Truth known) found is = decided_in (Some known) (inside_same a)
  constant_in a Null found is = absurd cc
  constant_in a This found is = absurd cc
  constant_in a (Variable variable) found is = absurd cc
  constant_in a (ClassOf kind) found is = absurd cc
  constant_in a (Field object name) found is = absurd cc
  constant_in a (Static class name) found is = decided_in (constant_truth around (Static class name)) (inside_same a)
  constant_in a (Element array index) found is = absurd cc
  constant_in a (Call object name arguments) found is = absurd cc
  constant_in a (StaticCall class name arguments) found is = absurd cc
  constant_in a (SuperCall above name arguments) found is = absurd cc
  constant_in a (New class arguments) found is = absurd cc
  constant_in a (NewArray kind sizes more) found is = absurd cc
  constant_in a (Cast kind operand) found is =
      let one = then_from (constant_cast around.headers kind) (constant around operand) found is in
      decided_in (constant_truth around (Cast kind operand)) (constant_in a operand one.0 one.1)
  constant_in a (InstanceOf operand kind) found is = absurd cc
  constant_in a (Negative operand) found is =
      let one = then_from (λ value. given_at_once (negated value)) (constant around operand) found is in
      either_in (constant_in a operand one.0 one.1)
  constant_in a (Not operand) found is =
      let one = then_from (λ value. given_at_once (inverted value)) (constant around operand) found is in
      swapped_in (when around operand a) (constant_in a operand one.0 one.1)
  constant_in a (Binary operator left right) found is =
      let one = then_from (λ first. option_and_then (constant_operation (operator_of operator) first) (constant around right)) (constant around left) found is in
      let other = then_from (constant_operation (operator_of operator) one.0) (constant around right) found one.2 in
      operator_in (when around left a) (when around right) (wanted_before operator) (constant_truth around (Binary operator left right)) (constant_in a left one.0 one.1) (λ b. constant_in b right other.0 other.1)
  constant_in a (Choice test first second) found is =
      let answer = then_from (λ answer. option_and_then (λ one. option_and_then (constant_choice answer one) (constant around second)) (constant around first)) (constant around test) found is in
      let one = then_from (λ one. option_and_then (constant_choice answer.0 one) (constant around second)) (constant around first) found answer.2 in
      let other = then_from (constant_choice answer.0 one.0) (constant around second) found one.2 in
      choice_in (when around test a) (when around first (when around test a).true) (when around second (when around test a).false) (constant_in a test answer.0 answer.1) (constant_in (when around test a).true first one.0 one.1) (constant_in (when around test a).false second other.0 other.1)
  constant_in a (Assign variable new) found is = absurd cc

-- ---- the answers of constants

truth_said : (b : Bool) → truth_of (truth b) ≡ Gives b
truth_said true = refl
truth_said false = refl

gives_same : (b c : Bool) → Gives b ≡ Gives c → b ≡ c
gives_same b c e = cc

said_by : (value : Value) (b t : Bool) → truth b ≡ value → truth_of value ≡ Gives t → b ≡ t
said_by value b t is says = gives_same b t (sym (truth_said b) ∙ ap truth_of is ∙ says)

given_value : (one other : Value) → given_at_once (Gives one) ≡ Some other → one ≡ other
given_value one other is = cc

either_side : (answer : Bool) (a : Set) → Inside (this_side answer (either_way a)) a
either_side true a = inside_same a
either_side false a = inside_same a

decided_side : {a b : Set} (known : Option Bool) (answer : Bool) → known ≡ Some answer → Inside b a → Inside (this_side answer (decided known b)) a
decided_side {a = a} {b = b} known answer is h = subst (λ known. Inside (this_side answer (decided known b)) a) (sym is) (go answer)
  where
    go : (answer : Bool) → Inside (this_side answer (decided (Some answer) b)) a
    go true = h
    go false = h

module _ (around : Surroundings) where
  to_truth : (exp : Exp) (found : Value) (answer : Bool) → constant around exp ≡ Some found → truth_of found ≡ Gives answer → constant_truth around exp ≡ Some answer
  to_truth exp (values.Int number) answer is says = rw is (ap Some (gives_same (not (int_eq number (pos 0))) answer says))
  to_truth exp (values.Long number) answer is says = absurd cc
  to_truth exp values.Null answer is says = absurd cc
  to_truth exp (values.Ref reference) answer is says = absurd cc

  inverted_truth : (found value : Value) (answer : Bool) → given_at_once (inverted found) ≡ Some value → truth_of value ≡ Gives answer → truth_of found ≡ Gives (not answer)
  inverted_truth (values.Int number) value answer is says = ap Gives (go (int_eq number (pos 0)) (said_by value (not (not (int_eq number (pos 0)))) answer (given_value (truth (not (not (int_eq number (pos 0))))) value is) says))
    where
      go : (b : Bool) → not (not b) ≡ answer → not b ≡ not answer
      go true e = ap not e
      go false e = ap not e
  inverted_truth (values.Long number) value answer is says = absurd cc
  inverted_truth values.Null value answer is says = absurd cc
  inverted_truth (values.Ref reference) value answer is says = absurd cc

  pub not_truth : (operand : Exp) (answer : Bool) → constant_truth around (Not operand) ≡ Some answer → constant_truth around operand ≡ Some (not answer)
  not_truth operand answer is =
      let said = truth_known around (Not operand) answer is in
      let one = then_from (λ value. given_at_once (inverted value)) (constant around operand) said.0 said.1 in
      to_truth operand one.0 (not answer) one.1 (inverted_truth one.0 said.0 answer one.2 said.2)

  truths_of : (wanted : Bool) (one other value : Value) (answer : Bool) → given_at_once (constant_truths wanted one other) ≡ Some value → truth_of value ≡ Gives answer
      → (s : Bool) × (u : Bool) × (truth_of one ≡ Gives s) × (truth_of other ≡ Gives u) × ((if is_wanted wanted s then u else s) ≡ answer)
  truths_of wanted (values.Int n) (values.Int m) value answer is says = (
    not (int_eq n (pos 0)),
    not (int_eq m (pos 0)),
    refl,
    refl,
    said_by value (if is_wanted wanted (not (int_eq n (pos 0))) then not (int_eq m (pos 0)) else not (int_eq n (pos 0))) answer
        (given_value (truth (if is_wanted wanted (not (int_eq n (pos 0))) then not (int_eq m (pos 0)) else not (int_eq n (pos 0)))) value is) says,
  )
  truths_of wanted (values.Int n) (values.Long m) value answer is says = absurd cc
  truths_of wanted (values.Int n) values.Null value answer is says = absurd cc
  truths_of wanted (values.Int n) (values.Ref m) value answer is says = absurd cc
  truths_of wanted (values.Long n) other value answer is says = absurd cc
  truths_of wanted values.Null other value answer is says = absurd cc
  truths_of wanted (values.Ref n) other value answer is says = absurd cc

  pub both_truths : (operator : Op) (left right : Exp) (wanted answer : Bool) → operator_of operator ≡ After wanted → constant_truth around (Binary operator left right) ≡ Some answer
      → (s : Bool) × (u : Bool) × (constant_truth around left ≡ Some s) × (constant_truth around right ≡ Some u) × ((if is_wanted wanted s then u else s) ≡ answer)
  both_truths operator left right wanted answer form is =
      let said = truth_known around (Binary operator left right) answer is in
      let one = then_from (λ first. option_and_then (constant_operation (operator_of operator) first) (constant around right)) (constant around left) said.0 said.1 in
      let other = then_from (constant_operation (operator_of operator) one.0) (constant around right) said.0 one.2 in
      let parts = truths_of wanted one.0 other.0 said.0 answer (subst (λ form. constant_operation form one.0 other.0 ≡ Some said.0) form other.2) said.2 in
      (parts.0, parts.1, to_truth left one.0 parts.0 one.1 parts.2, to_truth right other.0 parts.1 other.1 parts.3, parts.4)

  chosen_truth : (test one other value : Value) (answer : Bool) → given_at_once (then_on (truth_of test) (λ answer. Gives (if answer then one else other))) ≡ Some value → truth_of value ≡ Gives answer
      → (s : Bool) × (truth_of test ≡ Gives s) × (truth_of (if s then one else other) ≡ Gives answer)
  chosen_truth (values.Int n) one other value answer is says =
      (not (int_eq n (pos 0)), refl, ap truth_of (given_value (if not (int_eq n (pos 0)) then one else other) value is) ∙ says)
  chosen_truth (values.Long n) one other value answer is says = absurd cc
  chosen_truth values.Null one other value answer is says = absurd cc
  chosen_truth (values.Ref n) one other value answer is says = absurd cc

  -- which of the two results a constant choice takes, and that one's answer
  pub choice_truth : (test first second : Exp) (answer : Bool) → constant_truth around (Choice test first second) ≡ Some answer
      → (s : Bool) × (constant_truth around test ≡ Some s) × (constant_truth around (if s then first else second) ≡ Some answer)
  choice_truth test first second answer is =
      let said = truth_known around (Choice test first second) answer is in
      let known = then_from (λ answer. option_and_then (λ one. option_and_then (constant_choice answer one) (constant around second)) (constant around first)) (constant around test) said.0 said.1 in
      let one = then_from (λ one. option_and_then (constant_choice known.0 one) (constant around second)) (constant around first) said.0 known.2 in
      let other = then_from (constant_choice known.0 one.0) (constant around second) said.0 one.2 in
      let part = chosen_truth known.0 one.0 other.0 said.0 answer other.2 said.2 in
      (part.0, to_truth test known.0 part.0 known.1 part.1, go part.0 one.0 other.0 one.1 other.1 part.2)
    where
      go : (s : Bool) (one other : Value) → constant around first ≡ Some one → constant around second ≡ Some other → truth_of (if s then one else other) ≡ Gives answer → constant_truth around (if s then first else second) ≡ Some answer
      go true one other e f g = to_truth first one answer e g
      go false one other e f g = to_truth second other answer f g

  -- a constant condition that always has an answer leaves on that side no more than there was
  pub constant_side : (a : Set) (exp : Exp) (answer : Bool) → constant_truth around exp ≡ Some answer → Inside (this_side answer (when around exp a)) a
  constant_side a (trees.Int number) answer is = either_side answer a
  constant_side a (trees.Long number) answer is = either_side answer a
  constant_side a (Text units) answer is = either_side answer a
  constant_side a (Truth known) answer is = go known is
    where
      go : (known : Bool) → constant_truth around (Truth known) ≡ Some answer → Inside (this_side answer (decided (Some known) a)) a
      go true is = let e : true ≡ answer = cc in subst (λ t. Inside (this_side t (decided (Some true) a)) a) e (inside_same a)
      go false is = let e : false ≡ answer = cc in subst (λ t. Inside (this_side t (decided (Some false) a)) a) e (inside_same a)
  constant_side a Null answer is = absurd cc
  constant_side a This answer is = absurd cc
  constant_side a (Variable variable) answer is = absurd cc
  constant_side a (ClassOf kind) answer is = absurd cc
  constant_side a (Field object name) answer is = absurd cc
  constant_side a (Static class name) answer is = decided_side (constant_truth around (Static class name)) answer is (inside_same a)
  constant_side a (Element array index) answer is = absurd cc
  constant_side a (Call object name arguments) answer is = absurd cc
  constant_side a (StaticCall class name arguments) answer is = absurd cc
  constant_side a (SuperCall above name arguments) answer is = absurd cc
  constant_side a (New class arguments) answer is = absurd cc
  constant_side a (NewArray kind sizes more) answer is = absurd cc
  constant_side a (Cast kind operand) answer is =
      let said = truth_known around (Cast kind operand) answer is in
      let one = then_from (constant_cast around.headers kind) (constant around operand) said.0 said.1 in
      decided_side (constant_truth around (Cast kind operand)) answer is (constant_in around a operand one.0 one.1)
  constant_side a (InstanceOf operand kind) answer is = absurd cc
  constant_side a (Negative operand) answer is =
      let said = truth_known around (Negative operand) answer is in
      let one = then_from (λ value. given_at_once (negated value)) (constant around operand) said.0 said.1 in
      beyond (either_side answer (after_both (when around operand a))) (constant_in around a operand one.0 one.1)
  constant_side a (Not operand) answer is = go answer (constant_side a operand (not answer) (not_truth operand answer is))
    where
      go : (answer : Bool) → Inside (this_side (not answer) (when around operand a)) a → Inside (this_side answer (when around (Not operand) a)) a
      go true h = h
      go false h = h
  constant_side a (Binary operator left right) answer is = by (form_of operator) (λ s e. constant_side a left s e) (λ u b e. constant_side b right u e)
    where
      after_side : (wanted s u : Bool) → (if is_wanted wanted s then u else s) ≡ answer → Inside (this_side s (when around left a)) a → ((b : Set) → Inside (this_side u (when around right b)) b)
          → Inside (this_side answer (behind_operator (Some wanted) (constant_truth around (Binary operator left right)) (when around left a) (when around right))) a
      after_side true true u e h k = subst (λ t. Inside (this_side t (behind_operator (Some true) (constant_truth around (Binary operator left right)) (when around left a) (when around right))) a) e (go u (beyond (k (when around left a).true) h))
        where
          go : (u : Bool) → Inside (this_side u (when around right (when around left a).true)) a → Inside (this_side u (behind_operator (Some true) (constant_truth around (Binary operator left right)) (when around left a) (when around right))) a
          go true m = m
          go false m = record { at = λ x i. m.at x (and_parts ((when around left a).false x) ((when around right (when around left a).true).false x) i).1 }
      after_side true false u e h k =
          subst (λ t. Inside (this_side t (behind_operator (Some true) (constant_truth around (Binary operator left right)) (when around left a) (when around right))) a) e
          (record { at = λ x i. h.at x (and_parts ((when around left a).false x) ((when around right (when around left a).true).false x) i).0 })
      after_side false true u e h k =
          subst (λ t. Inside (this_side t (behind_operator (Some false) (constant_truth around (Binary operator left right)) (when around left a) (when around right))) a) e
          (record { at = λ x i. h.at x (and_parts ((when around left a).true x) ((when around right (when around left a).false).true x) i).0 })
      after_side false false u e h k = subst (λ t. Inside (this_side t (behind_operator (Some false) (constant_truth around (Binary operator left right)) (when around left a) (when around right))) a) e (go u (beyond (k (when around left a).false) h))
        where
          go : (u : Bool) → Inside (this_side u (when around right (when around left a).false)) a → Inside (this_side u (behind_operator (Some false) (constant_truth around (Binary operator left right)) (when around left a) (when around right))) a
          go true m = record { at = λ x i. m.at x (and_parts ((when around left a).true x) ((when around right (when around left a).false).true x) i).1 }
          go false m = m

      by : HasForm operator → ((s : Bool) → constant_truth around left ≡ Some s → Inside (this_side s (when around left a)) a) → ((u : Bool) (b : Set) → constant_truth around right ≡ Some u → Inside (this_side u (when around right b)) b)
          → Inside (this_side answer (when around (Binary operator left right) a)) a
      by (strict operation form none) h k =
          let said = truth_known around (Binary operator left right) answer is in
          subst (λ wanted. Inside (this_side answer (behind_operator wanted (constant_truth around (Binary operator left right)) (when around left a) (when around right))) a) (sym none)
          (decided_side (constant_truth around (Binary operator left right)) answer is
          (let one = then_from (λ first. option_and_then (constant_operation (operator_of operator) first) (constant around right)) (constant around left) said.0 said.1 in
          let other = then_from (constant_operation (operator_of operator) one.0) (constant around right) said.0 one.2 in
          beyond (constant_in around (after_both (when around left a)) right other.0 other.1) (constant_in around a left one.0 one.1)))
      by (after wanted form is_after typing operands) h k =
          let parts = both_truths operator left right wanted answer form is in
          subst (λ wanted. Inside (this_side answer (behind_operator wanted (constant_truth around (Binary operator left right)) (when around left a) (when around right))) a) (sym is_after)
          (after_side wanted parts.0 parts.1 parts.4 (h parts.0 parts.2) (λ b. k parts.1 b parts.3))
  constant_side a (Choice test first second) answer is =
      let part = choice_truth test first second answer is in
      go part.0 answer (constant_side a test part.0 part.1) part.2 (λ b e. constant_side b first answer e) (λ b e. constant_side b second answer e)
    where
      go : (s t : Bool) → Inside (this_side s (when around test a)) a → constant_truth around (if s then first else second) ≡ Some t
          → ((b : Set) → constant_truth around first ≡ Some t → Inside (this_side t (when around first b)) b) → ((b : Set) → constant_truth around second ≡ Some t → Inside (this_side t (when around second b)) b)
          → Inside (this_side t (when around (Choice test first second) a)) a
      go true true h e f g = record { at = λ x i. h.at x ((f (when around test a).true e).at x (and_parts ((when around first (when around test a).true).true x) ((when around second (when around test a).false).true x) i).0) }
      go true false h e f g = record { at = λ x i. h.at x ((f (when around test a).true e).at x (and_parts ((when around first (when around test a).true).false x) ((when around second (when around test a).false).false x) i).0) }
      go false true h e f g = record { at = λ x i. h.at x ((g (when around test a).false e).at x (and_parts ((when around first (when around test a).true).true x) ((when around second (when around test a).false).true x) i).1) }
      go false false h e f g = record { at = λ x i. h.at x ((g (when around test a).false e).at x (and_parts ((when around first (when around test a).true).false x) ((when around second (when around test a).false).false x) i).1) }
  constant_side a (Assign variable new) answer is = absurd cc

pub always_some : (wanted : Bool) (known : Option Bool) → is_always wanted known ≡ true → known ≡ Some wanted
always_some wanted None e = absurd (false≢true e)
always_some true (Some true) e = refl
always_some true (Some false) e = absurd (false≢true e)
always_some false (Some true) e = absurd (false≢true e)
always_some false (Some false) e = refl

-- behind a loop that never turns nothing more is assigned
pub false_only : (around : Surroundings) (a : Set) (exp : Exp) → is_always false (constant_truth around exp) ≡ true → Inside (when around exp a).false a
false_only around a exp e = constant_side around a exp false (always_some false (constant_truth around exp) e)

-- ---- the other side of a constant condition is vacuous

static_boolean : (type : StaticType) → is_of is_boolean type ≡ true → type ≡ Of Boolean
static_boolean types.Null e = absurd (false≢true e)
static_boolean (Of Boolean) e = refl
static_boolean (Of Byte) e = absurd (false≢true e)
static_boolean (Of Char) e = absurd (false≢true e)
static_boolean (Of Short) e = absurd (false≢true e)
static_boolean (Of types.Int) e = absurd (false≢true e)
static_boolean (Of types.Long) e = absurd (false≢true e)
static_boolean (Of Float) e = absurd (false≢true e)
static_boolean (Of Double) e = absurd (false≢true e)
static_boolean (Of (Class name)) e = absurd (false≢true e)
static_boolean (Of (Array element)) e = absurd (false≢true e)

never_promoted : (type : Option JType) → typed (option_and_then promoted type) ≡ Some (Of Boolean) → ⊥
never_promoted None e = cc
never_promoted (Some Boolean) e = cc
never_promoted (Some Byte) e = cc
never_promoted (Some Char) e = cc
never_promoted (Some Short) e = cc
never_promoted (Some types.Int) e = cc
never_promoted (Some types.Long) e = cc
never_promoted (Some Float) e = cc
never_promoted (Some Double) e = cc
never_promoted (Some (Class name)) e = cc
never_promoted (Some (Array element)) e = cc

decided_other : (a : Set) (known : Option Bool) (answer : Bool) → known ≡ Some answer → All (other_side answer (decided known a))
decided_other a known answer is = subst (λ known. All (other_side answer (decided known a))) (sym is) (go answer)
  where
    go : (answer : Bool) → All (other_side answer (decided (Some answer) a))
    go true = all_of
    go false = all_of

truths_both : (first second : StaticType) → (is_of is_boolean first && is_of is_boolean second) ≡ true → (first ≡ Of Boolean) × (second ≡ Of Boolean)
truths_both first second e = let p = and_parts (is_of is_boolean first) (is_of is_boolean second) e in (static_boolean first p.0, static_boolean second p.1)

module _ (site : Site) (scope : Scope) where
  abbrev HasType : Exp → Type 0
  HasType exp = (type : StaticType) × (type_of (context_of site) scope exp ≡ Some type)

  -- a constant that keeps the rules has a type
  constant_typed : (p : ℕ) (exp : Exp) (found : Value) → Holds (exp_types site scope p exp) → constant (surroundings site) exp ≡ Some found → HasType exp
  constant_typed p (trees.Int number) found t is = (Of types.Int, refl)
  constant_typed p (trees.Long number) found t is = (Of types.Long, refl)
  constant_typed p (Text units) found t is = (_, refl)
  constant_typed p (Truth known) found t is = (Of Boolean, refl)
  constant_typed p Null found t is = absurd cc
  constant_typed p This found t is = absurd cc
  constant_typed p (Variable variable) found t is = absurd cc
  constant_typed p (ClassOf kind) found t is = absurd cc
  constant_typed p (Field object name) found t is = absurd cc
  constant_typed p (Static class name) found t is =
      let one = then_from field_constant (named_field site.headers site.members site.class class name) found is in
      (Of one.0.type, ap (λ field. typed (option_map (λ (field : KnownField). field.type) field)) one.1)
  constant_typed p (Element array index) found t is = absurd cc
  constant_typed p (Call object name arguments) found t is = absurd cc
  constant_typed p (StaticCall class name arguments) found t is = absurd cc
  constant_typed p (SuperCall above name arguments) found t is = absurd cc
  constant_typed p (New class arguments) found t is = absurd cc
  constant_typed p (NewArray kind sizes more) found t is = absurd cc
  constant_typed p (Cast kind operand) found t is = (Of kind, refl)
  constant_typed p (InstanceOf operand kind) found t is = absurd cc
  constant_typed p (Negative operand) found t is =
      let one = then_from (λ value. given_at_once (negated value)) (constant (surroundings site) operand) found is in
      let type = constant_typed (p + 1) operand one.0 t.1 one.1 in
      let gives = minus_gives site.headers type.0 (subst (λ type. if_typed type (is_of is_number) ≡ true) type.1 t.0) in
      (Of gives.0, ap (λ type. typed (option_and_then promoted (plain type))) type.1 ∙ ap typed gives.1)
  constant_typed p (Not operand) found t is = (Of Boolean, refl)
  constant_typed p (Binary operator left right) found t is =
      let one = then_from (λ first. option_and_then (constant_operation (operator_of operator) first) (constant (surroundings site) right)) (constant (surroundings site) left) found is in
      let other = then_from (constant_operation (operator_of operator) one.0) (constant (surroundings site) right) found one.2 in
      let first = constant_typed (p + 1) left one.0 t.1.0 one.1 in
      let second = constant_typed (p + 1 + weight_of_exp left) right other.0 t.1.1 other.1 in
      let gives = operator_gives site.headers operator first.0 second.0
      (subst (λ second. if_both (Some first.0) second (takes site.headers (operands_of operator)) ≡ true) second.1 (subst (λ first. if_both first (type_of (context_of site) scope right) (takes site.headers (operands_of operator)) ≡ true) first.1 t.0)) in
      (Of gives.0, (λ i. typed (result_type (typing_of operator) (plain (first.1 i)) (plain (second.1 i)))) ∙ ap typed gives.1)
  constant_typed p (Choice test first second) found t is =
      let answer = then_from (λ answer. option_and_then (λ one. option_and_then (constant_choice answer one) (constant (surroundings site) second)) (constant (surroundings site) first)) (constant (surroundings site) test) found is in
      let one = then_from (λ one. option_and_then (constant_choice answer.0 one) (constant (surroundings site) second)) (constant (surroundings site) first) found answer.2 in
      let other = then_from (constant_choice answer.0 one.0) (constant (surroundings site) second) found one.2 in
      let this = constant_typed (p + 1 + weight_of_exp test) first one.0 t.1.1.1.0 one.1 in
      let that = constant_typed (p + 1 + weight_of_exp test + weight_of_exp first) second other.0 t.1.1.1.1 other.1 in
      go this.0 that.0 this.1 that.1
    where
      go : (this that : StaticType) → type_of (context_of site) scope first ≡ Some this → type_of (context_of site) scope second ≡ Some that → HasType (Choice test first second)
      go types.Null that e f = (that, (λ i. choice_type (e i) (f i)))
      go (Of this) that e f = (Of this, (λ i. choice_type (e i) (f i)))
  constant_typed p (Assign variable new) found t is = absurd cc

  -- a constant condition is of type boolean
  boolean_typed : (p : ℕ) (exp : Exp) (answer : Bool) → Holds (exp_types site scope p exp) → constant_truth (surroundings site) exp ≡ Some answer → is_condition (type_of (context_of site) scope exp) ≡ true
      → type_of (context_of site) scope exp ≡ Some (Of Boolean)
  boolean_typed p exp answer t is condition =
      let said = truth_known (surroundings site) exp answer is in
      let type = constant_typed p exp said.0 t said.1 in
      type.1 ∙ ap Some (static_boolean type.0 (subst (λ type. is_condition type ≡ true) type.1 condition))

  choice_boolean : (first second : StaticType) → choice_type (Some first) (Some second) ≡ Some (Of Boolean) → agree first second ≡ true → (first ≡ Of Boolean) × (second ≡ Of Boolean)
  choice_boolean types.Null types.Null is agrees = absurd cc
  choice_boolean types.Null (Of second) is agrees = let e : second ≡ Boolean = cc in absurd (false≢true (subst (λ type. agree types.Null (Of type) ≡ true) e agrees))
  choice_boolean (Of first) types.Null is agrees = let e : first ≡ Boolean = cc in absurd (false≢true (subst (λ type. agree (Of type) types.Null ≡ true) e agrees))
  choice_boolean (Of first) (Of second) is agrees =
      let e : first ≡ Boolean = cc in
      (ap Of e, static_boolean (Of second) (flipped second (subst (λ type. agree (Of type) (Of second) ≡ true) e agrees)))
    where
      flipped : (second : JType) → agree (Of Boolean) (Of second) ≡ true → is_of is_boolean (Of second) ≡ true
      flipped Boolean e = refl
      flipped Byte e = absurd (false≢true e)
      flipped Char e = absurd (false≢true e)
      flipped Short e = absurd (false≢true e)
      flipped types.Int e = absurd (false≢true e)
      flipped types.Long e = absurd (false≢true e)
      flipped Float e = absurd (false≢true e)
      flipped Double e = absurd (false≢true e)
      flipped (Class name) e = absurd (false≢true e)
      flipped (Array element) e = absurd (false≢true e)

  -- of a constant condition that keeps the rules the other side is vacuous
  constant_other : (p : ℕ) (a : Set) (exp : Exp) (answer : Bool) → Holds (exp_types site scope p exp) → type_of (context_of site) scope exp ≡ Some (Of Boolean) → constant_truth (surroundings site) exp ≡ Some answer
      → All (other_side answer (when (surroundings site) exp a))
  constant_other p a (trees.Int number) answer t type is = absurd cc
  constant_other p a (trees.Long number) answer t type is = absurd cc
  constant_other p a (Text units) answer t type is = absurd cc
  constant_other p a (Truth known) answer t type is = go known is
    where
      go : (known : Bool) → constant_truth (surroundings site) (Truth known) ≡ Some answer → All (other_side answer (decided (Some known) a))
      go true is = decided_other a (Some true) answer is
      go false is = decided_other a (Some false) answer is
  constant_other p a Null answer t type is = absurd cc
  constant_other p a This answer t type is = absurd cc
  constant_other p a (Variable variable) answer t type is = absurd cc
  constant_other p a (ClassOf kind) answer t type is = absurd cc
  constant_other p a (Field object name) answer t type is = absurd cc
  constant_other p a (Static class name) answer t type is = decided_other a (constant_truth (surroundings site) (Static class name)) answer is
  constant_other p a (Element array index) answer t type is = absurd cc
  constant_other p a (Call object name arguments) answer t type is = absurd cc
  constant_other p a (StaticCall class name arguments) answer t type is = absurd cc
  constant_other p a (SuperCall above name arguments) answer t type is = absurd cc
  constant_other p a (New class arguments) answer t type is = absurd cc
  constant_other p a (NewArray kind sizes more) answer t type is = absurd cc
  constant_other p a (Cast kind operand) answer t type is = decided_other (after_both (when (surroundings site) operand a)) (constant_truth (surroundings site) (Cast kind operand)) answer is
  constant_other p a (InstanceOf operand kind) answer t type is = absurd cc
  constant_other p a (Negative operand) answer t type is = absurd (never_promoted (plain (type_of (context_of site) scope operand)) type)
  constant_other p a (Not operand) answer t type is =
      let part = not_truth (surroundings site) operand answer is in
      go answer (constant_other (p + 1) a operand (not answer) t.1 (boolean_typed (p + 1) operand (not answer) t.1 part t.0) part)
    where
      go : (answer : Bool) → All (other_side (not answer) (when (surroundings site) operand a)) → All (other_side answer (when (surroundings site) (Not operand) a))
      go true h = h
      go false h = h
  constant_other p a (Binary operator left right) answer t type is =
      by (form_of operator) (λ s boolean e. constant_other (p + 1) a left s t.1.0 boolean e) (λ u b boolean e. constant_other (p + 1 + weight_of_exp left) b right u t.1.1 boolean e)
    where
      after_other : (wanted s u : Bool) → (if is_wanted wanted s then u else s) ≡ answer → All (other_side s (when (surroundings site) left a)) → ((b : Set) → All (other_side u (when (surroundings site) right b)))
          → All (other_side answer (behind_operator (Some wanted) (constant_truth (surroundings site) (Binary operator left right)) (when (surroundings site) left a) (when (surroundings site) right)))
      after_other true true true e h k = subst (λ t. All (other_side t (behind_operator (Some true) (constant_truth (surroundings site) (Binary operator left right)) (when (surroundings site) left a) (when (surroundings site) right)))) e
          (all_meet h (k (when (surroundings site) left a).true))
      after_other true true false e h k = subst (λ t. All (other_side t (behind_operator (Some true) (constant_truth (surroundings site) (Binary operator left right)) (when (surroundings site) left a) (when (surroundings site) right)))) e
          (k (when (surroundings site) left a).true)
      after_other true false u e h k = subst (λ t. All (other_side t (behind_operator (Some true) (constant_truth (surroundings site) (Binary operator left right)) (when (surroundings site) left a) (when (surroundings site) right)))) e
          (all_when (surroundings site) right h).true
      after_other false true u e h k = subst (λ t. All (other_side t (behind_operator (Some false) (constant_truth (surroundings site) (Binary operator left right)) (when (surroundings site) left a) (when (surroundings site) right)))) e
          (all_when (surroundings site) right h).false
      after_other false false true e h k = subst (λ t. All (other_side t (behind_operator (Some false) (constant_truth (surroundings site) (Binary operator left right)) (when (surroundings site) left a) (when (surroundings site) right)))) e
          (k (when (surroundings site) left a).false)
      after_other false false false e h k = subst (λ t. All (other_side t (behind_operator (Some false) (constant_truth (surroundings site) (Binary operator left right)) (when (surroundings site) left a) (when (surroundings site) right)))) e
          (all_meet h (k (when (surroundings site) left a).false))

      by : HasForm operator
          → ((s : Bool) → type_of (context_of site) scope left ≡ Some (Of Boolean) → constant_truth (surroundings site) left ≡ Some s → All (other_side s (when (surroundings site) left a)))
          → ((u : Bool) (b : Set) → type_of (context_of site) scope right ≡ Some (Of Boolean) → constant_truth (surroundings site) right ≡ Some u → All (other_side u (when (surroundings site) right b)))
          → All (other_side answer (when (surroundings site) (Binary operator left right) a))
      by (strict operation form none) h k =
          subst (λ wanted. All (other_side answer (behind_operator wanted (constant_truth (surroundings site) (Binary operator left right)) (when (surroundings site) left a) (when (surroundings site) right)))) (sym none)
          (decided_other (after_both (when (surroundings site) right (after_both (when (surroundings site) left a)))) (constant_truth (surroundings site) (Binary operator left right)) answer is)
      by (after wanted form is_after typing operands) h k =
          let parts = both_truths (surroundings site) operator left right wanted answer form is in
          let one = truth_known (surroundings site) left parts.0 parts.2 in
          let other = truth_known (surroundings site) right parts.1 parts.3 in
          let first = constant_typed (p + 1) left one.0 t.1.0 one.1 in
          let second = constant_typed (p + 1 + weight_of_exp left) right other.0 t.1.1 other.1 in
          let both = truths_both first.0 second.0
          (subst (λ operands. takes site.headers operands first.0 second.0 ≡ true) operands
          (subst (λ second. if_both (Some first.0) second (takes site.headers (operands_of operator)) ≡ true) second.1 (subst (λ first. if_both first (type_of (context_of site) scope right) (takes site.headers (operands_of operator)) ≡ true) first.1 t.0))) in
          subst (λ wanted. All (other_side answer (behind_operator wanted (constant_truth (surroundings site) (Binary operator left right)) (when (surroundings site) left a) (when (surroundings site) right)))) (sym is_after)
          (after_other wanted parts.0 parts.1 parts.4 (h parts.0 (first.1 ∙ ap Some both.0) parts.2) (λ b. k parts.1 b (second.1 ∙ ap Some both.1) parts.3))
  constant_other p a (Choice test first second) answer t type is =
      let part = choice_truth (surroundings site) test first second answer is in
      let said = truth_known (surroundings site) (Choice test first second) answer is in
      let known = then_from (λ answer. option_and_then (λ one. option_and_then (constant_choice answer one) (constant (surroundings site) second)) (constant (surroundings site) first)) (constant (surroundings site) test) said.0 said.1 in
      let one = then_from (λ one. option_and_then (constant_choice known.0 one) (constant (surroundings site) second)) (constant (surroundings site) first) said.0 known.2 in
      let other = then_from (constant_choice known.0 one.0) (constant (surroundings site) second) said.0 one.2 in
      let this = constant_typed (p + 1 + weight_of_exp test) first one.0 t.1.1.1.0 one.1 in
      let that = constant_typed (p + 1 + weight_of_exp test + weight_of_exp first) second other.0 t.1.1.1.1 other.1 in
      let both = choice_boolean this.0 that.0 ((λ i. choice_type (sym this.1 i) (sym that.1 i)) ∙ type)
      (subst (λ second. if_both (Some this.0) second agree ≡ true) that.1 (subst (λ first. if_both first (type_of (context_of site) scope second) agree ≡ true) this.1 t.1.0)) in
      go part.0 answer (constant_other (p + 1) a test part.0 t.1.1.0 (boolean_typed (p + 1) test part.0 t.1.1.0 part.1 t.0) part.1) part.2
      (λ e. constant_other (p + 1 + weight_of_exp test) (when (surroundings site) test a).true first answer t.1.1.1.0 (this.1 ∙ ap Some both.0) e)
      (λ e. constant_other (p + 1 + weight_of_exp test + weight_of_exp first) (when (surroundings site) test a).false second answer t.1.1.1.1 (that.1 ∙ ap Some both.1) e)
    where
      go : (s answer : Bool) → All (other_side s (when (surroundings site) test a)) → constant_truth (surroundings site) (if s then first else second) ≡ Some answer
          → (constant_truth (surroundings site) first ≡ Some answer → All (other_side answer (when (surroundings site) first (when (surroundings site) test a).true)))
          → (constant_truth (surroundings site) second ≡ Some answer → All (other_side answer (when (surroundings site) second (when (surroundings site) test a).false)))
          → All (other_side answer (when (surroundings site) (Choice test first second) a))
      go true true h e f g = all_meet (f e) (all_when (surroundings site) second h).false
      go true false h e f g = all_meet (f e) (all_when (surroundings site) second h).true
      go false true h e f g = all_meet (all_when (surroundings site) first h).false (g e)
      go false false h e f g = all_meet (all_when (surroundings site) first h).true (g e)
  constant_other p a (Assign variable new) answer t type is = absurd cc

  -- a loop whose test is constant true doesn't end by it
  pub never_false : (p : ℕ) (a : Set) (exp : Exp) → Holds (exp_types site scope p exp) → is_condition (type_of (context_of site) scope exp) ≡ true → is_always true (constant_truth (surroundings site) exp) ≡ true
      → All (when (surroundings site) exp a).false
  never_false p a exp t condition e =
      let is = always_some true (constant_truth (surroundings site) exp) e in
      constant_other p a exp true t (boolean_typed p exp true t is condition) is

-- ---- expressions take nothing away

both_grown : {a : Set} (sides : When) → More (either_way a) sides → Inside a (after_both sides)
both_grown sides m = record { at = λ x e. and_from (sides.true x) (sides.false x) (m.true.at x e) (m.false.at x e) }

decided_grown : {a b : Set} (known : Option Bool) → Inside a b → More (either_way a) (decided known b)
decided_grown None h = either_more h
decided_grown (Some true) h = record { true = h; false = record { at = λ x e. refl } }
decided_grown (Some false) h = record { true = record { at = λ x e. refl }; false = h }

meet_grown : {a : Set} (b c : Set) → Inside a b → Inside a c → Inside a (meet b c)
meet_grown b c h k = record { at = λ x e. and_from (b x) (c x) (h.at x e) (k.at x e) }

operator_grown : {a : Set} (v : When) (f : Set → When) (wanted known : Option Bool) → More (either_way a) v → ((b : Set) → More (either_way b) (f b)) → More (either_way a) (behind_operator wanted known v f)
operator_grown v f None known m k = decided_grown known (beyond (both_grown v m) (both_grown (f (after_both v)) (k (after_both v))))
operator_grown v f (Some true) known m k = record {
  true = beyond m.true (k v.true).true;
  false = meet_grown v.false (f v.true).false m.false (beyond m.true (k v.true).false);
}
operator_grown v f (Some false) known m k = record {
  true = meet_grown v.true (f v.false).true m.true (beyond m.false (k v.false).true);
  false = beyond m.false (k v.false).false;
}

module _ (around : Surroundings) where
  mutual
    pub grown : (a : Set) (exp : Exp) → More (either_way a) (when around exp a)
    grown a (trees.Int number) = either_more (inside_same a)
    grown a (trees.Long number) = either_more (inside_same a)
    grown a (Text units) = either_more (inside_same a)
    grown a (Truth known) = decided_grown (Some known) (inside_same a)
    grown a Null = either_more (inside_same a)
    grown a This = either_more (inside_same a)
    grown a (Variable variable) = either_more (inside_same a)
    grown a (ClassOf kind) = either_more (inside_same a)
    grown a (Field object name) = either_more (both_grown (when around object a) (grown a object))
    grown a (Static class name) = decided_grown (constant_truth around (Static class name)) (inside_same a)
    grown a (Element array index) = either_more (beyond (both_grown (when around array a) (grown a array)) (both_grown (when around index (after_exp around array a)) (grown (after_exp around array a) index)))
    grown a (Call object name arguments) = either_more (beyond (both_grown (when around object a) (grown a object)) (all_grown (after_exp around object a) arguments))
    grown a (StaticCall class name arguments) = either_more (all_grown a arguments)
    grown a (SuperCall above name arguments) = either_more (all_grown a arguments)
    grown a (New class arguments) = either_more (all_grown a arguments)
    grown a (NewArray kind sizes more) = either_more (all_grown a sizes)
    grown a (Cast kind operand) = decided_grown (constant_truth around (Cast kind operand)) (both_grown (when around operand a) (grown a operand))
    grown a (InstanceOf operand kind) = either_more (both_grown (when around operand a) (grown a operand))
    grown a (Negative operand) = either_more (both_grown (when around operand a) (grown a operand))
    grown a (Not operand) = record { true = (grown a operand).false; false = (grown a operand).true }
    grown a (Binary operator left right) = operator_grown (when around left a) (when around right) (wanted_before operator) (constant_truth around (Binary operator left right)) (grown a left) (λ b. grown b right)
    grown a (Choice test first second) = record {
      true = meet_grown (when around first (when around test a).true).true (when around second (when around test a).false).true (beyond (grown a test).true (grown (when around test a).true first).true) (beyond (grown a test).false (grown (when around test a).false second).true);
      false = meet_grown (when around first (when around test a).true).false (when around second (when around test a).false).false (beyond (grown a test).true (grown (when around test a).true first).false) (beyond (grown a test).false (grown (when around test a).false second).false);
    }
    grown a (Assign variable new) = either_more (record { at = λ x e. or_second (is_same_variable x variable) (after_exp around new a x) ((both_grown (when around new a) (grown a new)).at x e) })

    pub all_grown : (a : Set) (exps : Exps) → Inside a (after_each around exps a)
    all_grown a NoExps = inside_same a
    all_grown a (AndExp first rest) = beyond (both_grown (when around first a) (grown a first)) (all_grown (after_exp around first a) rest)

  pub exp_grown : (a : Set) (exp : Exp) → Inside a (after_exp around exp a)
  exp_grown a exp = both_grown (when around exp a) (grown a exp)
