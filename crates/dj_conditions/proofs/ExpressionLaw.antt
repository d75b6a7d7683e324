-- The walk past expressions finds what the rules on assignment say.
use Rattle.std.proofs.Common.{ℕ, ◌+◌, Bool, true, false, not, List, Option, Some, None, ◌≡◌, refl, sym, ap, ◌∙◌, arith}
use Rattle.std.specs.Prelude.{if◌then◌else◌}
use Rattle.dj_syntax.specs.declared.variable.Var.{Var}
use Rattle.dj_syntax.specs.Trees.{Exp, Text, Truth, Null, This, Variable, ClassOf, Field, Static, Element, Call, StaticCall, SuperCall, New, NewArray, Cast, InstanceOf, Negative, Not, Binary, Choice, Assign, Exps, NoExps, AndExp}
use Rattle.dj_syntax.specs.Trees as trees
use Rattle.dj_syntax.specs.Weight.{weight_of_exp, weight_of_exps}
use Rattle.dj_places.specs.Constants.{Surroundings, constant_truth}
use Rattle.dj_places.specs.Rules.{Rules, NoRule, Rule, ◌and◌}
use Rattle.dj_places.specs.Places.{told, lower, broken_at, first_broken}
use Rattle.dj_places.specs.declared.kind.TypeKind.TheVariants.{Assigned}
use Rattle.dj_places.proofs.RuleLemmas.{told_later, lower_none, lower_assoc}
use Rattle.dj_variables.specs.Sets.{Set, with, meet}
use Rattle.dj_variables.specs.Lists.{is_among, Keeps}
use Rattle.dj_conditions.specs.Conditions.{When, after_both, either_way, decided, wanted_before, behind_operator, when, after_each, after_exp}
use Rattle.dj_conditions.specs.Reads.{before_right, reads, reads_each}
use Rattle.dj_conditions.specs.Walks.{step, read, from, write, meet_with, Sides, same_sides, sides, turned, look_operator, test_operator, look, look_each, test}
use Rattle.dj_conditions.specs.declared.walk.Walk.{Walk}
use Rattle.dj_variables.proofs.SetLemmas.{meet_same, meet_everything, meet_swap, meet_three, meet_turn, meet_four}
use Rattle.dj_variables.proofs.ListLemmas.{keeps_none, keeps_same, keeps_removed, keeps_union}

-- how a walk goes past an expression: to which place, what is assigned there, and what is broken
pub record Looks (before behind : Walk) (end : ℕ) (set : Set) (rules : Rules) : Type 0 where
  pub place : behind.place ≡ told end
  pub unassigned : Keeps behind.unassigned set
  pub fault : behind.fault ≡ lower before.fault (first_broken rules)

-- likewise on both sides of a condition
pub record Tests (before : Walk) (one : Sides) (end : ℕ) (set : When) (rules : Rules) : Type 0 where
  pub walk : Looks before one.walk end set.true rules
  pub otherwise : Keeps one.otherwise set.false

pub stepped : (walk : Walk) (place : ℕ) → walk.place ≡ told place → (step walk).place ≡ told (place + 1)
stepped walk place is = told_later place 1 walk.place is

-- one part behind another
pub and_then : {before between behind : Walk} {middle end : ℕ} {a b : Set} {first second : Rules} → Looks before between middle a first → Looks between behind end b second → Looks before behind end b (first and second)
and_then {before = before} {first = first} {second = second} x y = record {
  place = y.place;
  unassigned = y.unassigned;
  fault = y.fault ∙ ap (λ z. lower z (first_broken second)) x.fault ∙ lower_assoc before.fault (first_broken first) (first_broken second);
}

-- the same but for the place, the set and the first walk
pub placed : {before behind : Walk} {middle : ℕ} {a : Set} {rules : Rules} (first : Walk) (end : ℕ) (b : Set) → Looks before behind middle a rules
    → first.fault ≡ before.fault → middle ≡ end → a ≡ b → Looks first behind end b rules
placed {rules = rules} first end b x fault m e = record {
  place = x.place ∙ ap told m;
  unassigned = keeps_same x.unassigned e;
  fault = x.fault ∙ ap (λ i. lower i (first_broken rules)) (sym fault);
}

pub at_same : (walk : Walk) (place : ℕ) (set : Set) → walk.place ≡ told place → Keeps walk.unassigned set → Looks walk walk place set NoRule
at_same walk place set is u = record { place = is; unassigned = u; fault = sym (lower_none walk.fault) }

decided_both : (known : Option Bool) (set : Set) → set ≡ after_both (decided known set)
decided_both None set = sym (meet_same set)
decided_both (Some true) set = sym (meet_everything set)
decided_both (Some false) set = refl

pub writes : {before behind : Walk} {end : ℕ} {set : Set} {rules : Rules} (variable : Var) → Looks before behind end set rules → Looks before (write variable behind) end (with variable set) rules
writes {behind = behind} variable x = record { place = x.place; unassigned = keeps_removed variable x.unassigned; fault = x.fault }

pub meets : {before behind : Walk} {end : ℕ} {a b : Set} {rules : Rules} (list : List Var) → Looks before behind end a rules → Keeps list b → Looks before (meet_with list behind) end (meet a b) rules
meets {behind = behind} list x is = record { place = x.place; unassigned = keeps_union x.unassigned is; fault = x.fault }

pub reads_variable : (walk : Walk) (place : ℕ) (variable : Var) (set : Set) → walk.place ≡ told place → Keeps walk.unassigned set → Looks walk (step (read variable walk)) (place + 1) set (Rule place Assigned (set variable))
reads_variable walk place variable set is u = record {
  place = stepped (read variable walk) place is;
  unassigned = u;
  fault = ap (λ (at : ℕ). lower walk.fault (if not (is_among variable walk.unassigned) then None else Some at)) is ∙ ap (λ (s : Set). lower walk.fault (broken_at place (s variable))) u.leaves;
}

splits : {before behind : Walk} {end : ℕ} {set : Set} {rules : Rules} (known : Option Bool) → Looks before behind end set rules → Tests before (sides known behind) end (decided known set) rules
splits None x = record { walk = record { place = x.place; unassigned = x.unassigned; fault = x.fault }; otherwise = x.unassigned }
splits (Some true) x = record { walk = record { place = x.place; unassigned = x.unassigned; fault = x.fault }; otherwise = keeps_none }
splits (Some false) x = record { walk = record { place = x.place; unassigned = keeps_none; fault = x.fault }; otherwise = x.unassigned }

same_test : {before behind : Walk} {end : ℕ} {set : Set} {rules : Rules} → Looks before behind end set rules → Tests before (same_sides behind) end (either_way set) rules
same_test x = record { walk = x; otherwise = x.unassigned }

turned_test : {before : Walk} {one : Sides} {end : ℕ} {set : When} {rules : Rules} → Tests before one end set rules → Tests before (turned false one) end (record { true = set.false; false = set.true }) rules
turned_test x = record { walk = record { place = x.walk.place; unassigned = x.otherwise; fault = x.walk.fault }; otherwise = x.walk.unassigned }

-- a test from an earlier walk, to the same place written otherwise
placed_test : {before : Walk} {one : Sides} {middle : ℕ} {set : When} {rules : Rules} (first : Walk) (end : ℕ) → Tests before one middle set rules
    → first.fault ≡ before.fault → middle ≡ end → Tests first one end set rules
placed_test first end x fault m = record { walk = placed first end _ x.walk fault m refl; otherwise = x.otherwise }

leaf : (walk : Walk) (place : ℕ) (set : Set) → walk.place ≡ told place → Keeps walk.unassigned set → Looks walk (step walk) (place + 1) set NoRule
leaf walk place set is u = placed walk (place + 1) set (at_same (step walk) (place + 1) set (stepped walk place is) u) refl refl refl

-- ---- operators

-- what the law says of an expression, wherever a walk comes to it
abbrev LooksPast : Surroundings → Exp → Type 0
LooksPast around exp = (walk : Walk) (place : ℕ) (set : Set) → walk.place ≡ told place → Keeps walk.unassigned set
    → Looks walk (look around exp walk) (place + weight_of_exp exp) (after_exp around exp set) (reads around set place exp)

abbrev TestsPast : Surroundings → Exp → Type 0
TestsPast around exp = (walk : Walk) (place : ℕ) (set : Set) → walk.place ≡ told place → Keeps walk.unassigned set
    → Tests walk (test around exp walk) (place + weight_of_exp exp) (when around exp set) (reads around set place exp)

meet_round : (a b c : Set) → meet (meet a b) c ≡ meet (meet c a) b
meet_round a b c = meet_swap (meet a b) c ∙ sym (meet_three c a b)

looks_operator : (around : Surroundings) (wanted known : Option Bool) (left right : Exp) → LooksPast around left → TestsPast around left → LooksPast around right
    → (walk : Walk) (place : ℕ) (set : Set) → walk.place ≡ told place → Keeps walk.unassigned set
    → Looks walk (look_operator wanted (look around left (step walk)) (test around left (step walk)) (look around right)) (place + (1 + (weight_of_exp left + weight_of_exp right)))
    (after_both (behind_operator wanted known (when around left set) (when around right)))
    (reads around set (place + 1) left and reads around (before_right wanted (when around left set)) (place + 1 + weight_of_exp left) right)
looks_operator around None known left right l t r walk place set is u =
    let x = l (step walk) (place + 1) set (stepped walk place is) u in
    let y = r (look around left (step walk)) (place + 1 + weight_of_exp left) (after_exp around left set) x.place x.unassigned in
    placed walk _ _ (and_then x y) refl (omega arith) (decided_both known _)
looks_operator around (Some true) known left right l t r walk place set is u =
    let one = test around left (step walk) in
    let x = t (step walk) (place + 1) set (stepped walk place is) u in
    let y = r one.walk (place + 1 + weight_of_exp left) (when around left set).true x.walk.place x.walk.unassigned in
    let right_sides = when around right (when around left set).true in
    placed walk _ _ (meets one.otherwise (and_then x.walk y) x.otherwise) refl (omega arith) (meet_turn right_sides.true right_sides.false (when around left set).false)
looks_operator around (Some false) known left right l t r walk place set is u =
    let one = test around left (step walk) in
    let x = turned_test (t (step walk) (place + 1) set (stepped walk place is) u) in
    let y = r (from one.otherwise one.walk) (place + 1 + weight_of_exp left) (when around left set).false x.walk.place x.walk.unassigned in
    let right_sides = when around right (when around left set).false in
    placed walk _ _ (meets one.walk.unassigned (and_then x.walk y) x.otherwise) refl (omega arith) (meet_round right_sides.true right_sides.false (when around left set).true)

tests_operator : (around : Surroundings) (wanted known : Option Bool) (left right : Exp) → LooksPast around left → TestsPast around left → LooksPast around right → TestsPast around right
    → (walk : Walk) (place : ℕ) (set : Set) → walk.place ≡ told place → Keeps walk.unassigned set
    → Tests walk (test_operator wanted known (look around left (step walk)) (test around left (step walk)) (look around right) (test around right)) (place + (1 + (weight_of_exp left + weight_of_exp right)))
    (behind_operator wanted known (when around left set) (when around right))
    (reads around set (place + 1) left and reads around (before_right wanted (when around left set)) (place + 1 + weight_of_exp left) right)
tests_operator around None known left right l t r s walk place set is u =
    let x = l (step walk) (place + 1) set (stepped walk place is) u in
    let y = r (look around left (step walk)) (place + 1 + weight_of_exp left) (after_exp around left set) x.place x.unassigned in
    splits known (placed walk (place + (1 + (weight_of_exp left + weight_of_exp right))) (after_exp around right (after_exp around left set)) (and_then x y) refl (omega arith) refl)
tests_operator around (Some true) known left right l t r s walk place set is u =
    let one = test around left (step walk) in
    let x = t (step walk) (place + 1) set (stepped walk place is) u in
    let y = s one.walk (place + 1 + weight_of_exp left) (when around left set).true x.walk.place x.walk.unassigned in
    record {
      walk = placed walk _ _ (and_then x.walk y.walk) refl (omega arith) refl;
      otherwise = keeps_union x.otherwise y.otherwise;
    }
tests_operator around (Some false) known left right l t r s walk place set is u =
    let one = test around left (step walk) in
    let start = from one.otherwise one.walk in
    let two = test around right start in
    let x = turned_test (t (step walk) (place + 1) set (stepped walk place is) u) in
    let y = s start (place + 1 + weight_of_exp left) (when around left set).false x.walk.place x.walk.unassigned in
    let z = placed walk (place + (1 + (weight_of_exp left + weight_of_exp right))) _ (and_then x.walk y.walk) refl (omega arith) refl in
    record {
      walk = record {
        place = z.place;
        unassigned = keeps_union x.otherwise y.walk.unassigned;
        fault = z.fault;
      };
      otherwise = y.otherwise;
    }

-- ---- expressions

mutual
  pub looks : (around : Surroundings) (exp : Exp) → LooksPast around exp
  looks around (trees.Int number) walk place set is u = placed walk _ _ (leaf walk place set is u) refl refl (sym (meet_same set))
  looks around (trees.Long number) walk place set is u = placed walk _ _ (leaf walk place set is u) refl refl (sym (meet_same set))
  looks around (Text units) walk place set is u = placed walk _ _ (leaf walk place set is u) refl refl (sym (meet_same set))
  looks around (Truth known) walk place set is u = placed walk _ _ (leaf walk place set is u) refl refl (decided_both (Some known) set)
  looks around Null walk place set is u = placed walk _ _ (leaf walk place set is u) refl refl (sym (meet_same set))
  looks around This walk place set is u = placed walk _ _ (leaf walk place set is u) refl refl (sym (meet_same set))
  looks around (ClassOf kind) walk place set is u = placed walk _ _ (leaf walk place set is u) refl refl (sym (meet_same set))
  looks around (Static class name) walk place set is u = placed walk _ _ (leaf walk place set is u) refl refl (decided_both (constant_truth around (Static class name)) set)
  looks around (Variable variable) walk place set is u = placed walk _ _ (reads_variable walk place variable set is u) refl refl (sym (meet_same set))
  looks around (Field object name) walk place set is u = placed walk _ _ (looks around object (step walk) (place + 1) set (stepped walk place is) u) refl (omega arith) (sym (meet_same _))
  looks around (InstanceOf operand kind) walk place set is u = placed walk _ _ (looks around operand (step walk) (place + 1) set (stepped walk place is) u) refl (omega arith) (sym (meet_same _))
  looks around (Negative operand) walk place set is u = placed walk _ _ (looks around operand (step walk) (place + 1) set (stepped walk place is) u) refl (omega arith) (sym (meet_same _))
  looks around (Cast kind operand) walk place set is u = placed walk _ _ (looks around operand (step walk) (place + 1) set (stepped walk place is) u) refl (omega arith) (decided_both (constant_truth around (Cast kind operand)) _)
  looks around (Not operand) walk place set is u = placed walk _ _ (looks around operand (step walk) (place + 1) set (stepped walk place is) u) refl (omega arith) (meet_swap (when around operand set).true (when around operand set).false)
  looks around (Element array index) walk place set is u =
      let x = looks around array (step walk) (place + 1) set (stepped walk place is) u in
      let y = looks around index (look around array (step walk)) (place + 1 + weight_of_exp array) (after_exp around array set) x.place x.unassigned in
      placed walk _ _ (and_then x y) refl (omega arith) (sym (meet_same _))
  looks around (Call object name arguments) walk place set is u =
      let x = looks around object (step walk) (place + 1) set (stepped walk place is) u in
      let y = looks_each around arguments (look around object (step walk)) (place + 1 + weight_of_exp object) (after_exp around object set) x.place x.unassigned in
      placed walk _ _ (and_then x y) refl (omega arith) (sym (meet_same _))
  looks around (StaticCall class name arguments) walk place set is u = placed walk _ _ (looks_each around arguments (step walk) (place + 1) set (stepped walk place is) u) refl (omega arith) (sym (meet_same _))
  looks around (SuperCall above name arguments) walk place set is u = placed walk _ _ (looks_each around arguments (step walk) (place + 1) set (stepped walk place is) u) refl (omega arith) (sym (meet_same _))
  looks around (New class arguments) walk place set is u = placed walk _ _ (looks_each around arguments (step walk) (place + 1) set (stepped walk place is) u) refl (omega arith) (sym (meet_same _))
  looks around (NewArray kind sizes more) walk place set is u = placed walk _ _ (looks_each around sizes (step walk) (place + 1) set (stepped walk place is) u) refl (omega arith) (sym (meet_same _))
  looks around (Binary operator left right) walk place set is u =
      looks_operator around (wanted_before operator) (constant_truth around (Binary operator left right)) left right (looks around left) (tests around left) (looks around right) walk place set is u
  looks around (Choice condition first second) walk place set is u =
      let one = test around condition (step walk) in
      let between = look around first one.walk in
      let x = tests around condition (step walk) (place + 1) set (stepped walk place is) u in
      let y = looks around first one.walk (place + 1 + weight_of_exp condition) (when around condition set).true x.walk.place x.walk.unassigned in
      let z = looks around second (from one.otherwise between) (place + 1 + weight_of_exp condition + weight_of_exp first) (when around condition set).false y.place x.otherwise in
      let f = when around first (when around condition set).true in
      let s = when around second (when around condition set).false in
      placed walk _ _ (and_then x.walk (and_then y (placed between _ _ (meets between.unassigned z y.unassigned) refl refl refl))) refl (omega arith) (meet_four f.true s.true f.false s.false)
  looks around (Assign variable value) walk place set is u = placed walk _ _ (writes variable (looks around value (step walk) (place + 1) set (stepped walk place is) u)) refl (omega arith) (sym (meet_same _))

  pub looks_each : (around : Surroundings) (exps : Exps) (walk : Walk) (place : ℕ) (set : Set) → walk.place ≡ told place → Keeps walk.unassigned set
      → Looks walk (look_each around exps walk) (place + weight_of_exps exps) (after_each around exps set) (reads_each around set place exps)
  looks_each around NoExps walk place set is u = placed walk _ _ (at_same walk place set is u) refl (omega arith) refl
  looks_each around (AndExp first rest) walk place set is u =
      let x = looks around first walk place set is u in
      let y = looks_each around rest (look around first walk) (place + weight_of_exp first) (after_exp around first set) x.place x.unassigned in
      placed walk _ _ (and_then x y) refl (omega arith) refl

  pub tests : (around : Surroundings) (exp : Exp) → TestsPast around exp
  tests around (trees.Int number) walk place set is u = same_test (leaf walk place set is u)
  tests around (trees.Long number) walk place set is u = same_test (leaf walk place set is u)
  tests around (Text units) walk place set is u = same_test (leaf walk place set is u)
  tests around Null walk place set is u = same_test (leaf walk place set is u)
  tests around This walk place set is u = same_test (leaf walk place set is u)
  tests around (ClassOf kind) walk place set is u = same_test (leaf walk place set is u)
  tests around (Truth known) walk place set is u = splits (Some known) (leaf walk place set is u)
  tests around (Static class name) walk place set is u = splits (constant_truth around (Static class name)) (leaf walk place set is u)
  tests around (Variable variable) walk place set is u = same_test (reads_variable walk place variable set is u)
  tests around (Field object name) walk place set is u = placed_test walk _ (same_test (looks around object (step walk) (place + 1) set (stepped walk place is) u)) refl (omega arith)
  tests around (InstanceOf operand kind) walk place set is u = placed_test walk _ (same_test (looks around operand (step walk) (place + 1) set (stepped walk place is) u)) refl (omega arith)
  tests around (Negative operand) walk place set is u = placed_test walk _ (same_test (looks around operand (step walk) (place + 1) set (stepped walk place is) u)) refl (omega arith)
  tests around (Cast kind operand) walk place set is u = placed_test walk _ (splits (constant_truth around (Cast kind operand)) (looks around operand (step walk) (place + 1) set (stepped walk place is) u)) refl (omega arith)
  tests around (Not operand) walk place set is u = placed_test walk _ (turned_test (tests around operand (step walk) (place + 1) set (stepped walk place is) u)) refl (omega arith)
  tests around (Element array index) walk place set is u =
      let x = looks around array (step walk) (place + 1) set (stepped walk place is) u in
      let y = looks around index (look around array (step walk)) (place + 1 + weight_of_exp array) (after_exp around array set) x.place x.unassigned in
      placed_test walk _ (same_test (and_then x y)) refl (omega arith)
  tests around (Call object name arguments) walk place set is u =
      let x = looks around object (step walk) (place + 1) set (stepped walk place is) u in
      let y = looks_each around arguments (look around object (step walk)) (place + 1 + weight_of_exp object) (after_exp around object set) x.place x.unassigned in
      placed_test walk _ (same_test (and_then x y)) refl (omega arith)
  tests around (StaticCall class name arguments) walk place set is u = placed_test walk _ (same_test (looks_each around arguments (step walk) (place + 1) set (stepped walk place is) u)) refl (omega arith)
  tests around (SuperCall above name arguments) walk place set is u = placed_test walk _ (same_test (looks_each around arguments (step walk) (place + 1) set (stepped walk place is) u)) refl (omega arith)
  tests around (New class arguments) walk place set is u = placed_test walk _ (same_test (looks_each around arguments (step walk) (place + 1) set (stepped walk place is) u)) refl (omega arith)
  tests around (NewArray kind sizes more) walk place set is u = placed_test walk _ (same_test (looks_each around sizes (step walk) (place + 1) set (stepped walk place is) u)) refl (omega arith)
  tests around (Binary operator left right) walk place set is u =
      tests_operator around (wanted_before operator) (constant_truth around (Binary operator left right)) left right (looks around left) (tests around left) (looks around right) (tests around right) walk place set is u
  tests around (Choice condition first second) walk place set is u =
      let one = test around condition (step walk) in
      let two = test around first one.walk in
      let x = tests around condition (step walk) (place + 1) set (stepped walk place is) u in
      let y = tests around first one.walk (place + 1 + weight_of_exp condition) (when around condition set).true x.walk.place x.walk.unassigned in
      let z = tests around second (from one.otherwise two.walk) (place + 1 + weight_of_exp condition + weight_of_exp first) (when around condition set).false y.walk.place x.otherwise in
      let f = when around first (when around condition set).true in
      let s = when around second (when around condition set).false in
      record {
        walk = placed walk _ _ (and_then x.walk (and_then y.walk (placed two.walk _ _ (meets two.walk.unassigned z.walk y.walk.unassigned) refl refl refl))) refl (omega arith) (meet_swap s.true f.true);
        otherwise = keeps_union y.otherwise z.otherwise;
      }
  tests around (Assign variable value) walk place set is u = placed_test walk _ (same_test (writes variable (looks around value (step walk) (place + 1) set (stepped walk place is) u))) refl (omega arith)
