-- Where each variable is assigned, expressions read what is assigned, and so they do where only those are that they name.
use Rattle.std.proofs.Common.{ℕ, ◌+◌, ◌<◌, ◌≤◌, Bool, true, false, not, Option, Some, None, ◌≡◌, refl, sym, ap, ◌∙◌, arith}
use Rattle.std.specs.Prelude.{◌==◌, ◌&&◌, ◌||◌, if◌then◌else◌}
use Rattle.dj_syntax.specs.declared.variable.Var.{Var}
use Rattle.dj_syntax.specs.Trees.{Exp, Text, Truth, This, Variable, ClassOf, Field, Static, Element, Call, StaticCall, SuperCall, New, NewArray, Cast, InstanceOf, Negative, Not, Binary, Choice, Assign, Exps, NoExps, AndExp, Stm, Set, Declare}
use Rattle.dj_syntax.specs.Trees as trees
use Rattle.dj_syntax.specs.Weight.{weight_of_exp}
use Rattle.dj_meaning.specs.StaticTypes.{is_same_variable}
use Rattle.dj_meaning.specs.Variables.{EachInExp, EachInExps}
use Rattle.dj_places.specs.Constants.{Surroundings}
use Rattle.dj_places.specs.Rules.{Holds}
use Rattle.dj_variables.specs.Sets as sets
use Rattle.dj_variables.specs.Sets.{everything, with, without}
use Rattle.dj_conditions.specs.Conditions.{When, wanted_before, when, after_each, after_exp}
use Rattle.dj_conditions.specs.Reads.{before_right, reads, reads_each}
use Rattle.dj_assigned.specs.Assigned.{after, after_first, stm_reads}
use Rattle.dj_formed.proofs.Named.{map_exp, map_exps}
use Rattle.dj_held.proofs.AssignedSets.{Inside, More, meets, inside_same, beyond, grown, exp_grown}
use Rattle.dj_rebuilding.specs.Pending.{fresh, IsPlain, set_field, set_static, set_element, call, static_call, super_call, birth, throw, return_value, return_nothing, leave}
use Rattle.dj_rebuilding.specs.Agreeing.{IsBelow}
use Rattle.dj_rebuilding.proofs.Names.{below-fresh, both-true}
use Rattle.dj_blocks_formed.specs.Ruled.{IsFull}

-- each variable of an expression is in a set
abbrev pub AllIn : sets.Set → Exp → Type 0
AllIn set exp = EachInExp (λ variable. set variable ≡ true) exp

abbrev pub AllInEach : sets.Set → Exps → Type 0
AllInEach set exps = EachInExps (λ variable. set variable ≡ true) exps

module _ (around : Surroundings) where
  -- what is assigned stays so behind an expression
  further : (set : sets.Set) (first : Exp) (exp : Exp) → AllIn set exp → AllIn (after_exp around first set) exp
  further set first exp n = map_exp (λ variable is. (exp_grown around set first).at variable is) exp n

  all_further : (set : sets.Set) (first : Exp) (exps : Exps) → AllInEach set exps → AllInEach (after_exp around first set) exps
  all_further set first exps n = map_exps (λ variable is. (exp_grown around set first).at variable is) exps n

  -- and behind the test of another
  if-true : (set : sets.Set) (test exp : Exp) → AllIn set exp → AllIn (when around test set).true exp
  if-true set test exp n = map_exp (λ variable is. (grown around set test).true.at variable is) exp n

  if-false : (set : sets.Set) (test exp : Exp) → AllIn set exp → AllIn (when around test set).false exp
  if-false set test exp n = map_exp (λ variable is. (grown around set test).false.at variable is) exp n

  right : (set : sets.Set) (left exp : Exp) (wanted : Option Bool) → AllIn set exp → AllIn (before_right wanted (when around left set)) exp
  right set left exp None n = further set left exp n
  right set left exp (Some true) n = if-true set left exp n
  right set left exp (Some false) n = if-false set left exp n

  mutual
    -- an expression reads what is assigned, where each variable is that it names
    pub reads-there : (set : sets.Set) (p : ℕ) (exp : Exp) → AllIn set exp → Holds (reads around set p exp)
    reads-there set p (trees.Int number) n = tt
    reads-there set p (trees.Long number) n = tt
    reads-there set p (Text units) n = tt
    reads-there set p (Truth known) n = tt
    reads-there set p trees.Null n = tt
    reads-there set p This n = tt
    reads-there set p (Variable variable) n = n
    reads-there set p (ClassOf kind) n = tt
    reads-there set p (Field object name) n = reads-there set (p + 1) object n
    reads-there set p (Static class name) n = tt
    reads-there set p (Element array index) n = (reads-there set (p + 1) array n.0, reads-there (after_exp around array set) (p + 1 + weight_of_exp array) index (further set array index n.1))
    reads-there set p (Call object name arguments) n =
        (reads-there set (p + 1) object n.0, all-reads-there (after_exp around object set) (p + 1 + weight_of_exp object) arguments (all_further set object arguments n.1))
    reads-there set p (StaticCall class name arguments) n = all-reads-there set (p + 1) arguments n
    reads-there set p (SuperCall above name arguments) n = all-reads-there set (p + 1) arguments n
    reads-there set p (New class arguments) n = all-reads-there set (p + 1) arguments n
    reads-there set p (NewArray kind sizes more) n = all-reads-there set (p + 1) sizes n
    reads-there set p (Cast kind operand) n = reads-there set (p + 1) operand n
    reads-there set p (InstanceOf operand kind) n = reads-there set (p + 1) operand n
    reads-there set p (Negative operand) n = reads-there set (p + 1) operand n
    reads-there set p (Not operand) n = reads-there set (p + 1) operand n
    reads-there set p (Binary operator left other) n =
        (reads-there set (p + 1) left n.0, reads-there (before_right (wanted_before operator) (when around left set)) (p + 1 + weight_of_exp left) other (right set left other (wanted_before operator) n.1))
    reads-there set p (Choice test first second) n = (
      reads-there set (p + 1) test n.0,
      (
        reads-there (when around test set).true (p + 1 + weight_of_exp test) first (if-true set test first n.1),
        reads-there (when around test set).false (p + 1 + weight_of_exp test + weight_of_exp first) second (if-false set test second n.2),
      ),
    )
    reads-there set p (Assign variable new) n = reads-there set (p + 1) new n.1

    pub all-reads-there : (set : sets.Set) (p : ℕ) (exps : Exps) → AllInEach set exps → Holds (reads_each around set p exps)
    all-reads-there set p NoExps n = tt
    all-reads-there set p (AndExp first rest) n = (reads-there set p first n.0, all-reads-there (after_exp around first set) (p + weight_of_exp first) rest (all_further set first rest n.1))

-- ---- where each is assigned

module _ (set : sets.Set) (full : IsFull set) where
  mutual
    each-in : (exp : Exp) → AllIn set exp
    each-in (trees.Int number) = tt
    each-in (trees.Long number) = tt
    each-in (Text units) = tt
    each-in (Truth known) = tt
    each-in trees.Null = tt
    each-in This = tt
    each-in (Variable variable) = full variable
    each-in (ClassOf kind) = tt
    each-in (Field object name) = each-in object
    each-in (Static class name) = tt
    each-in (Element array index) = (each-in array, each-in index)
    each-in (Call object name arguments) = (each-in object, all-in arguments)
    each-in (StaticCall class name arguments) = all-in arguments
    each-in (SuperCall above name arguments) = all-in arguments
    each-in (New class arguments) = all-in arguments
    each-in (NewArray kind sizes more) = all-in sizes
    each-in (Cast kind operand) = each-in operand
    each-in (InstanceOf operand kind) = each-in operand
    each-in (Negative operand) = each-in operand
    each-in (Not operand) = each-in operand
    each-in (Binary operator left other) = (each-in left, each-in other)
    each-in (Choice test first second) = (each-in test, each-in first, each-in second)
    each-in (Assign variable new) = (full variable, each-in new)

    all-in : (exps : Exps) → AllInEach set exps
    all-in NoExps = tt
    all-in (AndExp first rest) = (each-in first, all-in rest)

  pub full-reads : (around : Surroundings) (p : ℕ) (exp : Exp) → Holds (reads around set p exp)
  full-reads around p exp = reads-there around set p exp (each-in exp)

  pub full-behind : (around : Surroundings) (exp : Exp) → IsFull (after_exp around exp set)
  full-behind around exp variable = (exp_grown around set exp).at variable (full variable)

  pub full-true : (around : Surroundings) (exp : Exp) → IsFull (when around exp set).true
  full-true around exp variable = (grown around set exp).true.at variable (full variable)

  pub full-false : (around : Surroundings) (exp : Exp) → IsFull (when around exp set).false
  full-false around exp variable = (grown around set exp).false.at variable (full variable)

-- the variable that is declared may be put aside, where the first value doesn't name it
pub declared-reads : (around : Surroundings) (set : sets.Set) → IsFull set → (k : ℕ) (p : ℕ) (exp : Exp) → EachInExp (IsBelow k) exp → Holds (reads around (without (fresh k) set) p exp)
declared-reads around set full k p exp small =
    reads-there around (without (fresh k) set) p exp
    (map_exp (λ variable below. both-true (not (is_same_variable variable (fresh k))) (set variable) (ap not (below-fresh k k variable (omega arith) below)) (full variable)) exp small)

-- and behind the declaration it is assigned again
pub declared-full : (around : Surroundings) (set : sets.Set) → IsFull set → (variable : Var) (exp : Exp) → IsFull (after_first around variable (Some exp) set)
declared-full around set full variable exp other = by (is_same_variable other variable) refl
  where
    by : (test : Bool) → is_same_variable other variable ≡ test → after_first around variable (Some exp) set other ≡ true
    by true e = ap (λ is. is || after_exp around exp (without variable set) other) e
    by false e =
        ap (λ is. is || after_exp around exp (without variable set) other) e
        ∙ (exp_grown around (without variable set) exp).at other (ap (λ is. not is && set other) e ∙ full other)

-- ---- plain statements

pub plain-reads : (around : Surroundings) (statement : Stm) → IsPlain statement → (set : sets.Set) → IsFull set → (p : ℕ) → Holds (stm_reads around None set p statement)
plain-reads around statement (set_field {object} {new}) set full p =
    (full-reads set full around (p + 1) object, full-reads (after_exp around object set) (full-behind set full around object) around (p + 1 + weight_of_exp object) new)
plain-reads around statement (set_static {new = new}) set full p = full-reads set full around (p + 1) new
plain-reads around statement (set_element {array} {index} {new}) set full p = (
  full-reads set full around (p + 1) array,
  (
    full-reads (after_exp around array set) (full-behind set full around array) around (p + 1 + weight_of_exp array) index,
    full-reads (after_exp around index (after_exp around array set)) (full-behind (after_exp around array set) (full-behind set full around array) around index) around (p + 1 + weight_of_exp array + weight_of_exp index) new,
  ),
)
plain-reads around statement (call {object} {name} {arguments}) set full p = full-reads set full around (p + 1) (Call object name arguments)
plain-reads around statement (static_call {class} {name} {arguments}) set full p = full-reads set full around (p + 1) (StaticCall class name arguments)
plain-reads around statement (super_call {above} {name} {arguments}) set full p = full-reads set full around (p + 1) (SuperCall above name arguments)
plain-reads around statement (birth {class} {arguments}) set full p = full-reads set full around (p + 1) (New class arguments)
plain-reads around statement (throw {exception}) set full p = full-reads set full around (p + 1) exception
plain-reads around statement (return_value {result}) set full p = full-reads set full around (p + 1) result
plain-reads around statement return_nothing set full p = tt
plain-reads around statement leave set full p = tt

pub plain-full : (around : Surroundings) (statement : Stm) → IsPlain statement → (set : sets.Set) → IsFull set → IsFull (after around None statement set)
plain-full around statement (set_field {object} {new}) set full = full-behind (after_exp around object set) (full-behind set full around object) around new
plain-full around statement (set_static {new = new}) set full = full-behind set full around new
plain-full around statement (set_element {array} {index} {new}) set full =
    full-behind (after_exp around index (after_exp around array set)) (full-behind (after_exp around array set) (full-behind set full around array) around index) around new
plain-full around statement (call {object} {name} {arguments}) set full = full-behind set full around (Call object name arguments)
plain-full around statement (static_call {class} {name} {arguments}) set full = full-behind set full around (StaticCall class name arguments)
plain-full around statement (super_call {above} {name} {arguments}) set full = full-behind set full around (SuperCall above name arguments)
plain-full around statement (birth {class} {arguments}) set full = full-behind set full around (New class arguments)
plain-full around statement (throw {exception}) set full = λ variable. refl
plain-full around statement (return_value {result}) set full = λ variable. refl
plain-full around statement return_nothing set full = λ variable. refl
plain-full around statement leave set full = λ variable. refl

-- ---- assignments

pub set-full : (around : Surroundings) (target : Var) (new : Exp) (set : sets.Set) → IsFull set → IsFull (after around None (Set target new) set)
set-full around target new set full variable = by (is_same_variable variable target) refl
  where
    by : (test : Bool) → is_same_variable variable target ≡ test → after around None (Set target new) set variable ≡ true
    by true e = ap (λ is. is || after_exp around new set variable) e
    by false e = ap (λ is. is || after_exp around new set variable) e ∙ full-behind set full around new variable
