-- A tree without `try`, made lawful, throws nothing more; nor does the body that is made of it.
use Rattle.std.proofs.Common.{ℕ, ◌+◌, Bool, true, false, List, [], ◌∷◌, ◌++◌, Option, Some, None, ◌≡◌, refl, sym, subst}
use Rattle.std.specs.Prelude.{if◌then◌else◌}
use Rattle.std.proofs.lemmas.Bool.{false≢true}
use Rattle.dj_names.specs.Headers.{Name}
use Rattle.dj_names.specs.Types.{JType, result_of}
use Rattle.dj_syntax.specs.Trees.{Exp, Text, Truth, Null, This, Variable, ClassOf, Field, Static, Element, Call, StaticCall, SuperCall, New, NewArray, Cast, InstanceOf, Negative, Not, Binary, Choice, Assign, Exps, NoExps, AndExp, Stm, Block, Labelled, Declare, Set, SetField, SetStatic, SetElement, Run, If, While, Switch, Break, Continue, Return, Throw, Rethrow, Try, Synchronized, Construct, Do, For, Finally, Stms, Empty, And, Groups, NoGroups, AndGroup}
use Rattle.dj_syntax.specs.Trees as trees
use Rattle.dj_syntax.specs.Weight.{weight_of, weight_of_exp, weight_of_stms}
use Rattle.dj_meaning.specs.StaticTypes.{Scope, with_type, plain, type_of, types_of}
use Rattle.dj_meaning.specs.Declarations.{declared, within, behind}
use Rattle.dj_places.specs.Constants.{Surroundings, constant_truth, is_always}
use Rattle.dj_places.specs.Surroundings.{around_body}
use Rattle.dj_places.specs.Rules.{Holds}
use Rattle.dj_reach.specs.Reach.{completes, list_completes}
use Rattle.dj_thrown.specs.declared.throwing.Throwing.{Throwing}
use Rattle.dj_thrown.specs.declared.throwing.Held.{Held}
use Rattle.dj_thrown.specs.Settings.{Setting, setting_in, context_of, around}
use Rattle.dj_thrown.specs.Listed.{object_listed, class_listed, super_listed, new_listed, construct_listed}
use Rattle.dj_thrown.specs.Throws.{thrown_at, throw_throws, exp_throws, exps_throw, option_throws, through, throws, list_throws, groups_throw}
use Rattle.dj_thrown.specs.Catching.{escaping, catching, list_catching, groups_catching}
use Rattle.dj_thrown.specs.Bodies.{scope_in}
use Rattle.dj_declare.specs.Lawful.{Declared, declared_then, lawful, all_lawful, lawful_groups, lost}
use Rattle.dj_declare.specs.Heads.{Head, headed, behind_heads}
use Rattle.dj_declare.specs.Declared.{is_plain_return, but_last, left_out}
use Rattle.dj_declare.specs.Initialisers.{wrapped}
use Rattle.dj_declare.specs.Escapes.{HasNoTry, HaveNoTry, GroupsHaveNoTry, AreQuiet, LawfulThrows, MadeThrows, ConstructorThrows, InitialiserThrows}
use Rattle.dj_declare.proofs.Reaching.{list_completes_on}
use Rattle.dj_declare.proofs.Typing.{same_declared, behind_all, lost_behind, declared_scope}

-- ---- no `try`

module _ (known : Surroundings) where
  declared_none : (more : List Declared) (list : Stms) → HaveNoTry list → HaveNoTry (declared_then more list)
  declared_none [] list n = n
  declared_none (one ∷ more) list n = (tt, declared_none more list n)

  cut_none : (b : Bool) (list : Stms) → HaveNoTry list → HaveNoTry (if b then list else Empty)
  cut_none true list n = n
  cut_none false list n = tt

  kept_none : (idle : Bool) (statement : Stm) → HasNoTry statement → HasNoTry (if idle then Block Empty else statement)
  kept_none true statement n = tt
  kept_none false statement n = n

  mutual
    none_on : (statement : Stm) → HasNoTry statement → HasNoTry (lawful known statement)
    none_on (Block list) n = list_none_on list n
    none_on (Labelled label statement) n = none_on statement n
    none_on (Declare variable kind initial) n = tt
    none_on (Set variable new) n = tt
    none_on (SetField object name new) n = tt
    none_on (SetStatic class name new) n = tt
    none_on (SetElement array index new) n = tt
    none_on (Run call) n = tt
    none_on (If test first second) n = (list_none_on first n.0, list_none_on second n.1)
    none_on (While test body) n = kept_none (is_always false (constant_truth known test)) (While test (all_lawful known body)) (list_none_on body n)
    none_on (Switch on groups) n = groups_none_on [] groups n
    none_on (Break label) n = tt
    none_on (Continue label) n = tt
    none_on (Return value) n = tt
    none_on (Throw exception) n = tt
    none_on (Rethrow variable) n = tt
    none_on (Try body clauses) n = absurd n
    none_on (Synchronized monitor body) n = list_none_on body n
    none_on (Construct own arguments) n = tt
    none_on (Do body test) n = list_none_on body n
    none_on (For test variable step body) n = kept_none (is_always false (constant_truth known test)) (For test variable step (all_lawful known body)) (list_none_on body n)
    none_on (Finally body last) n = (list_none_on body n.0, list_none_on last n.1)

    list_none_on : (list : Stms) → HaveNoTry list → HaveNoTry (all_lawful known list)
    list_none_on Empty n = tt
    list_none_on (And first rest) n = (none_on first n.0, cut_none (completes known None (lawful known first)) (all_lawful known rest) (list_none_on rest n.1))

    groups_none_on : (more : List Declared) (groups : Groups) → GroupsHaveNoTry groups → GroupsHaveNoTry (lawful_groups known more groups)
    groups_none_on more NoGroups n = tt
    groups_none_on more (AndGroup labels body rest) n = (declared_none more (all_lawful known body) (list_none_on body n.0), groups_none_on (lost known body) rest n.1)

heads_none : (heads : List Head) (list : Stms) → HaveNoTry list → HaveNoTry (headed heads list)
heads_none [] list n = n
heads_none (first ∷ rest) list n = (tt, heads_none rest list n)

but_none : (first : Stm) (rest : Stms) → HaveNoTry (And first rest) → HaveNoTry (but_last first rest)
but_none first Empty n = go (is_plain_return first)
  where
    go : (plain : Bool) → HaveNoTry (if plain then Empty else And first Empty)
    go true = tt
    go false = n
but_none first (And second rest) n = (n.0, but_none second rest n.1)

pub left_none : (result : Option JType) (list : Stms) → HaveNoTry list → HaveNoTry (left_out result list)
left_none None Empty n = tt
left_none None (And first rest) n = but_none first rest n
left_none (Some result) list n = n

wrapped_none : (known : Surroundings) (list : Stms) → HaveNoTry list → HaveNoTry (wrapped known list)
wrapped_none known list n = go (list_completes known list)
  where
    go : (b : Bool) → HaveNoTry (if b then list else And (If (Truth true) list Empty) Empty)
    go true = n
    go false = ((n, tt), tt)

-- where none stands, there is no rule on clauses
module _ (setting : Setting) (held : List Held) where
  mutual
    caught : (scope : Scope) (p : ℕ) (statement : Stm) → HasNoTry statement → Holds (catching setting held scope p statement)
    caught scope p (Block list) n = all_caught scope (p + 1) list n
    caught scope p (Labelled label statement) n = caught scope (p + 1) statement n
    caught scope p (Declare variable kind initial) n = tt
    caught scope p (Set variable new) n = tt
    caught scope p (SetField object name new) n = tt
    caught scope p (SetStatic class name new) n = tt
    caught scope p (SetElement array index new) n = tt
    caught scope p (Run call) n = tt
    caught scope p (If test first second) n = (all_caught scope (p + 1 + weight_of_exp test) first n.0, all_caught scope (p + 1 + weight_of_exp test + weight_of_stms first) second n.1)
    caught scope p (While test body) n = all_caught scope (p + 1 + weight_of_exp test) body n
    caught scope p (Switch on groups) n = groups_caught scope (p + 1 + weight_of_exp on) groups n
    caught scope p (Break label) n = tt
    caught scope p (Continue label) n = tt
    caught scope p (Return value) n = tt
    caught scope p (Throw exception) n = tt
    caught scope p (Rethrow variable) n = tt
    caught scope p (Try body clauses) n = absurd n
    caught scope p (Synchronized monitor body) n = all_caught scope (p + 1 + weight_of_exp monitor) body n
    caught scope p (Construct own arguments) n = tt
    caught scope p (Do body test) n = all_caught scope (p + 1) body n
    caught scope p (For test variable step body) n = all_caught scope (p + 1 + weight_of_exp test + weight_of_exp step) body n
    caught scope p (Finally body last) n = (all_caught scope (p + 1) body n.0, all_caught scope (p + 1 + weight_of_stms body) last n.1)

    all_caught : (scope : Scope) (p : ℕ) (list : Stms) → HaveNoTry list → Holds (list_catching setting held scope p list)
    all_caught scope p Empty n = tt
    all_caught scope p (And first rest) n = (caught scope p first n.0, all_caught (within (declared first) scope) (p + weight_of first) rest n.1)

    groups_caught : (scope : Scope) (p : ℕ) (groups : Groups) → GroupsHaveNoTry groups → Holds (groups_catching setting held scope p groups)
    groups_caught scope p NoGroups n = tt
    groups_caught scope p (AndGroup labels body rest) n = (all_caught scope p body n.0, groups_caught (behind body scope) (p + weight_of_stms body) rest n.1)

-- ---- what may escape

module _ (setting : Setting) (allowed : List Name) where
  -- each class that is thrown may
  abbrev pub May : List Throwing → Type 0
  May thrown = Holds (escaping setting.headers allowed thrown)

  pub both : (first second : List Throwing) → May first → May second → May (first ++ second)
  both [] second f s = s
  both (one ∷ rest) second f s = (f.0, both rest second f.1 s)

  parts : (first second : List Throwing) → May (first ++ second) → May first × May second
  parts [] second m = (tt, m)
  parts (one ∷ rest) second m = let inner = parts rest second m.1 in ((m.0, inner.0), inner.1)

  pub joined : (first before second behind : List Throwing) → (May first → May before) → (May second → May behind) → May (first ++ second) → May (before ++ behind)
  joined first before second behind f s m = let inner = parts first second m in both before behind (f inner.0) (s inner.1)

  -- the same at two places
  pub both_at : (first second : ℕ → List Throwing) (p q : ℕ) → (May (first p) → May (first q)) → (May (second p) → May (second q)) → May (first p ++ second p) → May (first q ++ second q)
  both_at first second p q f s m = joined (first p) (first q) (second p) (second q) f s m

  pub classes_at : (classes : List Name) (p q : ℕ) → May (thrown_at p classes) → May (thrown_at q classes)
  classes_at [] p q m = tt
  classes_at (class ∷ rest) p q m = (m.0, classes_at rest p q m.1)

  module _ (scope : Scope) where
    abbrev expressed : Exp → ℕ → List Throwing
    expressed exp place = exp_throws setting scope place exp

    mutual
      pub exp_may : (exp : Exp) (p q : ℕ) → May (exp_throws setting scope p exp) → May (exp_throws setting scope q exp)
      exp_may (trees.Int number) p q m = tt
      exp_may (trees.Long number) p q m = tt
      exp_may (Text units) p q m = tt
      exp_may (Truth known) p q m = tt
      exp_may Null p q m = tt
      exp_may This p q m = tt
      exp_may (Variable variable) p q m = tt
      exp_may (ClassOf kind) p q m = tt
      exp_may (Field object name) p q m = exp_may object (p + 1) (q + 1) m
      exp_may (Static class name) p q m = tt
      exp_may (Element array index) p q m =
          both_at (λ n. exp_throws setting scope (n + 1) array) (λ n. exp_throws setting scope (n + 1 + weight_of_exp array) index) p q
          (exp_may array (p + 1) (q + 1)) (exp_may index (p + 1 + weight_of_exp array) (q + 1 + weight_of_exp array)) m
      exp_may (Call object name arguments) p q m =
          let classes = object_listed setting name (plain (type_of (context_of setting) scope object)) (types_of (context_of setting) scope arguments) in
          both_at (λ n. thrown_at n classes) (λ n. exp_throws setting scope (n + 1) object ++ exps_throw setting scope (n + 1 + weight_of_exp object) arguments) p q (classes_at classes p q)
          (both_at (λ n. exp_throws setting scope (n + 1) object) (λ n. exps_throw setting scope (n + 1 + weight_of_exp object) arguments) p q
          (exp_may object (p + 1) (q + 1)) (exps_may arguments (p + 1 + weight_of_exp object) (q + 1 + weight_of_exp object))) m
      exp_may (StaticCall class name arguments) p q m =
          let classes = class_listed setting class name (types_of (context_of setting) scope arguments) in
          both_at (λ n. thrown_at n classes) (λ n. exps_throw setting scope (n + 1) arguments) p q (classes_at classes p q) (exps_may arguments (p + 1) (q + 1)) m
      exp_may (SuperCall above name arguments) p q m =
          let classes = super_listed setting above name (types_of (context_of setting) scope arguments) in
          both_at (λ n. thrown_at n classes) (λ n. exps_throw setting scope (n + 1) arguments) p q (classes_at classes p q) (exps_may arguments (p + 1) (q + 1)) m
      exp_may (New class arguments) p q m =
          let classes = new_listed setting class (types_of (context_of setting) scope arguments) in
          both_at (λ n. thrown_at n classes) (λ n. exps_throw setting scope (n + 1) arguments) p q (classes_at classes p q) (exps_may arguments (p + 1) (q + 1)) m
      exp_may (NewArray kind sizes more) p q m = exps_may sizes (p + 1) (q + 1) m
      exp_may (Cast kind operand) p q m = exp_may operand (p + 1) (q + 1) m
      exp_may (InstanceOf operand kind) p q m = exp_may operand (p + 1) (q + 1) m
      exp_may (Negative operand) p q m = exp_may operand (p + 1) (q + 1) m
      exp_may (Not operand) p q m = exp_may operand (p + 1) (q + 1) m
      exp_may (Binary operator left right) p q m =
          both_at (λ n. exp_throws setting scope (n + 1) left) (λ n. exp_throws setting scope (n + 1 + weight_of_exp left) right) p q
          (exp_may left (p + 1) (q + 1)) (exp_may right (p + 1 + weight_of_exp left) (q + 1 + weight_of_exp left)) m
      exp_may (Choice test first second) p q m =
          both_at (λ n. exp_throws setting scope (n + 1) test)
          (λ n. exp_throws setting scope (n + 1 + weight_of_exp test) first ++ exp_throws setting scope (n + 1 + weight_of_exp test + weight_of_exp first) second) p q (exp_may test (p + 1) (q + 1))
          (both_at (λ n. exp_throws setting scope (n + 1 + weight_of_exp test) first) (λ n. exp_throws setting scope (n + 1 + weight_of_exp test + weight_of_exp first) second) p q
          (exp_may first (p + 1 + weight_of_exp test) (q + 1 + weight_of_exp test))
          (exp_may second (p + 1 + weight_of_exp test + weight_of_exp first) (q + 1 + weight_of_exp test + weight_of_exp first))) m
      exp_may (Assign variable new) p q m = exp_may new (p + 1) (q + 1) m

      pub exps_may : (exps : Exps) (p q : ℕ) → May (exps_throw setting scope p exps) → May (exps_throw setting scope q exps)
      exps_may NoExps p q m = tt
      exps_may (AndExp first rest) p q m =
          both_at (λ n. exp_throws setting scope n first) (λ n. exps_throw setting scope (n + weight_of_exp first) rest) p q (exp_may first p q) (exps_may rest (p + weight_of_exp first) (q + weight_of_exp first)) m

    pub option_may : (exp : Option Exp) (p q : ℕ) → May (option_throws setting scope p exp) → May (option_throws setting scope q exp)
    option_may None p q m = tt
    option_may (Some exp) p q m = exp_may exp p q m

  -- ---- statements

  module _ (held : List Held) where
    cut_may : (scope : Scope) (q : ℕ) (list : Stms) (b : Bool) → May (list_throws setting held scope q list) → May (list_throws setting held scope q (if b then list else Empty))
    cut_may scope q list true m = m
    cut_may scope q list false m = tt

    kept_may : (scope : Scope) (q : ℕ) (statement : Stm) (idle : Bool) → May (throws setting held scope q statement) → May (throws setting held scope q (if idle then Block Empty else statement))
    kept_may scope q statement true m = tt
    kept_may scope q statement false m = m

    declared_may : (scope : Scope) (q : ℕ) (more : List Declared) (list : Stms) → ((other : ℕ) → May (list_throws setting held (behind_all more scope) other list)) → May (list_throws setting held scope q (declared_then more list))
    declared_may scope q [] list h = h q
    declared_may scope q (one ∷ more) list h = declared_may (with_type one.0 one.1 scope) (q + weight_of (Declare one.0 one.1 None)) more list h

    pub through_may : (first second : Bool) (one other : List Throwing) → (second ≡ true → first ≡ true) → (May one → May other) → May (through first one) → May (through second other)
    through_may true true one other e f m = f m
    through_may true false one other e f m = tt
    through_may false true one other e f m = absurd (false≢true (e refl))
    through_may false false one other e f m = tt

    mutual
      may_on : (scope : Scope) (p q : ℕ) (statement : Stm) → HasNoTry statement → May (throws setting held scope p statement) → May (throws setting held scope q (lawful (around setting) statement))
      may_on scope p q (Block list) n m = all_may_on scope (p + 1) (q + 1) list n m
      may_on scope p q (Labelled label statement) n m = may_on scope (p + 1) (q + 1) statement n m
      may_on scope p q (Declare variable kind initial) n m = option_may (with_type variable kind scope) initial (p + 1) (q + 1) m
      may_on scope p q (Set variable new) n m = exp_may scope new (p + 1) (q + 1) m
      may_on scope p q (SetField object name new) n m =
          both_at (λ n. exp_throws setting scope (n + 1) object) (λ n. exp_throws setting scope (n + 1 + weight_of_exp object) new) p q
          (exp_may scope object (p + 1) (q + 1)) (exp_may scope new (p + 1 + weight_of_exp object) (q + 1 + weight_of_exp object)) m
      may_on scope p q (SetStatic class name new) n m = exp_may scope new (p + 1) (q + 1) m
      may_on scope p q (SetElement array index new) n m =
          both_at (λ n. exp_throws setting scope (n + 1) array)
          (λ n. exp_throws setting scope (n + 1 + weight_of_exp array) index ++ exp_throws setting scope (n + 1 + weight_of_exp array + weight_of_exp index) new) p q (exp_may scope array (p + 1) (q + 1))
          (both_at (λ n. exp_throws setting scope (n + 1 + weight_of_exp array) index) (λ n. exp_throws setting scope (n + 1 + weight_of_exp array + weight_of_exp index) new) p q
          (exp_may scope index (p + 1 + weight_of_exp array) (q + 1 + weight_of_exp array))
          (exp_may scope new (p + 1 + weight_of_exp array + weight_of_exp index) (q + 1 + weight_of_exp array + weight_of_exp index))) m
      may_on scope p q (Run call) n m = exp_may scope call (p + 1) (q + 1) m
      may_on scope p q (If test first second) n m =
          joined (exp_throws setting scope (p + 1) test) (exp_throws setting scope (q + 1) test)
          (list_throws setting held scope (p + 1 + weight_of_exp test) first ++ list_throws setting held scope (p + 1 + weight_of_exp test + weight_of_stms first) second)
          (list_throws setting held scope (q + 1 + weight_of_exp test) (all_lawful (around setting) first)
          ++ list_throws setting held scope (q + 1 + weight_of_exp test + weight_of_stms (all_lawful (around setting) first)) (all_lawful (around setting) second))
          (exp_may scope test (p + 1) (q + 1))
          (joined (list_throws setting held scope (p + 1 + weight_of_exp test) first) (list_throws setting held scope (q + 1 + weight_of_exp test) (all_lawful (around setting) first))
          (list_throws setting held scope (p + 1 + weight_of_exp test + weight_of_stms first) second)
          (list_throws setting held scope (q + 1 + weight_of_exp test + weight_of_stms (all_lawful (around setting) first)) (all_lawful (around setting) second))
          (all_may_on scope (p + 1 + weight_of_exp test) (q + 1 + weight_of_exp test) first n.0)
          (all_may_on scope (p + 1 + weight_of_exp test + weight_of_stms first) (q + 1 + weight_of_exp test + weight_of_stms (all_lawful (around setting) first)) second n.1)) m
      may_on scope p q (While test body) n m =
          kept_may scope q (While test (all_lawful (around setting) body)) (is_always false (constant_truth (around setting) test))
          (joined (exp_throws setting scope (p + 1) test) (exp_throws setting scope (q + 1) test) (list_throws setting held scope (p + 1 + weight_of_exp test) body)
          (list_throws setting held scope (q + 1 + weight_of_exp test) (all_lawful (around setting) body)) (exp_may scope test (p + 1) (q + 1))
          (all_may_on scope (p + 1 + weight_of_exp test) (q + 1 + weight_of_exp test) body n) m)
      may_on scope p q (Switch on groups) n m =
          joined (exp_throws setting scope (p + 1) on) (exp_throws setting scope (q + 1) on) (groups_throw setting held scope (p + 1 + weight_of_exp on) groups)
          (groups_throw setting held scope (q + 1 + weight_of_exp on) (lawful_groups (around setting) [] groups)) (exp_may scope on (p + 1) (q + 1))
          (groups_may_on scope [] (p + 1 + weight_of_exp on) (q + 1 + weight_of_exp on) groups n) m
      may_on scope p q (Break label) n m = tt
      may_on scope p q (Continue label) n m = tt
      may_on scope p q (Return value) n m = option_may scope value (p + 1) (q + 1) m
      may_on scope p q (Throw exception) n m =
          both_at (λ n. thrown_at n (throw_throws setting held scope exception)) (λ n. exp_throws setting scope (n + 1) exception) p q (classes_at (throw_throws setting held scope exception) p q)
          (exp_may scope exception (p + 1) (q + 1)) m
      may_on scope p q (Rethrow variable) n m = tt
      may_on scope p q (Try body clauses) n m = absurd n
      may_on scope p q (Synchronized monitor body) n m =
          joined (exp_throws setting scope (p + 1) monitor) (exp_throws setting scope (q + 1) monitor) (list_throws setting held scope (p + 1 + weight_of_exp monitor) body)
          (list_throws setting held scope (q + 1 + weight_of_exp monitor) (all_lawful (around setting) body)) (exp_may scope monitor (p + 1) (q + 1))
          (all_may_on scope (p + 1 + weight_of_exp monitor) (q + 1 + weight_of_exp monitor) body n) m
      may_on scope p q (Construct own arguments) n m =
          let classes = construct_listed setting own (types_of (context_of setting) scope arguments) in
          both_at (λ n. thrown_at n classes) (λ n. exps_throw setting scope (n + 1) arguments) p q (classes_at classes p q) (exps_may scope arguments (p + 1) (q + 1)) m
      may_on scope p q (Do body test) n m =
          joined (list_throws setting held scope (p + 1) body) (list_throws setting held scope (q + 1) (all_lawful (around setting) body)) (exp_throws setting scope (p + 1 + weight_of_stms body) test)
          (exp_throws setting scope (q + 1 + weight_of_stms (all_lawful (around setting) body)) test) (all_may_on scope (p + 1) (q + 1) body n)
          (exp_may scope test (p + 1 + weight_of_stms body) (q + 1 + weight_of_stms (all_lawful (around setting) body))) m
      may_on scope p q (For test variable step body) n m =
          kept_may scope q (For test variable step (all_lawful (around setting) body)) (is_always false (constant_truth (around setting) test))
          (joined (exp_throws setting scope (p + 1) test) (exp_throws setting scope (q + 1) test)
          (exp_throws setting scope (p + 1 + weight_of_exp test) step ++ list_throws setting held scope (p + 1 + weight_of_exp test + weight_of_exp step) body)
          (exp_throws setting scope (q + 1 + weight_of_exp test) step ++ list_throws setting held scope (q + 1 + weight_of_exp test + weight_of_exp step) (all_lawful (around setting) body))
          (exp_may scope test (p + 1) (q + 1))
          (joined (exp_throws setting scope (p + 1 + weight_of_exp test) step) (exp_throws setting scope (q + 1 + weight_of_exp test) step)
          (list_throws setting held scope (p + 1 + weight_of_exp test + weight_of_exp step) body)
          (list_throws setting held scope (q + 1 + weight_of_exp test + weight_of_exp step) (all_lawful (around setting) body))
          (exp_may scope step (p + 1 + weight_of_exp test) (q + 1 + weight_of_exp test))
          (all_may_on scope (p + 1 + weight_of_exp test + weight_of_exp step) (q + 1 + weight_of_exp test + weight_of_exp step) body n)) m)
      may_on scope p q (Finally body last) n m =
          joined (through (list_completes (around setting) last) (list_throws setting held scope (p + 1) body))
          (through (list_completes (around setting) (all_lawful (around setting) last)) (list_throws setting held scope (q + 1) (all_lawful (around setting) body)))
          (list_throws setting held scope (p + 1 + weight_of_stms body) last)
          (list_throws setting held scope (q + 1 + weight_of_stms (all_lawful (around setting) body)) (all_lawful (around setting) last))
          (through_may (list_completes (around setting) last) (list_completes (around setting) (all_lawful (around setting) last)) (list_throws setting held scope (p + 1) body)
          (list_throws setting held scope (q + 1) (all_lawful (around setting) body)) (list_completes_on (around setting) last) (all_may_on scope (p + 1) (q + 1) body n.0))
          (all_may_on scope (p + 1 + weight_of_stms body) (q + 1 + weight_of_stms (all_lawful (around setting) body)) last n.1) m

      all_may_on : (scope : Scope) (p q : ℕ) (list : Stms) → HaveNoTry list → May (list_throws setting held scope p list) → May (list_throws setting held scope q (all_lawful (around setting) list))
      all_may_on scope p q Empty n m = tt
      all_may_on scope p q (And first rest) n m =
          let made = lawful (around setting) first in
          let goes = completes (around setting) None made in
          joined (throws setting held scope p first) (throws setting held scope q made) (list_throws setting held (within (declared first) scope) (p + weight_of first) rest)
          (list_throws setting held (within (declared made) scope) (q + weight_of made) (if goes then all_lawful (around setting) rest else Empty)) (may_on scope p q first n.0)
          (λ r. subst (λ one. May (list_throws setting held (within one scope) (q + weight_of made) (if goes then all_lawful (around setting) rest else Empty))) (sym (same_declared (around setting) first))
          (cut_may (within (declared first) scope) (q + weight_of made) (all_lawful (around setting) rest) goes (all_may_on (within (declared first) scope) (p + weight_of first) (q + weight_of made) rest n.1 r))) m

      groups_may_on : (scope : Scope) (more : List Declared) (p q : ℕ) (groups : Groups) → GroupsHaveNoTry groups → May (groups_throw setting held (behind_all more scope) p groups)
          → May (groups_throw setting held scope q (lawful_groups (around setting) more groups))
      groups_may_on scope more p q NoGroups n m = tt
      groups_may_on scope more p q (AndGroup labels body rest) n m =
          let made = declared_then more (all_lawful (around setting) body) in
          let inner = behind_all more scope in
          joined (list_throws setting held inner p body) (list_throws setting held scope q made) (groups_throw setting held (behind body inner) (p + weight_of_stms body) rest)
          (groups_throw setting held (behind made scope) (q + weight_of_stms made) (lawful_groups (around setting) (lost (around setting) body) rest))
          (λ r. declared_may scope q more (all_lawful (around setting) body) (λ other. all_may_on inner p other body n.0 r))
          (λ r. subst (λ within_it. May (groups_throw setting held within_it (q + weight_of_stms made) (lawful_groups (around setting) (lost (around setting) body) rest))) (sym (declared_scope more (all_lawful (around setting) body) scope))
          (groups_may_on (behind (all_lawful (around setting) body) inner) (lost (around setting) body) (p + weight_of_stms body) (q + weight_of_stms made) rest n.1
          (subst (λ within_it. May (groups_throw setting held within_it (p + weight_of_stms body) rest)) (sym (lost_behind (around setting) body inner)) r))) m

    -- ---- bodies

    heads_may : (heads : List Head) (list : Stms) (scope : Scope) (p : ℕ) → AreQuiet setting scope heads → ((q : ℕ) → May (list_throws setting held (behind_heads heads scope) q list))
        → May (list_throws setting held scope p (headed heads list))
    heads_may [] list scope p quiet h = h p
    heads_may (first ∷ rest) list scope p quiet h =
        let inner = with_type first.variable first.type scope in
        let next = p + weight_of (Declare first.variable first.type (Some first.initial)) in
        subst (λ thrown. May (thrown ++ list_throws setting held inner next (headed rest list))) (sym (quiet.0 (p + 1))) (heads_may rest list inner next quiet.1 h)

    but_may : (scope : Scope) (p : ℕ) (first : Stm) (rest : Stms) → May (list_throws setting held scope p (And first rest)) → May (list_throws setting held scope p (but_last first rest))
    but_may scope p first Empty m = go (is_plain_return first)
      where
        go : (plain : Bool) → May (list_throws setting held scope p (if plain then Empty else And first Empty))
        go true = tt
        go false = m
    but_may scope p first (And second rest) m =
        let inner = within (declared first) scope in
        joined (throws setting held scope p first) (throws setting held scope p first) (list_throws setting held inner (p + weight_of first) (And second rest))
        (list_throws setting held inner (p + weight_of first) (but_last second rest)) (λ r. r) (but_may inner (p + weight_of first) second rest) m

    pub left_may : (scope : Scope) (p : ℕ) (result : Option JType) (list : Stms) → May (list_throws setting held scope p list) → May (list_throws setting held scope p (left_out result list))
    left_may scope p None Empty m = tt
    left_may scope p None (And first rest) m = but_may scope p first rest m
    left_may scope p (Some result) list m = m

    wrapped_may : (scope : Scope) (q : ℕ) (list : Stms) → ((other : ℕ) → May (list_throws setting held scope other list)) → May (list_throws setting held scope q (wrapped (around setting) list))
    wrapped_may scope q list h = go (list_completes (around setting) list)
      where
        go : (b : Bool) → May (list_throws setting held scope q (if b then list else And (If (Truth true) list Empty) Empty))
        go true = h q
        go false =
            let thrown = list_throws setting held scope (q + 1 + weight_of_exp (Truth true)) list in
            both (thrown ++ []) [] (both thrown [] (h (q + 1 + weight_of_exp (Truth true))) tt) tt

pub lawful_throws : LawfulThrows
lawful_throws setting allowed held scope place other list none m = all_may_on setting allowed held scope place other list none m

pub made_throws : MadeThrows
made_throws headers members method heads tree none quiet m =
    let setting = setting_in headers members method in
    let known = around_body headers members method in
    let result = result_of method.descriptor in
    let list = left_out result (all_lawful known tree) in (
      all_caught setting [] (scope_in method) 0 (headed heads list) (heads_none heads list (left_none result (all_lawful known tree) (list_none_on known tree none))),
      heads_may setting method.thrown [] heads list (scope_in method) 0 quiet (λ q.
          left_may setting method.thrown [] (behind_heads heads (scope_in method)) q result (all_lawful known tree) (all_may_on setting method.thrown [] (behind_heads heads (scope_in method)) 0 q tree none m)),
    )

pub constructor_throws : ConstructorThrows
constructor_throws headers members method own arguments heads rest none quiet c m =
    let setting = setting_in headers members method in
    let known = around_body headers members method in
    let list = left_out None (all_lawful known rest) in
    let next = 0 + weight_of (Construct own arguments) in (
      (tt, all_caught setting [] (scope_in method) next (headed heads list) (heads_none heads list (left_none None (all_lawful known rest) (list_none_on known rest none)))),
      both setting method.thrown (throws setting [] (scope_in method) 0 (Construct own arguments)) (list_throws setting [] (scope_in method) next (headed heads list)) c
          (heads_may setting method.thrown [] heads list (scope_in method) next quiet (λ q.
          left_may setting method.thrown [] (behind_heads heads (scope_in method)) q None (all_lawful known rest) (all_may_on setting method.thrown [] (behind_heads heads (scope_in method)) 0 q rest none m))),
    )

pub initialiser_throws : InitialiserThrows
initialiser_throws headers members method heads list none quiet m =
    let setting = setting_in headers members method in
    let known = around_body headers members method in
    let made = wrapped known (all_lawful known list) in (
      all_caught setting [] (scope_in method) 0 (headed heads made) (heads_none heads made (wrapped_none known (all_lawful known list) (list_none_on known list none))),
      heads_may setting method.thrown [] heads made (scope_in method) 0 quiet (λ q.
          wrapped_may setting method.thrown [] (behind_heads heads (scope_in method)) q (all_lawful known list) (λ other. all_may_on setting method.thrown [] (behind_heads heads (scope_in method)) 0 other list none m)),
    )
