-- Other names keep what is thrown and caught.
use Rattle.std.proofs.Common.{ℕ, ◌+◌, Bool, true, false, List, [], ◌∷◌, ◌++◌, Option, Some, None, option_and_then, ◌≡◌, refl, sym, ap, ◌∙◌, ◌&&◌, ◌||◌}
use Rattle.std.specs.Prelude.{if◌then◌else◌}
use Rattle.dj_names.specs.Headers.{Name}
use Rattle.dj_names.specs.Types.{JType, Class}
use Rattle.dj_syntax.specs.declared.variable.Var.{Var}
use Rattle.dj_syntax.specs.Trees.{Exp, Text, Truth, Null, This, Variable, ClassOf, Field, Static, Element, Call, StaticCall, SuperCall, New, NewArray, Cast, InstanceOf, Negative, Not, Binary, Choice, Assign, Exps, NoExps, AndExp, Stm, Block, Labelled, Declare, Set, SetField, SetStatic, SetElement, Run, If, While, Switch, Break, Continue, Return, Throw, Rethrow, Try, Synchronized, Construct, Do, For, Finally, Stms, Empty, And, Groups, NoGroups, AndGroup, Catches, NoCatches, AndCatch}
use Rattle.dj_syntax.specs.Trees as trees
use Rattle.dj_syntax.specs.Weight.{weight_of_exp, weight_of_stms}
use Rattle.dj_meaning.specs.StaticTypes.{Scope, is_same_variable, with_type, plain, type_of, types_of}
use Rattle.dj_meaning.specs.Declarations.{declared, within, behind}
use Rattle.dj_places.specs.Rules.{Rule, ◌and◌}
use Rattle.dj_places.specs.declared.kind.TypeKind.TheVariants as kinds
use Rattle.dj_thrown.specs.declared.throwing.Throwing.{Throwing}
use Rattle.dj_thrown.specs.declared.throwing.Held.{Held}
use Rattle.dj_thrown.specs.Settings.{Setting, context_of, around}
use Rattle.dj_thrown.specs.Listed.{object_listed, class_listed, super_listed, new_listed, construct_listed}
use Rattle.dj_thrown.specs.Assigning.{exp_sets, exps_set, option_sets, sets, list_sets, groups_set, catches_set}
use Rattle.dj_thrown.specs.Throws.{thrown_at, taken, left, classes_of, holding, later, of_variable, held_in, classes_in, variable_of, or_class, throw_throws, exp_throws, exps_throw, option_throws, through, throws, list_throws, catches_throw, groups_throw}
use Rattle.dj_thrown.specs.Catching.{may_catch, may_all_catch, catching, list_catching, catches_catching, groups_catching}
use Rattle.dj_renaming.specs.Renaming.{Names, AreApart, exp_renamed, exps_renamed, option_renamed, renamed, all_renamed, groups_renamed, catches_renamed, AreScopesAlike}
use Rattle.dj_renaming.proofs.Types.{weighs_exp, weighs_stm, weighs_stms, type_alike, types_alike, with_alike, within_alike, behind_alike}
use Rattle.dj_renaming.proofs.Reach.{list_completes_alike}
use Rattle.dj_numbered.specs.Throws.{AreHeldAlike, RenamedThrows, RenamedCatching}

-- ---- catch variables

later_none : (one : Option Held) → one ≡ later None one
later_none None = refl
later_none (Some one) = refl

later_turn : (a b c : Option Held) → later a (later b c) ≡ later (later a b) c
later_turn a b None = refl
later_turn a b (Some one) = refl

held_last : (held : List Held) (one : Held) (variable : Var) → held_in (held ++ one ∷ []) variable ≡ later (held_in held variable) (of_variable variable one)
held_last [] one variable = later_none (of_variable variable one)
held_last (first ∷ rest) one variable =
    ap (later (of_variable variable first)) (held_last rest one variable) ∙ later_turn (of_variable variable first) (held_in rest variable) (of_variable variable one)

classes_last : (held : List Held) (one : Held) (variable : Var) → classes_in (held ++ one ∷ []) variable ≡ (if is_same_variable one.variable variable then one.classes else classes_in held variable)
classes_last held one variable = ap (option_and_then (λ (one : Held). one.classes)) (held_last held one variable) ∙ go (is_same_variable one.variable variable)
  where
    go : (same : Bool) → option_and_then (λ (one : Held). one.classes) (later (held_in held variable) (if same then Some one else None)) ≡ (if same then one.classes else classes_in held variable)
    go true = refl
    go false = refl

-- what is in scope, and what catch variables hold
record IsAround (names : Names) (held other : List Held) (g h : Scope) : Type 0 where
  caught : AreHeldAlike names held other
  typed : AreScopesAlike names g h

module _ (names : Names) (apart : AreApart names) where
  -- ---- what is assigned

  mutual
    exp_sets_alike : (wanted : Var) (exp : Exp) → exp_sets wanted exp ≡ exp_sets (names.variable wanted) (exp_renamed names exp)
    exp_sets_alike wanted (trees.Int number) = refl
    exp_sets_alike wanted (trees.Long number) = refl
    exp_sets_alike wanted (Text units) = refl
    exp_sets_alike wanted (Truth known) = refl
    exp_sets_alike wanted Null = refl
    exp_sets_alike wanted This = refl
    exp_sets_alike wanted (Variable variable) = refl
    exp_sets_alike wanted (ClassOf kind) = refl
    exp_sets_alike wanted (Field object name) = exp_sets_alike wanted object
    exp_sets_alike wanted (Static class name) = refl
    exp_sets_alike wanted (Element array index) = λ i. exp_sets_alike wanted array i || exp_sets_alike wanted index i
    exp_sets_alike wanted (Call object name arguments) = λ i. exp_sets_alike wanted object i || exps_set_alike wanted arguments i
    exp_sets_alike wanted (StaticCall class name arguments) = exps_set_alike wanted arguments
    exp_sets_alike wanted (SuperCall above name arguments) = exps_set_alike wanted arguments
    exp_sets_alike wanted (New class arguments) = exps_set_alike wanted arguments
    exp_sets_alike wanted (NewArray kind sizes more) = exps_set_alike wanted sizes
    exp_sets_alike wanted (Cast kind operand) = exp_sets_alike wanted operand
    exp_sets_alike wanted (InstanceOf operand kind) = exp_sets_alike wanted operand
    exp_sets_alike wanted (Negative operand) = exp_sets_alike wanted operand
    exp_sets_alike wanted (Not operand) = exp_sets_alike wanted operand
    exp_sets_alike wanted (Binary operator left right) = λ i. exp_sets_alike wanted left i || exp_sets_alike wanted right i
    exp_sets_alike wanted (Choice test first second) = λ i. exp_sets_alike wanted test i || (exp_sets_alike wanted first i || exp_sets_alike wanted second i)
    exp_sets_alike wanted (Assign variable new) = λ i. sym (apart.variables variable wanted) i || exp_sets_alike wanted new i

    exps_set_alike : (wanted : Var) (exps : Exps) → exps_set wanted exps ≡ exps_set (names.variable wanted) (exps_renamed names exps)
    exps_set_alike wanted NoExps = refl
    exps_set_alike wanted (AndExp first rest) = λ i. exp_sets_alike wanted first i || exps_set_alike wanted rest i

  option_sets_alike : (wanted : Var) (option : Option Exp) → option_sets wanted option ≡ option_sets (names.variable wanted) (option_renamed names option)
  option_sets_alike wanted None = refl
  option_sets_alike wanted (Some exp) = exp_sets_alike wanted exp

  mutual
    sets_alike : (wanted : Var) (statement : Stm) → sets wanted statement ≡ sets (names.variable wanted) (renamed names statement)
    sets_alike wanted (Block list) = list_sets_alike wanted list
    sets_alike wanted (Labelled label statement) = sets_alike wanted statement
    sets_alike wanted (Declare variable type initial) = λ i. sym (apart.variables variable wanted) i || option_sets_alike wanted initial i
    sets_alike wanted (Set variable new) = λ i. sym (apart.variables variable wanted) i || exp_sets_alike wanted new i
    sets_alike wanted (SetField object name new) = λ i. exp_sets_alike wanted object i || exp_sets_alike wanted new i
    sets_alike wanted (SetStatic class name new) = exp_sets_alike wanted new
    sets_alike wanted (SetElement array index new) = λ i. exp_sets_alike wanted array i || (exp_sets_alike wanted index i || exp_sets_alike wanted new i)
    sets_alike wanted (Run call) = exp_sets_alike wanted call
    sets_alike wanted (If test first second) = λ i. exp_sets_alike wanted test i || (list_sets_alike wanted first i || list_sets_alike wanted second i)
    sets_alike wanted (While test body) = λ i. exp_sets_alike wanted test i || list_sets_alike wanted body i
    sets_alike wanted (Switch on groups) = λ i. exp_sets_alike wanted on i || groups_set_alike wanted groups i
    sets_alike wanted (Break label) = refl
    sets_alike wanted (Continue label) = refl
    sets_alike wanted (Return result) = option_sets_alike wanted result
    sets_alike wanted (Throw exception) = exp_sets_alike wanted exception
    sets_alike wanted (Rethrow variable) = refl
    sets_alike wanted (Try body clauses) = λ i. list_sets_alike wanted body i || catches_set_alike wanted clauses i
    sets_alike wanted (Synchronized monitor body) = λ i. exp_sets_alike wanted monitor i || list_sets_alike wanted body i
    sets_alike wanted (Construct own arguments) = exps_set_alike wanted arguments
    sets_alike wanted (Do body test) = λ i. list_sets_alike wanted body i || exp_sets_alike wanted test i
    sets_alike wanted (For test variable step body) = λ i. sym (apart.variables variable wanted) i || (exp_sets_alike wanted test i || (exp_sets_alike wanted step i || list_sets_alike wanted body i))
    sets_alike wanted (Finally body last) = λ i. list_sets_alike wanted body i || list_sets_alike wanted last i

    list_sets_alike : (wanted : Var) (list : Stms) → list_sets wanted list ≡ list_sets (names.variable wanted) (all_renamed names list)
    list_sets_alike wanted Empty = refl
    list_sets_alike wanted (And first rest) = λ i. sets_alike wanted first i || list_sets_alike wanted rest i

    groups_set_alike : (wanted : Var) (groups : Groups) → groups_set wanted groups ≡ groups_set (names.variable wanted) (groups_renamed names groups)
    groups_set_alike wanted NoGroups = refl
    groups_set_alike wanted (AndGroup labels body rest) = λ i. list_sets_alike wanted body i || groups_set_alike wanted rest i

    catches_set_alike : (wanted : Var) (clauses : Catches) → catches_set wanted clauses ≡ catches_set (names.variable wanted) (catches_renamed names clauses)
    catches_set_alike wanted NoCatches = refl
    catches_set_alike wanted (AndCatch class variable body rest) = λ i. sym (apart.variables variable wanted) i || (list_sets_alike wanted body i || catches_set_alike wanted rest i)

  -- ---- what is thrown

  module _ (setting : Setting) where
    abbrev Around : List Held → List Held → Scope → Scope → Type 0
    Around held other g h = IsAround names held other g h

    -- behind a declaration
    typed_in : (variable : Var) (type : JType) {held other : List Held} {g h : Scope} → Around held other g h → Around held other (with_type variable type g) (with_type (names.variable variable) type h)
    typed_in variable type {g = g} {h = h} s = record { caught = s.caught; typed = with_alike names apart variable type g h s.typed }

    within_it : (statement : Stm) {held other : List Held} {g h : Scope} → Around held other g h → Around held other (within (declared statement) g) (within (declared (renamed names statement)) h)
    within_it statement {g = g} {h = h} s = record { caught = s.caught; typed = within_alike names apart statement g h s.typed }

    behind_it : (list : Stms) {held other : List Held} {g h : Scope} → Around held other g h → Around held other (behind list g) (behind (all_renamed names list) h)
    behind_it list {g = g} {h = h} s = record { caught = s.caught; typed = behind_alike names apart list g h s.typed }

    -- in a catch clause
    more_held : (class : Name) (variable : Var) (body : Stms) {held other : List Held} {thrown found : List Throwing} → thrown ≡ found → AreHeldAlike names held other
        → AreHeldAlike names (held ++ holding setting.headers class variable body thrown ∷ []) (other ++ holding setting.headers class (names.variable variable) (all_renamed names body) found ∷ [])
    more_held class variable body {held = held} {other = other} {thrown = thrown} {found = found} t a = record {
      same = λ one. classes_last held (holding setting.headers class variable body thrown) one
          ∙ (λ i. if sym (apart.variables variable one) i then (if list_sets_alike variable body i then None else Some (classes_of (taken setting.headers class (t i)))) else a.same one i)
          ∙ sym (classes_last other (holding setting.headers class (names.variable variable) (all_renamed names body) found) (names.variable one));
    }

    caught_in : (class : Name) (variable : Var) (body : Stms) {held other : List Held} {g h : Scope} {thrown found : List Throwing} → thrown ≡ found → Around held other g h
        → Around (held ++ holding setting.headers class variable body thrown ∷ []) (other ++ holding setting.headers class (names.variable variable) (all_renamed names body) found ∷ [])
        (with_type variable (Class class) g) (with_type (names.variable variable) (Class class) h)
    caught_in class variable body {g = g} {h = h} t s = record { caught = more_held class variable body t s.caught; typed = with_alike names apart variable (Class class) g h s.typed }

    -- types of expressions
    of : {held other : List Held} {g h : Scope} → Around held other g h → (exp : Exp) → type_of (context_of setting) g exp ≡ type_of (context_of setting) h (exp_renamed names exp)
    of {g = g} {h = h} s exp = type_alike names (context_of setting) g h s.typed exp

    of_all : {held other : List Held} {g h : Scope} → Around held other g h → (exps : Exps) → types_of (context_of setting) g exps ≡ types_of (context_of setting) h (exps_renamed names exps)
    of_all {g = g} {h = h} s exps = types_alike names (context_of setting) g h s.typed exps

    -- ---- places

    next : {p q : ℕ} → p ≡ q → p + 1 ≡ q + 1
    next e = λ j. e j + 1

    past : (exp : Exp) {p q : ℕ} → p ≡ q → p + weight_of_exp exp ≡ q + weight_of_exp (exp_renamed names exp)
    past exp e = λ j. e j + weighs_exp names exp j

    past_list : (list : Stms) {p q : ℕ} → p ≡ q → p + weight_of_stms list ≡ q + weight_of_stms (all_renamed names list)
    past_list list e = λ j. e j + weighs_stms names list j

    -- ---- expressions

    held_alike : {held other : List Held} → AreHeldAlike names held other → (exp : Exp) → option_and_then (classes_in held) (variable_of exp) ≡ option_and_then (classes_in other) (variable_of (exp_renamed names exp))
    held_alike a (trees.Int number) = refl
    held_alike a (trees.Long number) = refl
    held_alike a (Text units) = refl
    held_alike a (Truth known) = refl
    held_alike a Null = refl
    held_alike a This = refl
    held_alike a (Variable variable) = a.same variable
    held_alike a (ClassOf kind) = refl
    held_alike a (Field object name) = refl
    held_alike a (Static class name) = refl
    held_alike a (Element array index) = refl
    held_alike a (Call object name arguments) = refl
    held_alike a (StaticCall class name arguments) = refl
    held_alike a (SuperCall above name arguments) = refl
    held_alike a (New class arguments) = refl
    held_alike a (NewArray kind sizes more) = refl
    held_alike a (Cast kind operand) = refl
    held_alike a (InstanceOf operand kind) = refl
    held_alike a (Negative operand) = refl
    held_alike a (Not operand) = refl
    held_alike a (Binary operator left right) = refl
    held_alike a (Choice test first second) = refl
    held_alike a (Assign variable new) = refl

    throw_alike : {held other : List Held} {g h : Scope} → Around held other g h → (exp : Exp) → throw_throws setting held g exp ≡ throw_throws setting other h (exp_renamed names exp)
    throw_alike s exp = λ i. or_class (held_alike s.caught exp i) (of s exp i)

    mutual
      exp_alike : {held other : List Held} {g h : Scope} {p q : ℕ} → Around held other g h → (exp : Exp) → p ≡ q → exp_throws setting g p exp ≡ exp_throws setting h q (exp_renamed names exp)
      exp_alike s (trees.Int number) e = refl
      exp_alike s (trees.Long number) e = refl
      exp_alike s (Text units) e = refl
      exp_alike s (Truth known) e = refl
      exp_alike s Null e = refl
      exp_alike s This e = refl
      exp_alike s (Variable variable) e = refl
      exp_alike s (ClassOf kind) e = refl
      exp_alike s (Field object name) e = exp_alike s object (next e)
      exp_alike s (Static class name) e = refl
      exp_alike s (Element array index) e = λ i. exp_alike s array (next e) i ++ exp_alike s index (past array (next e)) i
      exp_alike s (Call object name arguments) e =
          λ i. thrown_at (e i) (object_listed setting name (plain (of s object i)) (of_all s arguments i)) ++ (exp_alike s object (next e) i ++ exps_alike s arguments (past object (next e)) i)
      exp_alike s (StaticCall class name arguments) e = λ i. thrown_at (e i) (class_listed setting class name (of_all s arguments i)) ++ exps_alike s arguments (next e) i
      exp_alike s (SuperCall above name arguments) e = λ i. thrown_at (e i) (super_listed setting above name (of_all s arguments i)) ++ exps_alike s arguments (next e) i
      exp_alike s (New class arguments) e = λ i. thrown_at (e i) (new_listed setting class (of_all s arguments i)) ++ exps_alike s arguments (next e) i
      exp_alike s (NewArray kind sizes more) e = exps_alike s sizes (next e)
      exp_alike s (Cast kind operand) e = exp_alike s operand (next e)
      exp_alike s (InstanceOf operand kind) e = exp_alike s operand (next e)
      exp_alike s (Negative operand) e = exp_alike s operand (next e)
      exp_alike s (Not operand) e = exp_alike s operand (next e)
      exp_alike s (Binary operator left right) e = λ i. exp_alike s left (next e) i ++ exp_alike s right (past left (next e)) i
      exp_alike s (Choice test first second) e =
          λ i. exp_alike s test (next e) i ++ (exp_alike s first (past test (next e)) i ++ exp_alike s second (past first (past test (next e))) i)
      exp_alike s (Assign variable new) e = exp_alike s new (next e)

      exps_alike : {held other : List Held} {g h : Scope} {p q : ℕ} → Around held other g h → (exps : Exps) → p ≡ q → exps_throw setting g p exps ≡ exps_throw setting h q (exps_renamed names exps)
      exps_alike s NoExps e = refl
      exps_alike s (AndExp first rest) e = λ i. exp_alike s first e i ++ exps_alike s rest (past first e) i

    option_alike : {held other : List Held} {g h : Scope} {p q : ℕ} → Around held other g h → (option : Option Exp) → p ≡ q → option_throws setting g p option ≡ option_throws setting h q (option_renamed names option)
    option_alike s None e = refl
    option_alike s (Some exp) e = exp_alike s exp e

    -- ---- statements

    mutual
      stm_alike : {held other : List Held} {g h : Scope} {p q : ℕ} → Around held other g h → (statement : Stm) → p ≡ q → throws setting held g p statement ≡ throws setting other h q (renamed names statement)
      stm_alike s (Block list) e = list_alike s list (next e)
      stm_alike s (Labelled label statement) e = stm_alike s statement (next e)
      stm_alike s (Declare variable type initial) e = option_alike (typed_in variable type s) initial (next e)
      stm_alike s (Set variable new) e = exp_alike s new (next e)
      stm_alike s (SetField object name new) e = λ i. exp_alike s object (next e) i ++ exp_alike s new (past object (next e)) i
      stm_alike s (SetStatic class name new) e = exp_alike s new (next e)
      stm_alike s (SetElement array index new) e =
          λ i. exp_alike s array (next e) i ++ (exp_alike s index (past array (next e)) i ++ exp_alike s new (past index (past array (next e))) i)
      stm_alike s (Run call) e = exp_alike s call (next e)
      stm_alike s (If test first second) e =
          λ i. exp_alike s test (next e) i ++ (list_alike s first (past test (next e)) i ++ list_alike s second (past_list first (past test (next e))) i)
      stm_alike s (While test body) e = λ i. exp_alike s test (next e) i ++ list_alike s body (past test (next e)) i
      stm_alike s (Switch on groups) e = λ i. exp_alike s on (next e) i ++ groups_alike s groups (past on (next e)) i
      stm_alike s (Break label) e = refl
      stm_alike s (Continue label) e = refl
      stm_alike s (Return result) e = option_alike s result (next e)
      stm_alike s (Throw exception) e = λ i. thrown_at (e i) (throw_alike s exception i) ++ exp_alike s exception (next e) i
      stm_alike s (Rethrow variable) e = refl
      stm_alike s (Try body clauses) e = catches_alike s (list_alike s body (next e)) clauses (past_list body (next e))
      stm_alike s (Synchronized monitor body) e = λ i. exp_alike s monitor (next e) i ++ list_alike s body (past monitor (next e)) i
      stm_alike s (Construct own arguments) e = λ i. thrown_at (e i) (construct_listed setting own (of_all s arguments i)) ++ exps_alike s arguments (next e) i
      stm_alike s (Do body test) e = λ i. list_alike s body (next e) i ++ exp_alike s test (past_list body (next e)) i
      stm_alike s (For test variable step body) e =
          λ i. exp_alike s test (next e) i ++ (exp_alike s step (past test (next e)) i ++ list_alike s body (past step (past test (next e))) i)
      stm_alike s (Finally body last) e =
          λ i. through (list_completes_alike names apart (around setting) last i) (list_alike s body (next e) i) ++ list_alike s last (past_list body (next e)) i

      list_alike : {held other : List Held} {g h : Scope} {p q : ℕ} → Around held other g h → (list : Stms) → p ≡ q → list_throws setting held g p list ≡ list_throws setting other h q (all_renamed names list)
      list_alike s Empty e = refl
      list_alike s (And first rest) e = λ i. stm_alike s first e i ++ list_alike (within_it first s) rest (λ j. e j + weighs_stm names first j) i

      catches_alike : {held other : List Held} {g h : Scope} {thrown found : List Throwing} {p q : ℕ} → Around held other g h → thrown ≡ found → (clauses : Catches) → p ≡ q
          → catches_throw setting held g thrown p clauses ≡ catches_throw setting other h found q (catches_renamed names clauses)
      catches_alike s t NoCatches e = t
      catches_alike s t (AndCatch class variable body rest) e =
          λ i. list_alike (caught_in class variable body t s) body e i ++ catches_alike s (λ j. left setting.headers class (t j)) rest (past_list body e) i

      groups_alike : {held other : List Held} {g h : Scope} {p q : ℕ} → Around held other g h → (groups : Groups) → p ≡ q → groups_throw setting held g p groups ≡ groups_throw setting other h q (groups_renamed names groups)
      groups_alike s NoGroups e = refl
      groups_alike s (AndGroup labels body rest) e = λ i. list_alike s body e i ++ groups_alike (behind_it body s) rest (past_list body e) i

    -- ---- catch clauses

    all_catch_alike : {thrown found : List Throwing} → thrown ≡ found → (clauses : Catches) → may_all_catch setting.headers thrown clauses ≡ may_all_catch setting.headers found (catches_renamed names clauses)
    all_catch_alike t NoCatches = refl
    all_catch_alike t (AndCatch class variable body rest) = λ i. may_catch setting.headers (t i) class && all_catch_alike t rest i

    mutual
      catching_alike : {held other : List Held} {g h : Scope} {p q : ℕ} → Around held other g h → (statement : Stm) → p ≡ q → catching setting held g p statement ≡ catching setting other h q (renamed names statement)
      catching_alike s (Block list) e = list_catching_alike s list (next e)
      catching_alike s (Labelled label statement) e = catching_alike s statement (next e)
      catching_alike s (Declare variable type initial) e = refl
      catching_alike s (Set variable new) e = refl
      catching_alike s (SetField object name new) e = refl
      catching_alike s (SetStatic class name new) e = refl
      catching_alike s (SetElement array index new) e = refl
      catching_alike s (Run call) e = refl
      catching_alike s (If test first second) e =
          λ i. list_catching_alike s first (past test (next e)) i and list_catching_alike s second (past_list first (past test (next e))) i
      catching_alike s (While test body) e = list_catching_alike s body (past test (next e))
      catching_alike s (Switch on groups) e = groups_catching_alike s groups (past on (next e))
      catching_alike s (Break label) e = refl
      catching_alike s (Continue label) e = refl
      catching_alike s (Return result) e = refl
      catching_alike s (Throw exception) e = refl
      catching_alike s (Rethrow variable) e = refl
      catching_alike s (Try body clauses) e =
          λ i. list_catching_alike s body (next e) i and Rule (e i) kinds.Catch (all_catch_alike (list_alike s body (next e)) clauses i)
          and catches_catching_alike s (list_alike s body (next e)) clauses (past_list body (next e)) i
      catching_alike s (Synchronized monitor body) e = list_catching_alike s body (past monitor (next e))
      catching_alike s (Construct own arguments) e = refl
      catching_alike s (Do body test) e = list_catching_alike s body (next e)
      catching_alike s (For test variable step body) e = list_catching_alike s body (past step (past test (next e)))
      catching_alike s (Finally body last) e = λ i. list_catching_alike s body (next e) i and list_catching_alike s last (past_list body (next e)) i

      list_catching_alike : {held other : List Held} {g h : Scope} {p q : ℕ} → Around held other g h → (list : Stms) → p ≡ q → list_catching setting held g p list ≡ list_catching setting other h q (all_renamed names list)
      list_catching_alike s Empty e = refl
      list_catching_alike s (And first rest) e = λ i. catching_alike s first e i and list_catching_alike (within_it first s) rest (λ j. e j + weighs_stm names first j) i

      catches_catching_alike : {held other : List Held} {g h : Scope} {thrown found : List Throwing} {p q : ℕ} → Around held other g h → thrown ≡ found → (clauses : Catches) → p ≡ q
          → catches_catching setting held g thrown p clauses ≡ catches_catching setting other h found q (catches_renamed names clauses)
      catches_catching_alike s t NoCatches e = refl
      catches_catching_alike s t (AndCatch class variable body rest) e =
          λ i. list_catching_alike (caught_in class variable body t s) body e i and catches_catching_alike s (λ j. left setting.headers class (t j)) rest (past_list body e) i

      groups_catching_alike : {held other : List Held} {g h : Scope} {p q : ℕ} → Around held other g h → (groups : Groups) → p ≡ q → groups_catching setting held g p groups ≡ groups_catching setting other h q (groups_renamed names groups)
      groups_catching_alike s NoGroups e = refl
      groups_catching_alike s (AndGroup labels body rest) e = λ i. list_catching_alike s body e i and groups_catching_alike (behind_it body s) rest (past_list body e) i

pub renamed_throws : RenamedThrows
renamed_throws names apart setting held other a first second agree place list = list_alike names apart setting (record { caught = a; typed = agree }) list refl

pub renamed_catching : RenamedCatching
renamed_catching names apart setting held other a first second agree place list = list_catching_alike names apart setting (record { caught = a; typed = agree }) list refl
