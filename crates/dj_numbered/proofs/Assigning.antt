-- Other names keep definite assignment.
use Rattle.std.proofs.Common.{ℕ, ◌+◌, Bool, true, false, not, Option, Some, None, ◌≡◌, refl, sym, subst, ◌&&◌, ◌||◌}
use Rattle.std.specs.Prelude.{if◌then◌else◌}
use Rattle.dj_syntax.specs.declared.variable.Var.{Var}
use Rattle.dj_syntax.specs.Trees.{Exp, Text, Truth, Null, This, Variable, ClassOf, Field, Static, Element, Call, StaticCall, SuperCall, New, NewArray, Cast, InstanceOf, Negative, Not, Binary, Choice, Assign, Exps, NoExps, AndExp, Stm, Block, Labelled, Declare, Set, SetField, SetStatic, SetElement, Run, If, While, Switch, Return, Throw, Rethrow, Try, Synchronized, Construct, Do, For, Finally, Stms, Empty, And, Groups, NoGroups, AndGroup, Catches, NoCatches, AndCatch}
use Rattle.dj_syntax.specs.Trees as trees
use Rattle.dj_syntax.specs.Weight.{weight_of_exp, weight_of_stms}
use Rattle.dj_meaning.specs.Statements.{is_labelled}
use Rattle.dj_places.specs.Constants.{Surroundings, constant_truth}
use Rattle.dj_places.specs.Rules.{Rule, ◌and◌}
use Rattle.dj_places.specs.declared.kind.TypeKind.TheVariants.{Assigned}
use Rattle.dj_reach.specs.declared.jump.Jump.{Jump}
use Rattle.dj_reach.specs.declared.jump.Jump.TheVariants as jumps
use Rattle.dj_variables.specs.Sets as sets
use Rattle.dj_variables.specs.Sets.{everything, with, without, meet, join}
use Rattle.dj_conditions.specs.Conditions.{When, when, after_each, after_exp, after_both, either_way, decided, behind_operator, behind_choice, wanted_before}
use Rattle.dj_conditions.specs.Reads.{before_right, reads, reads_each, option_reads}
use Rattle.dj_assigned.specs.Assigned.{after_first, passed_over, list_passed_over, groups_passed_over, meet_own, after, after_list, after_catches, after_groups, before_jump, before_list_jump, before_catches_jump, before_groups_jump, after_turn, stm_reads, list_reads, catches_reads, groups_reads}
use Rattle.dj_renaming.specs.Renaming.{Names, AreApart, exp_renamed, exps_renamed, option_renamed, renamed, all_renamed, groups_renamed, catches_renamed, jump_renamed}
use Rattle.dj_renaming.proofs.Types.{weighs_exp, weighs_stm, weighs_stms, same_jumps}
use Rattle.dj_renaming.proofs.Reach.{own_renamed, truth_alike, jump_to_alike, labelled_alike, list_completes_alike}
use Rattle.dj_numbered.specs.Reads.{AreSetsAlike, RenamedReads}

-- what is assigned when true, and when false
record AreSidesAlike (names : Names) (first second : When) : Type 0 where
  yes : AreSetsAlike names first.true second.true
  no : AreSetsAlike names first.false second.false

module _ (names : Names) (apart : AreApart names) (around : Surroundings) where
  abbrev Alike : sets.Set → sets.Set → Type 0
  Alike first second = AreSetsAlike names first second

  -- ---- sets

  all_alike : Alike everything everything
  all_alike = record { same = λ variable. refl }

  with_alike : (variable : Var) {s t : sets.Set} → Alike s t → Alike (with variable s) (with (names.variable variable) t)
  with_alike variable a = record { same = λ other i. sym (apart.variables other variable) i || a.same other i }

  without_alike : (variable : Var) {s t : sets.Set} → Alike s t → Alike (without variable s) (without (names.variable variable) t)
  without_alike variable a = record { same = λ other i. not (sym (apart.variables other variable) i) && a.same other i }

  meet_alike : {s t u v : sets.Set} → Alike s t → Alike u v → Alike (meet s u) (meet t v)
  meet_alike a b = record { same = λ variable i. a.same variable i && b.same variable i }

  join_alike : {s t u v : sets.Set} → Alike s t → Alike u v → Alike (join s u) (join t v)
  join_alike a b = record { same = λ variable i. a.same variable i || b.same variable i }

  chosen_alike : (b : Bool) {c : Bool} {s t u v : sets.Set} → b ≡ c → Alike s t → Alike u v → Alike (if b then s else u) (if c then t else v)
  chosen_alike b {s = s} {t = t} {u = u} {v = v} e x y = subst (λ c. Alike (if b then s else u) (if c then t else v)) e (by b)
    where
      by : (b : Bool) → Alike (if b then s else u) (if b then t else v)
      by true = x
      by false = y

  -- ---- behind expressions

  either : {s t : sets.Set} → Alike s t → AreSidesAlike names (either_way s) (either_way t)
  either a = record { yes = a; no = a }

  both : {f g : When} → AreSidesAlike names f g → Alike (after_both f) (after_both g)
  both w = meet_alike w.yes w.no

  known_alike : (known : Option Bool) {s t : sets.Set} → Alike s t → AreSidesAlike names (decided known s) (decided known t)
  known_alike None a = either a
  known_alike (Some true) a = record { yes = a; no = all_alike }
  known_alike (Some false) a = record { yes = all_alike; no = a }

  decided_alike : (exp : Exp) {s t : sets.Set} → Alike s t → AreSidesAlike names (decided (constant_truth around exp) s) (decided (constant_truth around (exp_renamed names exp)) t)
  decided_alike exp {s = s} {t = t} a =
      subst (λ known. AreSidesAlike names (decided (constant_truth around exp) s) (decided known t)) (truth_alike names around exp) (known_alike (constant_truth around exp) a)

  operator_alike : (wanted : Option Bool) (exp : Exp) {f g : When} (right other : sets.Set → When) → AreSidesAlike names f g → ((s t : sets.Set) → Alike s t → AreSidesAlike names (right s) (other t))
      → AreSidesAlike names (behind_operator wanted (constant_truth around exp) f right) (behind_operator wanted (constant_truth around (exp_renamed names exp)) g other)
  operator_alike None exp {f = f} {g = g} right other w r = decided_alike exp (both (r (after_both f) (after_both g) (both w)))
  operator_alike (Some true) exp {f = f} {g = g} right other w r =
      let more = r f.true g.true w.yes in record { yes = more.yes; no = meet_alike w.no more.no }
  operator_alike (Some false) exp {f = f} {g = g} right other w r =
      let more = r f.false g.false w.no in record { yes = meet_alike w.yes more.yes; no = more.no }

  choice_alike : {f g k l : When} → AreSidesAlike names f g → AreSidesAlike names k l → AreSidesAlike names (behind_choice f k) (behind_choice g l)
  choice_alike w x = record { yes = meet_alike w.yes x.yes; no = meet_alike w.no x.no }

  turned : {f g : When} → AreSidesAlike names f g → AreSidesAlike names (record { true = f.false; false = f.true }) (record { true = g.false; false = g.true })
  turned w = record { yes = w.no; no = w.yes }

  mutual
    when_alike : (exp : Exp) {s t : sets.Set} → Alike s t → AreSidesAlike names (when around exp s) (when around (exp_renamed names exp) t)
    when_alike (trees.Int number) a = either a
    when_alike (trees.Long number) a = either a
    when_alike (Text units) a = either a
    when_alike (Truth known) a = known_alike (Some known) a
    when_alike Null a = either a
    when_alike This a = either a
    when_alike (Variable variable) a = either a
    when_alike (ClassOf kind) a = either a
    when_alike (Field object name) a = either (both (when_alike object a))
    when_alike (Static class name) a = known_alike (constant_truth around (Static class name)) a
    when_alike (Element array index) a = either (both (when_alike index (both (when_alike array a))))
    when_alike (Call object name arguments) a = either (each_alike arguments (both (when_alike object a)))
    when_alike (StaticCall class name arguments) a = either (each_alike arguments a)
    when_alike (SuperCall above name arguments) a = either (each_alike arguments a)
    when_alike (New class arguments) a = either (each_alike arguments a)
    when_alike (NewArray kind sizes more) a = either (each_alike sizes a)
    when_alike (Cast kind operand) a = decided_alike (Cast kind operand) (both (when_alike operand a))
    when_alike (InstanceOf operand kind) a = either (both (when_alike operand a))
    when_alike (Negative operand) a = either (both (when_alike operand a))
    when_alike (Not operand) a = turned (when_alike operand a)
    when_alike (Binary operator left right) a =
        operator_alike (wanted_before operator) (Binary operator left right) (when around right) (when around (exp_renamed names right)) (when_alike left a) (λ s t b. when_alike right b)
    when_alike (Choice test first second) a = choice_alike (when_alike first (when_alike test a).yes) (when_alike second (when_alike test a).no)
    when_alike (Assign variable value) a = either (with_alike variable (both (when_alike value a)))

    each_alike : (exps : Exps) {s t : sets.Set} → Alike s t → Alike (after_each around exps s) (after_each around (exps_renamed names exps) t)
    each_alike NoExps a = a
    each_alike (AndExp first rest) a = each_alike rest (both (when_alike first a))

  exp_alike : (exp : Exp) {s t : sets.Set} → Alike s t → Alike (after_exp around exp s) (after_exp around (exp_renamed names exp) t)
  exp_alike exp a = both (when_alike exp a)

  -- ---- places

  next : {p q : ℕ} → p ≡ q → p + 1 ≡ q + 1
  next e = λ j. e j + 1

  past : (exp : Exp) {p q : ℕ} → p ≡ q → p + weight_of_exp exp ≡ q + weight_of_exp (exp_renamed names exp)
  past exp e = λ j. e j + weighs_exp names exp j

  past_list : (list : Stms) {p q : ℕ} → p ≡ q → p + weight_of_stms list ≡ q + weight_of_stms (all_renamed names list)
  past_list list e = λ j. e j + weighs_stms names list j

  -- ---- reads in expressions

  right_alike : (wanted : Option Bool) {f g : When} → AreSidesAlike names f g → Alike (before_right wanted f) (before_right wanted g)
  right_alike None w = meet_alike w.yes w.no
  right_alike (Some true) w = w.yes
  right_alike (Some false) w = w.no

  mutual
    reads_alike : (exp : Exp) {s t : sets.Set} {p q : ℕ} → Alike s t → p ≡ q → reads around s p exp ≡ reads around t q (exp_renamed names exp)
    reads_alike (trees.Int number) a e = refl
    reads_alike (trees.Long number) a e = refl
    reads_alike (Text units) a e = refl
    reads_alike (Truth known) a e = refl
    reads_alike Null a e = refl
    reads_alike This a e = refl
    reads_alike (Variable variable) a e = λ i. Rule (e i) Assigned (a.same variable i)
    reads_alike (ClassOf kind) a e = refl
    reads_alike (Field object name) a e = reads_alike object a (next e)
    reads_alike (Static class name) a e = refl
    reads_alike (Element array index) a e = λ i. reads_alike array a (next e) i and reads_alike index (exp_alike array a) (past array (next e)) i
    reads_alike (Call object name arguments) a e = λ i. reads_alike object a (next e) i and reads_each_alike arguments (exp_alike object a) (past object (next e)) i
    reads_alike (StaticCall class name arguments) a e = reads_each_alike arguments a (next e)
    reads_alike (SuperCall above name arguments) a e = reads_each_alike arguments a (next e)
    reads_alike (New class arguments) a e = reads_each_alike arguments a (next e)
    reads_alike (NewArray kind sizes more) a e = reads_each_alike sizes a (next e)
    reads_alike (Cast kind operand) a e = reads_alike operand a (next e)
    reads_alike (InstanceOf operand kind) a e = reads_alike operand a (next e)
    reads_alike (Negative operand) a e = reads_alike operand a (next e)
    reads_alike (Not operand) a e = reads_alike operand a (next e)
    reads_alike (Binary operator left right) a e =
        λ i. reads_alike left a (next e) i and reads_alike right (right_alike (wanted_before operator) (when_alike left a)) (past left (next e)) i
    reads_alike (Choice test first second) a e =
        λ i. reads_alike test a (next e) i and reads_alike first (when_alike test a).yes (past test (next e)) i
        and reads_alike second (when_alike test a).no (past first (past test (next e))) i
    reads_alike (Assign variable value) a e = reads_alike value a (next e)

    reads_each_alike : (exps : Exps) {s t : sets.Set} {p q : ℕ} → Alike s t → p ≡ q → reads_each around s p exps ≡ reads_each around t q (exps_renamed names exps)
    reads_each_alike NoExps a e = refl
    reads_each_alike (AndExp first rest) a e = λ i. reads_alike first a e i and reads_each_alike rest (exp_alike first a) (past first e) i

  option_reads_alike : (option : Option Exp) {s t : sets.Set} {p q : ℕ} → Alike s t → p ≡ q → option_reads around s p option ≡ option_reads around t q (option_renamed names option)
  option_reads_alike None a e = refl
  option_reads_alike (Some exp) a e = reads_alike exp a e

  -- ---- behind statements

  first_alike : (variable : Var) (initial : Option Exp) {s t : sets.Set} → Alike s t → Alike (after_first around variable initial s) (after_first around (names.variable variable) (option_renamed names initial) t)
  first_alike variable None a = without_alike variable a
  first_alike variable (Some value) a = with_alike variable (exp_alike value (without_alike variable a))

  passed_alike : (statement : Stm) {s t : sets.Set} → Alike s t → Alike (passed_over statement s) (passed_over (renamed names statement) t)
  passed_alike (Block list) a = a
  passed_alike (Labelled label statement) a = a
  passed_alike (Declare variable type initial) a = without_alike variable a
  passed_alike (Set variable new) a = a
  passed_alike (SetField object name new) a = a
  passed_alike (SetStatic class name new) a = a
  passed_alike (SetElement array index new) a = a
  passed_alike (Run call) a = a
  passed_alike (If test first second) a = a
  passed_alike (While test body) a = a
  passed_alike (Switch on groups) a = a
  passed_alike (trees.Break label) a = a
  passed_alike (trees.Continue label) a = a
  passed_alike (Return result) a = a
  passed_alike (Throw exception) a = a
  passed_alike (Rethrow variable) a = a
  passed_alike (Try body clauses) a = a
  passed_alike (Synchronized monitor body) a = a
  passed_alike (Construct own arguments) a = a
  passed_alike (Do body test) a = a
  passed_alike (For test variable step body) a = a
  passed_alike (Finally body last) a = a

  list_passed_alike : (list : Stms) {s t : sets.Set} → Alike s t → Alike (list_passed_over list s) (list_passed_over (all_renamed names list) t)
  list_passed_alike Empty a = a
  list_passed_alike (And first rest) a = list_passed_alike rest (passed_alike first a)

  groups_passed_alike : (groups : Groups) {s t : sets.Set} → Alike s t → Alike (groups_passed_over groups s) (groups_passed_over (groups_renamed names groups) t)
  groups_passed_alike NoGroups a = a
  groups_passed_alike (AndGroup labels body rest) a = groups_passed_alike rest (list_passed_alike body a)

  own_met_alike : (own : Option ℕ) {s t : sets.Set} (before other : ℕ → sets.Set) → Alike s t → ((label : ℕ) → Alike (before label) (other (names.label label))) → Alike (meet_own own s before) (meet_own (own_renamed names own) t other)
  own_met_alike None before other a b = a
  own_met_alike (Some label) before other a b = meet_alike a (b label)

  mutual
    after_alike : (own : Option ℕ) (statement : Stm) {s t : sets.Set} → Alike s t → Alike (after around own statement s) (after around (own_renamed names own) (renamed names statement) t)
    after_alike own (Block list) a = after_list_alike list a
    after_alike own (Labelled label statement) a = meet_alike (after_alike (Some label) statement a) (before_alike (jumps.Break label) statement a)
    after_alike own (Declare variable type initial) a = first_alike variable initial a
    after_alike own (Set variable new) a = with_alike variable (exp_alike new a)
    after_alike own (SetField object name new) a = exp_alike new (exp_alike object a)
    after_alike own (SetStatic class name new) a = exp_alike new a
    after_alike own (SetElement array index new) a = exp_alike new (exp_alike index (exp_alike array a))
    after_alike own (Run call) a = exp_alike call a
    after_alike own (If test first second) a = meet_alike (after_list_alike first (when_alike test a).yes) (after_list_alike second (when_alike test a).no)
    after_alike own (While test body) a = (when_alike test a).no
    after_alike own (Switch on groups) a =
        meet_alike (after_groups_alike groups all_alike (exp_alike on a)) (chosen_alike (is_labelled None groups) (labelled_alike names apart around groups) all_alike (groups_passed_alike groups (exp_alike on a)))
    after_alike own (trees.Break label) a = all_alike
    after_alike own (trees.Continue label) a = all_alike
    after_alike own (Return result) a = all_alike
    after_alike own (Throw exception) a = all_alike
    after_alike own (Rethrow variable) a = all_alike
    after_alike own (Try body clauses) a = meet_alike (after_list_alike body a) (after_catches_alike clauses a)
    after_alike own (Synchronized monitor body) a = after_list_alike body (exp_alike monitor a)
    after_alike own (Construct this arguments) a = each_alike arguments a
    after_alike own (Do body test) {s = s} {t = t} a =
        (when_alike test (own_met_alike own (λ label. before_list_jump around (jumps.Continue label) body s) (λ label. before_list_jump around (jumps.Continue label) (all_renamed names body) t)
        (after_list_alike body a) (λ label. before_list_alike (jumps.Continue label) body a))).no
    after_alike own (For test variable step body) a = (when_alike test a).no
    after_alike own (Finally body last) a = join_alike (after_list_alike body a) (after_list_alike last a)

    after_list_alike : (list : Stms) {s t : sets.Set} → Alike s t → Alike (after_list around list s) (after_list around (all_renamed names list) t)
    after_list_alike Empty a = a
    after_list_alike (And first rest) a = after_list_alike rest (after_alike None first a)

    after_catches_alike : (clauses : Catches) {s t : sets.Set} → Alike s t → Alike (after_catches around clauses s) (after_catches around (catches_renamed names clauses) t)
    after_catches_alike NoCatches a = all_alike
    after_catches_alike (AndCatch class variable body rest) a = meet_alike (after_list_alike body (with_alike variable a)) (after_catches_alike rest a)

    after_groups_alike : (groups : Groups) {s t u v : sets.Set} → Alike s t → Alike u v → Alike (after_groups around groups s u) (after_groups around (groups_renamed names groups) t v)
    after_groups_alike NoGroups a b = a
    after_groups_alike (AndGroup labels body rest) a b = after_groups_alike rest (after_list_alike body (meet_alike a b)) (list_passed_alike body b)

    before_alike : (jump : Jump) (statement : Stm) {s t : sets.Set} → Alike s t → Alike (before_jump around jump statement s) (before_jump around (jump_renamed names jump) (renamed names statement) t)
    before_alike jump (Block list) a = before_list_alike jump list a
    before_alike jump (Labelled label statement) a = chosen_alike _ (jump_to_alike names apart around label jump) all_alike (before_alike jump statement a)
    before_alike jump (Declare variable type initial) a = all_alike
    before_alike jump (Set variable new) a = all_alike
    before_alike jump (SetField object name new) a = all_alike
    before_alike jump (SetStatic class name new) a = all_alike
    before_alike jump (SetElement array index new) a = all_alike
    before_alike jump (Run call) a = all_alike
    before_alike jump (If test first second) a = meet_alike (before_list_alike jump first (when_alike test a).yes) (before_list_alike jump second (when_alike test a).no)
    before_alike jump (While test body) a = before_list_alike jump body (when_alike test a).yes
    before_alike jump (Switch on groups) a = before_groups_alike jump groups all_alike (exp_alike on a)
    before_alike jump (trees.Break label) a = chosen_alike _ (same_jumps names apart (jumps.Break label) jump) a all_alike
    before_alike jump (trees.Continue label) a = chosen_alike _ (same_jumps names apart (jumps.Continue label) jump) a all_alike
    before_alike jump (Return result) a = all_alike
    before_alike jump (Throw exception) a = all_alike
    before_alike jump (Rethrow variable) a = all_alike
    before_alike jump (Try body clauses) a = meet_alike (before_list_alike jump body a) (before_catches_alike jump clauses a)
    before_alike jump (Synchronized monitor body) a = before_list_alike jump body (exp_alike monitor a)
    before_alike jump (Construct this arguments) a = all_alike
    before_alike jump (Do body test) a = before_list_alike jump body a
    before_alike jump (For test variable step body) a = before_list_alike jump body (when_alike test a).yes
    before_alike jump (Finally body last) a =
        meet_alike (chosen_alike _ (list_completes_alike names apart around last) (join_alike (before_list_alike jump body a) (after_list_alike last a)) all_alike) (before_list_alike jump last a)

    before_list_alike : (jump : Jump) (list : Stms) {s t : sets.Set} → Alike s t → Alike (before_list_jump around jump list s) (before_list_jump around (jump_renamed names jump) (all_renamed names list) t)
    before_list_alike jump Empty a = all_alike
    before_list_alike jump (And first rest) a = meet_alike (before_alike jump first a) (before_list_alike jump rest (after_alike None first a))

    before_catches_alike : (jump : Jump) (clauses : Catches) {s t : sets.Set} → Alike s t → Alike (before_catches_jump around jump clauses s) (before_catches_jump around (jump_renamed names jump) (catches_renamed names clauses) t)
    before_catches_alike jump NoCatches a = all_alike
    before_catches_alike jump (AndCatch class variable body rest) a = meet_alike (before_list_alike jump body (with_alike variable a)) (before_catches_alike jump rest a)

    before_groups_alike : (jump : Jump) (groups : Groups) {s t u v : sets.Set} → Alike s t → Alike u v → Alike (before_groups_jump around jump groups s u) (before_groups_jump around (jump_renamed names jump) (groups_renamed names groups) t v)
    before_groups_alike jump NoGroups a b = all_alike
    before_groups_alike jump (AndGroup labels body rest) a b =
        meet_alike (before_list_alike jump body (meet_alike a b)) (before_groups_alike jump rest (after_list_alike body (meet_alike a b)) (list_passed_alike body b))

  turn_alike : (own : Option ℕ) (body : Stms) {s t : sets.Set} → Alike s t → Alike (after_turn around own body s) (after_turn around (own_renamed names own) (all_renamed names body) t)
  turn_alike own body {s = s} {t = t} a =
      own_met_alike own (λ label. before_list_jump around (jumps.Continue label) body s) (λ label. before_list_jump around (jumps.Continue label) (all_renamed names body) t) (after_list_alike body a) (λ label. before_list_alike (jumps.Continue label) body a)

  -- ---- reads in statements

  mutual
    stm_alike : (own : Option ℕ) (statement : Stm) {s t : sets.Set} {p q : ℕ} → Alike s t → p ≡ q → stm_reads around own s p statement ≡ stm_reads around (own_renamed names own) t q (renamed names statement)
    stm_alike own (Block list) a e = list_alike list a (next e)
    stm_alike own (Labelled label statement) a e = stm_alike (Some label) statement a (next e)
    stm_alike own (Declare variable type initial) a e = option_reads_alike initial (without_alike variable a) (next e)
    stm_alike own (Set variable new) a e = reads_alike new a (next e)
    stm_alike own (SetField object name new) a e = λ i. reads_alike object a (next e) i and reads_alike new (exp_alike object a) (past object (next e)) i
    stm_alike own (SetStatic class name new) a e = reads_alike new a (next e)
    stm_alike own (SetElement array index new) a e =
        λ i. reads_alike array a (next e) i and reads_alike index (exp_alike array a) (past array (next e)) i
        and reads_alike new (exp_alike index (exp_alike array a)) (past index (past array (next e))) i
    stm_alike own (Run call) a e = reads_alike call a (next e)
    stm_alike own (If test first second) a e =
        λ i. reads_alike test a (next e) i and list_alike first (when_alike test a).yes (past test (next e)) i
        and list_alike second (when_alike test a).no (past_list first (past test (next e))) i
    stm_alike own (While test body) a e = λ i. reads_alike test a (next e) i and list_alike body (when_alike test a).yes (past test (next e)) i
    stm_alike own (Switch on groups) a e = λ i. reads_alike on a (next e) i and groups_alike groups all_alike (exp_alike on a) (past on (next e)) i
    stm_alike own (trees.Break label) a e = refl
    stm_alike own (trees.Continue label) a e = refl
    stm_alike own (Return result) a e = option_reads_alike result a (next e)
    stm_alike own (Throw exception) a e = reads_alike exception a (next e)
    stm_alike own (Rethrow variable) a e = λ i. Rule (e i) Assigned (a.same variable i)
    stm_alike own (Try body clauses) a e = λ i. list_alike body a (next e) i and catches_alike clauses a (past_list body (next e)) i
    stm_alike own (Synchronized monitor body) a e = λ i. reads_alike monitor a (next e) i and list_alike body (exp_alike monitor a) (past monitor (next e)) i
    stm_alike own (Construct this arguments) a e = reads_each_alike arguments a (next e)
    stm_alike own (Do body test) a e = λ i. list_alike body a (next e) i and reads_alike test (turn_alike own body a) (past_list body (next e)) i
    stm_alike own (For test variable step body) a e =
        λ i. reads_alike test a (next e) i and reads_alike step (turn_alike own body (when_alike test a).yes) (past test (next e)) i
        and list_alike body (when_alike test a).yes (past step (past test (next e))) i
    stm_alike own (Finally body last) a e = λ i. list_alike body a (next e) i and list_alike last a (past_list body (next e)) i

    list_alike : (list : Stms) {s t : sets.Set} {p q : ℕ} → Alike s t → p ≡ q → list_reads around s p list ≡ list_reads around t q (all_renamed names list)
    list_alike Empty a e = refl
    list_alike (And first rest) a e = λ i. stm_alike None first a e i and list_alike rest (after_alike None first a) (λ j. e j + weighs_stm names first j) i

    catches_alike : (clauses : Catches) {s t : sets.Set} {p q : ℕ} → Alike s t → p ≡ q → catches_reads around s p clauses ≡ catches_reads around t q (catches_renamed names clauses)
    catches_alike NoCatches a e = refl
    catches_alike (AndCatch class variable body rest) a e = λ i. list_alike body (with_alike variable a) e i and catches_alike rest a (past_list body e) i

    groups_alike : (groups : Groups) {s t u v : sets.Set} {p q : ℕ} → Alike s t → Alike u v → p ≡ q → groups_reads around s u p groups ≡ groups_reads around t v q (groups_renamed names groups)
    groups_alike NoGroups a b e = refl
    groups_alike (AndGroup labels body rest) a b e =
        λ i. list_alike body (meet_alike a b) e i and groups_alike rest (after_list_alike body (meet_alike a b)) (list_passed_alike body b) (past_list body e) i

pub renamed_reads : RenamedReads
renamed_reads names apart around first second alike place list = list_alike names apart around list alike refl
