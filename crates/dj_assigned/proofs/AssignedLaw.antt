-- The walk past statements finds what the rules on assignment say.
use Rattle.std.proofs.Common.{ℕ, ◌+◌, Bool, true, false, List, [], ◌∷◌, ◌++◌, Option, Some, None, ◌≡◌, refl, sym, ap, ap₂, ◌∙◌, arith}
use Rattle.std.specs.Prelude.{if◌then◌else◌}
use Rattle.dj_syntax.specs.declared.variable.Var.{Var}
use Rattle.dj_syntax.specs.Trees.{Exp, Exps, Stm, Block, Labelled, Declare, Set, SetField, SetStatic, SetElement, Run, If, While, Switch, Return, Throw, Rethrow, Try, Synchronized, Construct, Do, For, Finally, Stms, Empty, And, Groups, NoGroups, AndGroup, Catches, NoCatches, AndCatch}
use Rattle.dj_syntax.specs.Trees as trees
use Rattle.dj_syntax.specs.Weight.{weight_of, weight_of_exp, weight_of_stms, weight_of_groups, weight_of_catches}
use Rattle.dj_meaning.specs.Statements.{is_labelled}
use Rattle.dj_places.specs.Constants.{Surroundings}
use Rattle.dj_places.specs.Rules.{Rules, NoRule, ◌and◌, Holds, IsFirstBroken}
use Rattle.dj_places.specs.Places.{told, lower, first_broken}
use Rattle.dj_places.proofs.RuleLemmas.{told_later, lower_none, lower_swap, lower_then, none_broken, first_is}
use Rattle.dj_reach.specs.declared.jump.Jump.{Jump}
use Rattle.dj_reach.specs.declared.jump.Jump.TheVariants.{Break, Continue}
use Rattle.dj_reach.specs.Jumps.{is_same_jump, is_jump_to}
use Rattle.dj_reach.specs.Reach.{list_completes}
use Rattle.dj_variables.specs.Sets as sets
use Rattle.dj_variables.specs.Sets.{everything, with, without, meet, join}
use Rattle.dj_variables.specs.Lists.{IsRising, all_but, Keeps, removed, union}
use Rattle.dj_variables.proofs.SetLemmas.{meet_everything, meet_swap, meet_three, meet_turn}
use Rattle.dj_variables.proofs.ListLemmas.{keeps_none, keeps_same, keeps_removed, keeps_union, keeps_added, keeps_common}
use Rattle.dj_conditions.specs.Conditions.{When, when, after_exp}
use Rattle.dj_conditions.specs.declared.walk.Walk.{Walk}
use Rattle.dj_conditions.specs.Walks.{at_place, skip, step, from, forget, Sides, look, test}
use Rattle.dj_conditions.proofs.ExpressionLaw.{Looks, Tests, stepped, and_then, placed, at_same, writes, reads_variable, looks, looks_each, tests}
use Rattle.dj_assigned.specs.Assigned.{passed_over, list_passed_over, groups_passed_over, meet_own, after, after_list, after_catches, after_groups, before_jump, before_list_jump, before_catches_jump, before_groups_jump, after_turn, stm_reads, list_reads, catches_reads, groups_reads}
use Rattle.dj_assigned.specs.Walks.{along, course_from, apart, leave_by, others, behind_last, end_turn, turn_ended, begin_last, jumped_over, list_jumped_over, groups_jumped_over, end_switch, pass, pass_list, pass_groups, pass_catches, opening}
use Rattle.dj_assigned.specs.declared.course.Course.{Course}
use Rattle.dj_assigned.specs.declared.course.Pending.{Pending}
use Rattle.dj_assigned.proofs.JumpLemmas.{at_jumps, EachRises, keeps-gathered, at_jumps-append, each-append, at_jumps-others, each-others, at_jumps-behind, each-behind}

-- how a walk goes past a statement: besides, what is assigned at each jump that leaves
record Passes (before behind : Course) (end : ℕ) (set : sets.Set) (leaving : Jump → sets.Set) (rules : Rules) : Type 0 where
  walk : Looks before.walk behind.walk end set rules
  each : EachRises behind.jumps
  jumps : (jump : Jump) → at_jumps jump behind.jumps ≡ meet (at_jumps jump before.jumps) (leaving jump)

no_jump : {before behind : Walk} {middle : ℕ} {a : sets.Set} {rules : Rules} (course : Course) (end : ℕ) (b : sets.Set) → Looks before behind middle a rules
    → course.walk.fault ≡ before.fault → middle ≡ end → a ≡ b → EachRises course.jumps → Passes course (along behind course) end b (λ jump. everything) rules
no_jump course end b x fault m e each = record { walk = placed course.walk end b x fault m e; each = each; jumps = λ jump. sym (meet_everything (at_jumps jump course.jumps)) }

-- where a condition is false
otherwise_is : {before : Walk} {one : Sides} {end : ℕ} {set : When} {rules : Rules} → Tests before one end set rules → Looks before (from one.otherwise one.walk) end set.false rules
otherwise_is x = record { place = x.walk.place; unassigned = x.otherwise; fault = x.walk.fault }

-- a statement that control doesn't come out of
ends_here : {before behind : Course} {end : ℕ} {set : sets.Set} {rules : Rules} → Passes before behind end set (λ jump. everything) rules
    → Passes before (course_from [] behind) end everything (λ jump. everything) rules
ends_here x = record { walk = record { place = x.walk.place; unassigned = keeps_none; fault = x.walk.fault }; each = x.each; jumps = x.jumps }

leaves_by : (here : Jump) (course : Course) (place : ℕ) (set : sets.Set) → course.walk.place ≡ told place → Keeps course.walk.unassigned set → EachRises course.jumps
    → Passes course (leave_by here course) (place + 1) everything (λ jump. if is_same_jump here jump then set else everything) NoRule
leaves_by here course place set is u each =
    let last : Pending = record { jump = here; unassigned = course.walk.unassigned } in
    record {
      walk = record { place = stepped course.walk place is; unassigned = keeps_none; fault = sym (lower_none course.walk.fault) };
      each = each-append course.jumps (last ∷ []) each (u.rises, tt);
      jumps = λ jump. at_jumps-append jump course.jumps (last ∷ [])
          ∙ ap (meet (at_jumps jump course.jumps))
          (meet_everything (if is_same_jump here jump then all_but course.walk.unassigned else everything) ∙ ap (λ (z : sets.Set). if is_same_jump here jump then z else everything) u.leaves);
    }

-- a later part of a statement behind an earlier one that leaves by no jump
behind_walk : {course : Course} {between : Walk} {behind : Course} {middle end : ℕ} {a b : sets.Set} {leaving : Jump → sets.Set} {first second : Rules}
    → Looks course.walk between middle a first → Passes (along between course) behind end b leaving second → Passes course behind end b leaving (first and second)
behind_walk x y = record { walk = and_then x y.walk; each = y.each; jumps = y.jumps }

-- behind one that does
and_pass : {course between behind : Course} {middle end : ℕ} {a b : sets.Set} (first_jumps second_jumps : Jump → sets.Set) {first second : Rules} → Passes course between middle a first_jumps first
    → Passes between behind end b second_jumps second → Passes course behind end b (λ jump. meet (first_jumps jump) (second_jumps jump)) (first and second)
and_pass {course = course} first_jumps second_jumps x y = record {
  walk = and_then x.walk y.walk;
  each = y.each;
  jumps = λ jump. y.jumps jump ∙ ap (λ t. meet t (second_jumps jump)) (x.jumps jump) ∙ meet_three (at_jumps jump course.jumps) (first_jumps jump) (second_jumps jump);
}

-- the same but for the place and the set
ends_at : {course behind : Course} {middle : ℕ} {a : sets.Set} {leaving : Jump → sets.Set} {rules : Rules} (end : ℕ) (b : sets.Set) → Passes course behind middle a leaving rules
    → middle ≡ end → a ≡ b → Passes course behind end b leaving rules
ends_at {course = course} end b x m e = record { walk = placed course.walk end b x.walk refl m e; each = x.each; jumps = x.jumps }

-- the same from an earlier course
begins_at : {before behind : Course} {end : ℕ} {set : sets.Set} {leaving : Jump → sets.Set} {rules : Rules} (course : Course) → Passes before behind end set leaving rules
    → course.walk.fault ≡ before.walk.fault → course.jumps ≡ before.jumps → Passes course behind end set leaving rules
begins_at {leaving = leaving} course x fault jumps = record {
  walk = placed course.walk _ _ x.walk fault refl refl;
  each = x.each;
  jumps = λ jump. x.jumps jump ∙ ap (λ js. meet (at_jumps jump js) (leaving jump)) (sym jumps);
}

-- behind it another set is assigned
sets_behind : {course behind : Course} {end : ℕ} {a b : sets.Set} {leaving : Jump → sets.Set} {rules : Rules} (list : List Var) → Passes course behind end a leaving rules → Keeps list b
    → Passes course (course_from list behind) end b leaving rules
sets_behind list x u = record { walk = record { place = x.walk.place; unassigned = u; fault = x.walk.fault }; each = x.each; jumps = x.jumps }

-- ---- switches

jumped : (statement : Stm) (list : List Var) (set : sets.Set) → Keeps list set → Keeps (jumped_over statement list) (passed_over statement set)
jumped (Block inner) list set is = is
jumped (Set variable value) list set is = is
jumped (SetField object name value) list set is = is
jumped (SetStatic class name value) list set is = is
jumped (SetElement array index value) list set is = is
jumped (Run call) list set is = is
jumped (If condition first second) list set is = is
jumped (While condition body) list set is = is
jumped (Switch value cases) list set is = is
jumped (trees.Break label) list set is = is
jumped (trees.Continue label) list set is = is
jumped (Return value) list set is = is
jumped (Throw value) list set is = is
jumped (Rethrow variable) list set is = is
jumped (Try body clauses) list set is = is
jumped (Synchronized monitor body) list set is = is
jumped (Construct this arguments) list set is = is
jumped (Do body condition) list set is = is
jumped (For condition variable next body) list set is = is
jumped (Finally body last) list set is = is
jumped (Labelled label statement) list set is = is
jumped (Declare variable kind value) list set is = keeps_added variable is

jumped_list : (inner : Stms) (list : List Var) (set : sets.Set) → Keeps list set → Keeps (list_jumped_over inner list) (list_passed_over inner set)
jumped_list Empty list set is = is
jumped_list (And first rest) list set is = jumped_list rest (jumped_over first list) (passed_over first set) (jumped first list set is)

jumped_groups : (groups : Groups) (list : List Var) (set : sets.Set) → Keeps list set → Keeps (groups_jumped_over groups list) (groups_passed_over groups set)
jumped_groups NoGroups list set is = is
jumped_groups (AndGroup labels body rest) list set is = jumped_groups rest (list_jumped_over body list) (list_passed_over body set) (jumped_list body list set is)

switch_ends : {course behind : Course} {end : ℕ} {a b : sets.Set} {leaving : Jump → sets.Set} {rules : Rules} (has_default : Bool) (list : List Var) → Passes course behind end a leaving rules → Keeps list b
    → Passes course (end_switch has_default list behind) end (meet a (if has_default then everything else b)) leaving rules
switch_ends {a = a} true list x u = record { walk = record { place = x.walk.place; unassigned = keeps_same x.walk.unassigned (sym (meet_everything a)); fault = x.walk.fault }; each = x.each; jumps = x.jumps }
switch_ends false list x u = record { walk = record { place = x.walk.place; unassigned = keeps_union x.walk.unassigned u; fault = x.walk.fault }; each = x.each; jumps = x.jumps }

-- ---- turns and last lists

-- where a turn of a loop ends, and the jumps of its body behind those before
turn_is : (own : Option ℕ) (behind : Course) (a : sets.Set) (leaving : Jump → sets.Set) → Keeps behind.walk.unassigned a → EachRises behind.jumps → ((jump : Jump) → at_jumps jump behind.jumps ≡ leaving jump)
    → Keeps (end_turn own behind) (meet_own own a (λ label. leaving (Continue label)))
turn_is None behind a leaving u each jumps = u
turn_is (Some label) behind a leaving u each jumps = keeps_same (keeps-gathered (Continue label) behind.jumps behind.walk.unassigned a each u) (ap (meet a) (jumps (Continue label)))

last_jumps : (jump : Jump) (completes : Bool) (outer inner : List Pending) (list : List Var) (s b f a : sets.Set) → IsRising list → EachRises inner → at_jumps jump outer ≡ meet s f → at_jumps jump inner ≡ b → all_but list ≡ a
    → at_jumps jump (if completes then outer ++ behind_last list inner else outer) ≡ meet s (meet (if completes then join b a else everything) f)
last_jumps jump true outer inner list s b f a rises each e g h =
    at_jumps-append jump outer (behind_last list inner) ∙ ap₂ meet e (at_jumps-behind jump list inner rises each ∙ ap₂ join g h) ∙ meet_turn s f (join b a)
last_jumps jump false outer inner list s b f a rises each e g h = e

each-last : (completes : Bool) (outer inner : List Pending) (list : List Var) → EachRises outer → EachRises inner → IsRising list → EachRises (if completes then outer ++ behind_last list inner else outer)
each-last true outer inner list x y rises = each-append outer (behind_last list inner) x (each-behind list inner rises y)
each-last false outer inner list x y rises = x

-- ---- statements

-- what the law says of a statement or a list, wherever a walk comes to it
abbrev PassesBy : (Course → Course) → ℕ → (sets.Set → sets.Set) → (Jump → sets.Set → sets.Set) → (sets.Set → ℕ → Rules) → Type 0
PassesBy pass weight after before rules = (course : Course) (place : ℕ) (set : sets.Set) → course.walk.place ≡ told place → Keeps course.walk.unassigned set → EachRises course.jumps
    → Passes course (pass course) (place + weight) (after set) (λ jump. before jump set) (rules set place)

mutual
  passes : (around : Surroundings) (own : Option ℕ) (statement : Stm)
      → PassesBy (pass around own statement) (weight_of statement) (after around own statement) (λ jump. before_jump around jump statement) (λ set place. stm_reads around own set place statement)
  passes around own (Block list) course place set is u each =
      let start = along (step course.walk) course in
      ends_at _ _ (begins_at course (passes_list around list start (place + 1) set (stepped course.walk place is) u each) refl refl) (omega arith) refl
  passes around own (Labelled label statement) course place set is u each =
      let start = apart (step course.walk) in
      let behind = pass around (Some label) statement start in
      let x = passes around (Some label) statement start (place + 1) set (stepped course.walk place is) u tt in
      record {
        walk = record {
          place = x.walk.place ∙ ap told (omega arith);
          unassigned = keeps_same (keeps-gathered (Break label) behind.jumps behind.walk.unassigned _ x.each x.walk.unassigned) (ap (meet (after around (Some label) statement set)) (x.jumps (Break label)));
          fault = x.walk.fault;
        };
        each = each-append course.jumps (others label behind.jumps) each (each-others label behind.jumps x.each);
        jumps = λ jump. at_jumps-append jump course.jumps (others label behind.jumps)
            ∙ ap (meet (at_jumps jump course.jumps)) (at_jumps-others label jump behind.jumps ∙ ap (λ (z : sets.Set). if is_jump_to label jump then everything else z) (x.jumps jump));
      }
  passes around own (Declare variable kind None) course place set is u each =
      no_jump course _ _ (at_same (forget variable (step course.walk)) (place + 1) (without variable set) (stepped course.walk place is) (keeps_added variable u)) refl (omega arith) refl each
  passes around own (Declare variable kind (Some value)) course place set is u each =
      let x = looks around value (forget variable (step course.walk)) (place + 1) (without variable set) (stepped course.walk place is) (keeps_added variable u) in
      no_jump course _ _ (writes variable x) refl (omega arith) refl each
  passes around own (Set variable value) course place set is u each =
      no_jump course _ _ (writes variable (looks around value (step course.walk) (place + 1) set (stepped course.walk place is) u)) refl (omega arith) refl each
  passes around own (SetField object name value) course place set is u each =
      let x = looks around object (step course.walk) (place + 1) set (stepped course.walk place is) u in
      let y = looks around value (look around object (step course.walk)) (place + 1 + weight_of_exp object) (after_exp around object set) x.place x.unassigned in
      no_jump course _ _ (and_then x y) refl (omega arith) refl each
  passes around own (SetStatic class name value) course place set is u each =
      no_jump course _ _ (looks around value (step course.walk) (place + 1) set (stepped course.walk place is) u) refl (omega arith) refl each
  passes around own (SetElement array index value) course place set is u each =
      let first = look around array (step course.walk) in
      let x = looks around array (step course.walk) (place + 1) set (stepped course.walk place is) u in
      let y = looks around index first (place + 1 + weight_of_exp array) (after_exp around array set) x.place x.unassigned in
      let z = looks around value (look around index first) (place + 1 + weight_of_exp array + weight_of_exp index) (after_exp around index (after_exp around array set)) y.place y.unassigned in
      no_jump course _ _ (and_then x (and_then y z)) refl (omega arith) refl each
  passes around own (Run call) course place set is u each =
      no_jump course _ _ (looks around call (step course.walk) (place + 1) set (stepped course.walk place is) u) refl (omega arith) refl each
  passes around own (If condition first second) course place set is u each =
      let one = test around condition (step course.walk) in
      let start = along one.walk course in
      let between = pass_list around first start in
      let x = tests around condition (step course.walk) (place + 1) set (stepped course.walk place is) u in
      let y = passes_list around first start (place + 1 + weight_of_exp condition) (when around condition set).true x.walk.place x.walk.unassigned each in
      let z = passes_list around second (course_from one.otherwise between) (place + 1 + weight_of_exp condition + weight_of_stms first) (when around condition set).false y.walk.place x.otherwise y.each in
      let behind = pass_list around second (course_from one.otherwise between) in
      let w = sets_behind (union behind.walk.unassigned between.walk.unassigned) (begins_at between z refl refl) (keeps_union z.walk.unassigned y.walk.unassigned) in
      ends_at _ _ (behind_walk (placed course.walk _ _ x.walk refl refl refl) (and_pass _ _ y w)) (omega arith)
      (meet_swap (after_list around second (when around condition set).false) (after_list around first (when around condition set).true))
  passes around own (While condition body) course place set is u each =
      let one = test around condition (step course.walk) in
      let start = along one.walk course in
      let x = tests around condition (step course.walk) (place + 1) set (stepped course.walk place is) u in
      let y = passes_list around body start (place + 1 + weight_of_exp condition) (when around condition set).true x.walk.place x.walk.unassigned each in
      ends_at _ _ (behind_walk (placed course.walk _ _ x.walk refl refl refl) (sets_behind one.otherwise y x.otherwise)) (omega arith) refl
  passes around own (Switch value groups) course place set is u each =
      let start = look around value (step course.walk) in
      let a = after_exp around value set in
      let x = looks around value (step course.walk) (place + 1) set (stepped course.walk place is) u in
      let y = passes_groups around groups start.unassigned (along (from [] start) course) (place + 1 + weight_of_exp value) everything a x.place keeps_none x.unassigned each in
      let z = switch_ends (is_labelled None groups) (groups_jumped_over groups start.unassigned) (begins_at (along start course) y refl refl) (jumped_groups groups start.unassigned a x.unassigned) in
      ends_at _ _ (behind_walk (placed course.walk _ _ x refl refl refl) z) (omega arith) refl
  passes around own (trees.Break label) course place set is u each = ends_at _ _ (leaves_by (Break label) course place set is u each) (omega arith) refl
  passes around own (trees.Continue label) course place set is u each = ends_at _ _ (leaves_by (Continue label) course place set is u each) (omega arith) refl
  passes around own (Return None) course place set is u each =
      no_jump course _ _ (at_same (from [] (step course.walk)) (place + 1) everything (stepped course.walk place is) keeps_none) refl (omega arith) refl each
  passes around own (Return (Some value)) course place set is u each =
      ends_here (no_jump course _ (after_exp around value set) (looks around value (step course.walk) (place + 1) set (stepped course.walk place is) u) refl (omega arith) refl each)
  passes around own (Throw value) course place set is u each =
      ends_here (no_jump course _ (after_exp around value set) (looks around value (step course.walk) (place + 1) set (stepped course.walk place is) u) refl (omega arith) refl each)
  passes around own (Rethrow variable) course place set is u each = ends_here (no_jump course _ set (reads_variable course.walk place variable set is u) refl (omega arith) refl each)
  passes around own (Try body catches) course place set is u each =
      let start = along (step course.walk) course in
      let x = passes_list around body start (place + 1) set (stepped course.walk place is) u each in
      let y = passes_catches around catches course.walk.unassigned (pass_list around body start) (place + 1 + weight_of_stms body) (after_list around body set) set x.walk.place x.walk.unassigned u x.each in
      ends_at _ _ (begins_at course (and_pass _ _ x y) refl refl) (omega arith) refl
  passes around own (Synchronized monitor body) course place set is u each =
      let start = look around monitor (step course.walk) in
      let x = looks around monitor (step course.walk) (place + 1) set (stepped course.walk place is) u in
      let y = passes_list around body (along start course) (place + 1 + weight_of_exp monitor) (after_exp around monitor set) x.place x.unassigned each in
      ends_at _ _ (behind_walk (placed course.walk _ _ x refl refl refl) y) (omega arith) refl
  passes around own (Construct this arguments) course place set is u each =
      no_jump course _ _ (looks_each around arguments (step course.walk) (place + 1) set (stepped course.walk place is) u) refl (omega arith) refl each
  passes around own (Do body condition) course place set is u each =
      let start = apart (step course.walk) in
      let behind = pass_list around body start in
      let ended = turn_ended own course.jumps behind in
      let x = passes_list around body start (place + 1) set (stepped course.walk place is) u tt in
      let y = tests around condition ended.walk (place + 1 + weight_of_stms body) (after_turn around own body set) x.walk.place
      (turn_is own behind (after_list around body set) (λ jump. before_list_jump around jump body set) x.walk.unassigned x.each x.jumps) in
      record {
        walk = placed course.walk _ _ (and_then x.walk (placed behind.walk _ _ (otherwise_is y) refl refl refl)) refl (omega arith) refl;
        each = each-append course.jumps behind.jumps each x.each;
        jumps = λ jump. at_jumps-append jump course.jumps behind.jumps ∙ ap (meet (at_jumps jump course.jumps)) (x.jumps jump);
      }
  passes around own (For condition variable next body) course place set is u each =
      let one = test around condition (step course.walk) in
      let start = apart (skip (weight_of_exp next) one.walk) in
      let behind = pass_list around body start in
      let ended = at_place one.walk.place (turn_ended own course.jumps behind).walk in
      let a = (when around condition set).true in
      let x = tests around condition (step course.walk) (place + 1) set (stepped course.walk place is) u in
      let y = passes_list around body start (place + 1 + weight_of_exp condition + weight_of_exp next) a (told_later (place + 1 + weight_of_exp condition) (weight_of_exp next) one.walk.place x.walk.place) x.walk.unassigned tt in
      let z = looks around next ended (place + 1 + weight_of_exp condition) (after_turn around own body a) x.walk.place
      (turn_is own behind (after_list around body a) (λ jump. before_list_jump around jump body a) y.walk.unassigned y.each y.jumps) in
      record {
        walk = record {
          place = y.walk.place ∙ ap told (omega arith);
          unassigned = x.otherwise;
          fault = lower_then course.walk.fault one.walk.fault _ _ _ x.walk.fault
              (lower_then one.walk.fault behind.walk.fault _ _ _ y.walk.fault z.fault
              ∙ ap (lower one.walk.fault) (lower_swap (first_broken (list_reads around a (place + 1 + weight_of_exp condition + weight_of_exp next) body)) _));
        };
        each = each-append course.jumps behind.jumps each y.each;
        jumps = λ jump. at_jumps-append jump course.jumps behind.jumps ∙ ap (meet (at_jumps jump course.jumps)) (y.jumps jump);
      }
  passes around own (Finally body last) course place set is u each =
      let start = apart (step course.walk) in
      let between = pass_list around body start in
      let second = begin_last course.walk.unassigned course.jumps between in
      let behind = pass_list around last second in
      let x = passes_list around body start (place + 1) set (stepped course.walk place is) u tt in
      let y = passes_list around last second (place + 1 + weight_of_stms body) set x.walk.place u each in
      record {
        walk = record {
          place = y.walk.place ∙ ap told (omega arith);
          unassigned = keeps_common x.walk.unassigned y.walk.unassigned;
          fault = lower_then course.walk.fault between.walk.fault _ _ _ x.walk.fault y.walk.fault;
        };
        each = each-last (list_completes around last) behind.jumps between.jumps behind.walk.unassigned y.each x.each y.walk.unassigned.rises;
        jumps = λ jump. last_jumps jump (list_completes around last) behind.jumps between.jumps behind.walk.unassigned (at_jumps jump course.jumps) (before_list_jump around jump body set)
            (before_list_jump around jump last set) (after_list around last set) y.walk.unassigned.rises x.each (y.jumps jump) (x.jumps jump) y.walk.unassigned.leaves;
      }

  passes_list : (around : Surroundings) (list : Stms)
      → PassesBy (pass_list around list) (weight_of_stms list) (after_list around list) (λ jump. before_list_jump around jump list) (λ set place. list_reads around set place list)
  passes_list around Empty course place set is u each = no_jump course _ _ (at_same course.walk place set is u) refl (omega arith) refl each
  passes_list around (And first rest) course place set is u each =
      let x = passes around None first course place set is u each in
      let y = passes_list around rest (pass around None first course) (place + weight_of first) (after around None first set) x.walk.place x.walk.unassigned x.each in
      ends_at _ _ (and_pass _ _ x y) (omega arith) refl

  passes_groups : (around : Surroundings) (groups : Groups) (list : List Var) (course : Course) (place : ℕ) (before set : sets.Set) → course.walk.place ≡ told place → Keeps course.walk.unassigned before → Keeps list set → EachRises course.jumps
      → Passes course (pass_groups around groups list course) (place + weight_of_groups groups) (after_groups around groups before set) (λ jump. before_groups_jump around jump groups before set) (groups_reads around before set place groups)
  passes_groups around NoGroups list course place before set is u h each = no_jump course _ _ (at_same course.walk place before is u) refl (omega arith) refl each
  passes_groups around (AndGroup labels body rest) list course place before set is u h each =
      let start = course_from (union course.walk.unassigned list) course in
      let a = meet before set in
      let x = passes_list around body start place a is (keeps_union u h) each in
      let y = passes_groups around rest (list_jumped_over body list) (pass_list around body start) (place + weight_of_stms body) (after_list around body a) (list_passed_over body set) x.walk.place x.walk.unassigned (jumped_list body list set h) x.each in
      ends_at _ _ (begins_at course (and_pass _ _ x y) refl refl) (omega arith) refl

  -- behind the clauses, given what is assigned behind what comes before them
  passes_catches : (around : Surroundings) (catches : Catches) (list : List Var) (course : Course) (place : ℕ) (done set : sets.Set) → course.walk.place ≡ told place → Keeps course.walk.unassigned done → Keeps list set → EachRises course.jumps
      → Passes course (pass_catches around catches list course) (place + weight_of_catches catches) (meet done (after_catches around catches set)) (λ jump. before_catches_jump around jump catches set) (catches_reads around set place catches)
  passes_catches around NoCatches list course place done set is u h each = no_jump course _ _ (at_same course.walk place done is u) refl (omega arith) (sym (meet_everything done)) each
  passes_catches around (AndCatch class variable body rest) list course place done set is u h each =
      let start = course_from (removed variable list) course in
      let inner = pass_list around body start in
      let between = course_from (union inner.walk.unassigned course.walk.unassigned) inner in
      let a = after_list around body (with variable set) in
      let x = passes_list around body start place (with variable set) is (keeps_removed variable h) each in
      let w = sets_behind (union inner.walk.unassigned course.walk.unassigned) x (keeps_same (keeps_union x.walk.unassigned u) (meet_swap a done)) in
      let y = passes_catches around rest list between (place + weight_of_stms body) (meet done a) set w.walk.place w.walk.unassigned h w.each in
      ends_at _ _ (begins_at course (and_pass _ _ w y) refl refl) (omega arith) (meet_three done a (after_catches around rest set))

-- ---- a whole list

pub list_reads_is : (around : Surroundings) (list : Stms) → (pass_list around list opening).walk.fault ≡ first_broken (list_reads around everything 0 list)
list_reads_is around list = (passes_list around list opening 0 everything refl keeps_none tt).walk.fault

-- nothing is broken
pub body_kept : (around : Surroundings) (list : Stms) (start course : Course) → start ≡ opening → course ≡ pass_list around list start → course.walk.fault ≡ None → Holds (list_reads around everything 0 list)
body_kept around list start course begins is none =
    none_broken (list_reads around everything 0 list) (sym (list_reads_is around list) ∙ sym (ap (λ (c : Course). c.walk.fault) (is ∙ ap (pass_list around list) begins)) ∙ none)

-- the first place where a variable isn't assigned
pub body_broken : (around : Surroundings) (list : Stms) (start course : Course) (place : ℕ) → start ≡ opening → course ≡ pass_list around list start → course.walk.fault ≡ Some place
    → (first : ℕ) × IsFirstBroken (list_reads around everything 0 list) first × (place ≡ told first)
body_broken around list start course place begins is some =
    first_is (list_reads around everything 0 list) place (sym (list_reads_is around list) ∙ sym (ap (λ (c : Course). c.walk.fault) (is ∙ ap (pass_list around list) begins)) ∙ some)
