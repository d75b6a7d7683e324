-- A tree made lawful has no less assigned on each way, and reads only what is assigned.
use Rattle.std.proofs.Common.{ℕ, ◌+◌, Bool, true, false, not, List, [], ◌∷◌, ◌++◌, Option, Some, None, ◌≡◌, refl, sym, ap, ◌∙◌, subst, ◌&&◌, ◌||◌}
use Rattle.std.specs.Prelude.{if◌then◌else◌}
use Rattle.std.proofs.lemmas.Bool.{and_parts, and_from, false≢true}
use Rattle.dj_names.specs.Types.{JType, Class}
use Rattle.dj_syntax.specs.declared.variable.Var.{Var}
use Rattle.dj_syntax.specs.Trees.{Exp, Stm, Block, Labelled, Declare, Set, SetField, SetStatic, SetElement, Run, If, While, Switch, Return, Throw, Rethrow, Try, Synchronized, Construct, Do, For, Finally, Stms, Empty, And, Groups, NoGroups, AndGroup, Catches, NoCatches, AndCatch}
use Rattle.dj_syntax.specs.Trees as trees
use Rattle.dj_syntax.specs.Weight.{weight_of, weight_of_exp, weight_of_stms}
use Rattle.dj_meaning.specs.StaticTypes.{Scope, is_same_variable, with_type}
use Rattle.dj_meaning.specs.Declarations.{declared, within, behind}
use Rattle.dj_meaning.specs.Statements.{Place, First, Behind, Elsewhere, label_at, is_labelled}
use Rattle.dj_places.specs.Constants.{Surroundings, constant_truth, is_always}
use Rattle.dj_places.specs.Rules.{Holds}
use Rattle.dj_reach.specs.declared.jump.Jump.{Jump}
use Rattle.dj_reach.specs.declared.jump.Jump.TheVariants as jumps
use Rattle.dj_reach.specs.Jumps.{is_same_jump, is_jump_to}
use Rattle.dj_reach.specs.Reach as reaching
use Rattle.dj_reach.specs.Reach.{completes, list_completes}
use Rattle.dj_variables.specs.Sets as sets
use Rattle.dj_variables.specs.Sets.{everything, with, without, meet, join}
use Rattle.dj_conditions.specs.Conditions.{when, after_exp}
use Rattle.dj_conditions.specs.Reads.{option_reads}
use Rattle.dj_assigned.specs.Assigned.{after_first, passed_over, list_passed_over, groups_passed_over, meet_own, after, after_list, after_catches, after_groups, before_jump, before_list_jump, before_catches_jump, before_groups_jump, after_turn, stm_reads, list_reads, catches_reads, groups_reads}
use Rattle.dj_typing.specs.Sites.{Site}
use Rattle.dj_typed.specs.Statements.{Around, turns_of, stm_types, list_types, catches_types, groups_types}
use Rattle.dj_formed.specs.Formed.{constants_of}
use Rattle.dj_declare.specs.Lawful.{Declared, declared_then, and_more, all_declared, lawful, all_lawful, lawful_clauses, lawful_groups, lost}
use Rattle.dj_declare.specs.Laws.{IsOrdered, AreOrdered, AreClausesOrdered, AreGroupsOrdered, LawfulReads}
use Rattle.dj_held.proofs.AssignedSets.{Inside, inside_same, beyond, in_all, All, all_of, meets, joins, with_more, without_more, when_more, exp_more, each_more, reads_more, all_reads_more, option_reads_more, false_only}
use Rattle.dj_declare.proofs.Reaching.{reach_on, completes_on, list_completes_on, labels_kept}
use Rattle.dj_declare.proofs.Typing.{same_declared, types_on}
use Rattle.dj_declare.proofs.Vacuous.{taking, reach_site, all_after}

-- ---- declarations that a list loses

abbrev pub removed : List Declared → sets.Set → sets.Set
removed [] set = set
removed (one ∷ more) set = removed more (without one.0 set)

abbrev without_one : Option Declared → sets.Set → sets.Set
without_one None set = set
without_one (Some one) set = without one.0 set

removed_more : (more : List Declared) {a b : sets.Set} → Inside a b → Inside (removed more a) (removed more b)
removed_more [] h = h
removed_more (one ∷ more) h = removed_more more (without_more one.0 h)

without_less : (variable : Var) (a : sets.Set) → Inside (without variable a) a
without_less variable a = record { at = λ x e. (and_parts (not (is_same_variable x variable)) (a x) e).1 }

removed_less : (more : List Declared) (a : sets.Set) → Inside (removed more a) a
removed_less [] a = inside_same a
removed_less (one ∷ more) a = beyond (removed_less more (without one.0 a)) (without_less one.0 a)

-- what is removed from a set is removed from its part in another
removed_meet : (more : List Declared) (a b : sets.Set) → Inside (meet b (removed more a)) (removed more (meet b a))
removed_meet [] a b = inside_same (meet b a)
removed_meet (one ∷ more) a b =
    beyond (removed_meet more (without one.0 a) b) (removed_more more (record {
      at = λ x e.
          let p = and_parts (b x) (not (is_same_variable x one.0) && a x) e in
          let q = and_parts (not (is_same_variable x one.0)) (a x) p.1 in
          and_from (not (is_same_variable x one.0)) (b x && a x) q.0 (and_from (b x) (a x) p.0 q.1);
    }))

declared_passed : (more : List Declared) (list : Stms) (a : sets.Set) → list_passed_over (declared_then more list) a ≡ list_passed_over list (removed more a)
declared_passed [] list a = refl
declared_passed (one ∷ more) list a = declared_passed more list (without one.0 a)

-- what is jumped over is what is declared
passed_by : (statement : Stm) (a : sets.Set) → passed_over statement a ≡ without_one (declared statement) a
passed_by (Block list) a = refl
passed_by (Labelled label statement) a = refl
passed_by (Declare variable kind initial) a = refl
passed_by (Set variable new) a = refl
passed_by (SetField object name new) a = refl
passed_by (SetStatic class name new) a = refl
passed_by (SetElement array index new) a = refl
passed_by (Run call) a = refl
passed_by (If test first second) a = refl
passed_by (While test body) a = refl
passed_by (Switch on groups) a = refl
passed_by (trees.Break label) a = refl
passed_by (trees.Continue label) a = refl
passed_by (Return value) a = refl
passed_by (Throw exception) a = refl
passed_by (Rethrow variable) a = refl
passed_by (Try body clauses) a = refl
passed_by (Synchronized monitor body) a = refl
passed_by (Construct own arguments) a = refl
passed_by (Do body test) a = refl
passed_by (For test variable step body) a = refl
passed_by (Finally body last) a = refl

passed_more : (statement : Stm) {a b : sets.Set} → Inside a b → Inside (passed_over statement a) (passed_over statement b)
passed_more statement {a = a} {b = b} h = subst (λ c. Inside c (passed_over statement b)) (sym (passed_by statement a)) (subst (λ c. Inside (without_one (declared statement) a) c) (sym (passed_by statement b)) (go (declared statement)))
  where
    go : (one : Option Declared) → Inside (without_one one a) (without_one one b)
    go None = h
    go (Some one) = without_more one.0 h

list_passed_more : (list : Stms) {a b : sets.Set} → Inside a b → Inside (list_passed_over list a) (list_passed_over list b)
list_passed_more Empty h = h
list_passed_more (And first rest) h = list_passed_more rest (passed_more first h)

more_removed : (one : Option Declared) (more : List Declared) (a : sets.Set) → removed (and_more one more) a ≡ removed more (without_one one a)
more_removed None more a = refl
more_removed (Some one) more a = refl

all_removed : (list : Stms) (a : sets.Set) → removed (all_declared list) a ≡ list_passed_over list a
all_removed Empty a = refl
all_removed (And first rest) a = more_removed (declared first) (all_declared rest) a ∙ ap (removed (all_declared rest)) (sym (passed_by first a)) ∙ all_removed rest (passed_over first a)

same_passed : (around : Surroundings) (statement : Stm) (a : sets.Set) → passed_over (lawful around statement) a ≡ passed_over statement a
same_passed around statement a = passed_by (lawful around statement) a ∙ ap (λ one. without_one one a) (same_declared around statement) ∙ sym (passed_by statement a)

-- what is kept and what is lost are together what was there
lost_removed : (around : Surroundings) (list : Stms) (a : sets.Set) → removed (lost around list) (list_passed_over (all_lawful around list) a) ≡ list_passed_over list a
lost_removed around Empty a = refl
lost_removed around (And first rest) a =
    ap (λ b. removed (lost around (And first rest)) (list_passed_over (if completes around None (lawful around first) then all_lawful around rest else Empty) b)) (same_passed around first a)
    ∙ go (completes around None (lawful around first)) (passed_over first a) (lost_removed around rest (passed_over first a))
  where
    go : (c : Bool) (b : sets.Set) → removed (lost around rest) (list_passed_over (all_lawful around rest) b) ≡ list_passed_over rest b
        → removed (if c then lost around rest else all_declared rest) (list_passed_over (if c then all_lawful around rest else Empty) b) ≡ list_passed_over rest b
    go true b e = e
    go false b e = all_removed rest b

-- ---- small steps

own_more : {a b : sets.Set} (own : Option ℕ) (f g : ℕ → sets.Set) → Inside a b → ((label : ℕ) → Inside (f label) (g label)) → Inside (meet_own own a f) (meet_own own b g)
own_more None f g h k = h
own_more (Some label) f g h k = meets h (k label)

if_more : {a b : sets.Set} (i j : Bool) → i ≡ j → Inside a b → Inside (if j then everything else a) (if i then everything else b)
if_more {a = a} {b = b} i j e h = subst (λ k. Inside (if j then everything else a) (if k then everything else b)) (sym e) (go j)
  where
    go : (j : Bool) → Inside (if j then everything else a) (if j then everything else b)
    go true = inside_same everything
    go false = h

same_if : {a b : sets.Set} (i : Bool) → Inside a b → Inside (if i then everything else a) (if i then everything else b)
same_if true h = inside_same everything
same_if false h = h

jump_if : {a b : sets.Set} (i : Bool) → Inside a b → Inside (if i then a else everything) (if i then b else everything)
jump_if true h = h
jump_if false h = inside_same everything

through_more : {a b : sets.Set} (i j : Bool) → (i ≡ true → j ≡ true) → Inside a b → Inside (if j then a else everything) (if i then b else everything)
through_more true true f h = h
through_more true false f h = absurd (false≢true (f refl))
through_more {a = a} false j f h = record { at = λ x e. refl }

module _ (around : Surroundings) where
  declared_after : (more : List Declared) (list : Stms) (a : sets.Set) → after_list around (declared_then more list) a ≡ after_list around list (removed more a)
  declared_after [] list a = refl
  declared_after (one ∷ more) list a = declared_after more list (without one.0 a)

  declared_before : (jump : Jump) (more : List Declared) (list : Stms) (a b : sets.Set) → Inside b (before_list_jump around jump list (removed more a)) → Inside b (before_list_jump around jump (declared_then more list) a)
  declared_before jump [] list a b h = h
  declared_before jump (one ∷ more) list a b h = record { at = λ x e. (declared_before jump more list (without one.0 a) b h).at x e }

  declared_reads : (p : ℕ) (more : List Declared) (list : Stms) (a : sets.Set) → ((q : ℕ) → Holds (list_reads around (removed more a) q list)) → Holds (list_reads around a p (declared_then more list))
  declared_reads p [] list a h = h p
  declared_reads p (one ∷ more) list a h = (tt, declared_reads (p + 1) more list (without one.0 a) h)

  first_more : {a b : sets.Set} (variable : Var) (initial : Option Exp) → Inside a b → Inside (after_first around variable initial a) (after_first around variable initial b)
  first_more variable None h = without_more variable h
  first_more variable (Some value) h = with_more variable (exp_more around value (without_more variable h))

  kept_after : {a b : sets.Set} (own : Option ℕ) (test : Exp) (statement : Stm) (i : Bool) → is_always false (constant_truth around test) ≡ i → Inside a b → Inside (when around test a).false (after around own statement b)
      → Inside (when around test a).false (after around own (if i then Block Empty else statement) b)
  kept_after {a = a} own test statement true i h k = beyond (false_only around a test i) h
  kept_after own test statement false i h k = k

  kept_before : {a : sets.Set} (b : sets.Set) (jump : Jump) (statement : Stm) (i : Bool) → Inside a (before_jump around jump statement b) → Inside a (before_jump around jump (if i then Block Empty else statement) b)
  kept_before b jump statement true h = record { at = λ x e. refl }
  kept_before b jump statement false h = h

  cut_after : {a b : sets.Set} (list : Stms) (i : Bool) → (i ≡ false → All b) → Inside a (after_list around (all_lawful around list) b) → Inside a (after_list around (if i then all_lawful around list else Empty) b)
  cut_after list true f h = h
  cut_after {a = a} list false f h = in_all a (f refl)

  cut_before : {a : sets.Set} (b : sets.Set) (jump : Jump) (list : Stms) (i : Bool) → Inside a (before_list_jump around jump list b) → Inside a (before_list_jump around jump (if i then list else Empty) b)
  cut_before b jump list true h = h
  cut_before b jump list false h = record { at = λ x e. refl }

  cut_reads : (a : sets.Set) (q : ℕ) (list : Stms) (b : Bool) → Holds (list_reads around a q list) → Holds (list_reads around a q (if b then list else Empty))
  cut_reads a q list true h = h
  cut_reads a q list false h = tt

  kept_reads : (own : Option ℕ) (a : sets.Set) (q : ℕ) (statement : Stm) (b : Bool) → Holds (stm_reads around own a q statement) → Holds (stm_reads around own a q (if b then Block Empty else statement))
  kept_reads own a q statement true h = tt
  kept_reads own a q statement false h = h

-- the sets of a switch, beside those where declarations moved to the next group
record Moved (more : List Declared) (before a later b : sets.Set) : Type 0 where
  jumped : Inside a (removed more b)
  fallen : Inside before later

enters : {before a later b : sets.Set} (more : List Declared) → Moved more before a later b → Inside (meet before a) (removed more (meet later b))
enters {later = later} {b = b} more m = beyond (meets m.fallen m.jumped) (removed_meet more b later)

begins : {a b : sets.Set} → Inside a b → Moved [] everything a everything b
begins h = record { jumped = h; fallen = inside_same everything }

module _ (site : Site) (result : Option JType) (constructs may_return : Bool) where
  abbrev known : Surroundings
  known = constants_of site

  -- over one group
  moves : {before a later b : sets.Set} (more : List Declared) (body : Stms) → Moved more before a later b → Inside (after_list known body (meet before a)) (after_list known (all_lawful known body) (removed more (meet later b)))
      → Moved (lost known body) (after_list known body (meet before a)) (list_passed_over body a) (after_list known (declared_then more (all_lawful known body)) (meet later b)) (list_passed_over (declared_then more (all_lawful known body)) b)
  moves {before = before} {a = a} {later = later} {b = b} more body m h = record {
    jumped = subst (λ s. Inside (list_passed_over body a) (removed (lost known body) s)) (sym (declared_passed more (all_lawful known body) b))
        (subst (λ s. Inside (list_passed_over body a) s) (sym (lost_removed known body (removed more b))) (list_passed_more body m.jumped));
    fallen = subst (λ s. Inside (after_list known body (meet before a)) s) (sym (declared_after known more (all_lawful known body) (meet later b))) h;
  }

  groups_passed_on : (a b : sets.Set) (more : List Declared) (groups : Groups) → Inside a (removed more b) → Inside (groups_passed_over groups a) (groups_passed_over (lawful_groups known more groups) b)
  groups_passed_on a b more NoGroups h = beyond h (removed_less more b)
  groups_passed_on a b more (AndGroup labels body rest) h =
      groups_passed_on (list_passed_over body a) (list_passed_over (declared_then more (all_lawful known body)) b) (lost known body) rest
      (subst (λ s. Inside (list_passed_over body a) (removed (lost known body) s)) (sym (declared_passed more (all_lawful known body) b))
      (subst (λ s. Inside (list_passed_over body a) s) (sym (lost_removed known body (removed more b))) (list_passed_more body h)))

  mutual
    pub after_on : {a b : sets.Set} (place : Place) (targets : List Jump) (scope : Scope) (q : ℕ) (statement : Stm) → Holds (stm_types (taking site result constructs may_return targets) place scope q statement)
        → IsOrdered (reach_site site result constructs may_return) statement → Inside a b → Inside (after known (label_at place) statement a) (after known (label_at place) (lawful known statement) b)
    after_on place targets scope q (Block list) t o h = after_list_on targets scope (q + 1) list t o h
    after_on place targets scope q (Labelled label statement) t o h =
        meets (after_on (Behind label) (targets ++ jumps.Break label ∷ []) scope (q + 1) statement t.1.1 o h) (before_on (jumps.Break label) (Behind label) (targets ++ jumps.Break label ∷ []) scope (q + 1) statement t.1.1 o h)
    after_on place targets scope q (Declare variable kind initial) t o h = first_more known variable initial h
    after_on place targets scope q (Set variable new) t o h = with_more variable (exp_more known new h)
    after_on place targets scope q (SetField object name new) t o h = exp_more known new (exp_more known object h)
    after_on place targets scope q (SetStatic class name new) t o h = exp_more known new h
    after_on place targets scope q (SetElement array index new) t o h = exp_more known new (exp_more known index (exp_more known array h))
    after_on place targets scope q (Run call) t o h = exp_more known call h
    after_on place targets scope q (If test first second) t o h =
        meets (after_list_on targets scope (q + 1 + weight_of_exp test) first t.1.1.0 o.0 (when_more known test h).true)
        (after_list_on targets scope (q + 1 + weight_of_exp test + weight_of_stms first) second t.1.1.1 o.1 (when_more known test h).false)
    after_on place targets scope q (While test body) t o h =
        kept_after known (label_at place) test (While test (all_lawful known body)) (is_always false (constant_truth known test)) refl h (when_more known test h).false
    after_on {a = a} {b = b} place targets scope q (Switch on groups) t o h =
        meets (after_groups_on targets scope (q + 1 + weight_of_exp on) [] groups t.1.1.1 o (begins (exp_more known on h)))
        (if_more (is_labelled None (lawful_groups known [] groups)) (is_labelled None groups) (labels_kept known None [] groups) (groups_passed_on (after_exp known on a) (after_exp known on b) [] groups (exp_more known on h)))
    after_on place targets scope q (trees.Break label) t o h = inside_same everything
    after_on place targets scope q (trees.Continue label) t o h = inside_same everything
    after_on place targets scope q (Return value) t o h = inside_same everything
    after_on place targets scope q (Throw exception) t o h = inside_same everything
    after_on place targets scope q (Rethrow variable) t o h = inside_same everything
    after_on place targets scope q (Try body clauses) t o h =
        meets (after_list_on targets scope (q + 1) body t.1.1.0 o.1 h) (after_clauses_on targets scope (q + 1 + weight_of_stms body) clauses t.1.1.1 o.2 h)
    after_on place targets scope q (Synchronized monitor body) t o h = after_list_on targets scope (q + 1 + weight_of_exp monitor) body t.1.1 o (exp_more known monitor h)
    after_on place targets scope q (Construct own arguments) t o h = each_more known arguments h
    after_on {a = a} {b = b} place targets scope q (Do body test) t o h =
        (when_more known test (own_more (label_at place) (λ label. before_list_jump known (jumps.Continue label) body a) (λ label. before_list_jump known (jumps.Continue label) (all_lawful known body) b)
        (after_list_on (targets ++ turns_of (label_at place)) scope (q + 1) body t.1.0 o h) (λ label. before_list_on (jumps.Continue label) (targets ++ turns_of (label_at place)) scope (q + 1) body t.1.0 o h))).false
    after_on place targets scope q (For test variable step body) t o h =
        kept_after known (label_at place) test (For test variable step (all_lawful known body)) (is_always false (constant_truth known test)) refl h (when_more known test h).false
    after_on place targets scope q (Finally body last) t o h =
        joins (after_list_on targets scope (q + 1) body t.0 o.0 h) (after_list_on targets scope (q + 1 + weight_of_stms body) last t.1 o.1 h)

    pub after_list_on : {a b : sets.Set} (targets : List Jump) (scope : Scope) (q : ℕ) (list : Stms) → Holds (list_types (taking site result constructs may_return targets) scope q list) → AreOrdered (reach_site site result constructs may_return) list → Inside a b
        → Inside (after_list known list a) (after_list known (all_lawful known list) b)
    after_list_on targets scope q Empty t o h = h
    after_list_on {a = a} {b = b} targets scope q (And first rest) t o h =
        cut_after known rest (completes known None (lawful known first))
        (λ e. all_after site result constructs may_return Elsewhere targets scope 0 0 b (lawful known first) (types_on known (taking site result constructs may_return targets) Elsewhere scope q 0 first t.0)
        (reach_on (reach_site site result constructs may_return) 0 first o.0) e)
        (after_list_on targets (within (declared first) scope) (q + weight_of first) rest t.1 o.1 (after_on Elsewhere targets scope q first t.0 o.0 h))

    after_clauses_on : {a b : sets.Set} (targets : List Jump) (scope : Scope) (q : ℕ) (clauses : Catches) → Holds (catches_types (taking site result constructs may_return targets) scope q clauses) → AreClausesOrdered (reach_site site result constructs may_return) clauses → Inside a b
        → Inside (after_catches known clauses a) (after_catches known (lawful_clauses known clauses) b)
    after_clauses_on targets scope q NoCatches t o h = inside_same everything
    after_clauses_on targets scope q (AndCatch class variable body rest) t o h =
        meets (after_list_on targets (with_type variable (Class class) scope) q body t.0 o.0 (with_more variable h)) (after_clauses_on targets scope (q + weight_of_stms body) rest t.1 o.1 h)

    after_groups_on : {before a later b : sets.Set} (targets : List Jump) (scope : Scope) (q : ℕ) (more : List Declared) (groups : Groups) → Holds (groups_types (taking site result constructs may_return targets) scope q groups)
        → AreGroupsOrdered (reach_site site result constructs may_return) groups → Moved more before a later b → Inside (after_groups known groups before a) (after_groups known (lawful_groups known more groups) later b)
    after_groups_on targets scope q more NoGroups t o m = m.fallen
    after_groups_on {before = before} {a = a} {later = later} {b = b} targets scope q more (AndGroup labels body rest) t o m =
        after_groups_on targets (behind body scope) (q + weight_of_stms body) (lost known body) rest t.1 o.1 (moves more body m (after_list_on targets scope q body t.0 o.0 (enters more m)))

    pub before_on : {a b : sets.Set} (jump : Jump) (place : Place) (targets : List Jump) (scope : Scope) (q : ℕ) (statement : Stm) → Holds (stm_types (taking site result constructs may_return targets) place scope q statement)
        → IsOrdered (reach_site site result constructs may_return) statement → Inside a b → Inside (before_jump known jump statement a) (before_jump known jump (lawful known statement) b)
    before_on jump place targets scope q (Block list) t o h = before_list_on jump targets scope (q + 1) list t o h
    before_on jump place targets scope q (Labelled label statement) t o h = same_if (is_jump_to label jump) (before_on jump (Behind label) (targets ++ jumps.Break label ∷ []) scope (q + 1) statement t.1.1 o h)
    before_on jump place targets scope q (Declare variable kind initial) t o h = inside_same everything
    before_on jump place targets scope q (Set variable new) t o h = inside_same everything
    before_on jump place targets scope q (SetField object name new) t o h = inside_same everything
    before_on jump place targets scope q (SetStatic class name new) t o h = inside_same everything
    before_on jump place targets scope q (SetElement array index new) t o h = inside_same everything
    before_on jump place targets scope q (Run call) t o h = inside_same everything
    before_on jump place targets scope q (If test first second) t o h =
        meets (before_list_on jump targets scope (q + 1 + weight_of_exp test) first t.1.1.0 o.0 (when_more known test h).true)
        (before_list_on jump targets scope (q + 1 + weight_of_exp test + weight_of_stms first) second t.1.1.1 o.1 (when_more known test h).false)
    before_on {b = b} jump place targets scope q (While test body) t o h =
        kept_before known b jump (While test (all_lawful known body)) (is_always false (constant_truth known test))
        (before_list_on jump (targets ++ turns_of (label_at place)) scope (q + 1 + weight_of_exp test) body t.1.1 o (when_more known test h).true)
    before_on jump place targets scope q (Switch on groups) t o h = before_groups_on jump targets scope (q + 1 + weight_of_exp on) [] groups t.1.1.1 o (begins (exp_more known on h))
    before_on jump place targets scope q (trees.Break label) t o h = jump_if (is_same_jump (jumps.Break label) jump) h
    before_on jump place targets scope q (trees.Continue label) t o h = jump_if (is_same_jump (jumps.Continue label) jump) h
    before_on jump place targets scope q (Return value) t o h = inside_same everything
    before_on jump place targets scope q (Throw exception) t o h = inside_same everything
    before_on jump place targets scope q (Rethrow variable) t o h = inside_same everything
    before_on jump place targets scope q (Try body clauses) t o h =
        meets (before_list_on jump targets scope (q + 1) body t.1.1.0 o.1 h) (before_clauses_on jump targets scope (q + 1 + weight_of_stms body) clauses t.1.1.1 o.2 h)
    before_on jump place targets scope q (Synchronized monitor body) t o h = before_list_on jump targets scope (q + 1 + weight_of_exp monitor) body t.1.1 o (exp_more known monitor h)
    before_on jump place targets scope q (Construct own arguments) t o h = inside_same everything
    before_on jump place targets scope q (Do body test) t o h = before_list_on jump (targets ++ turns_of (label_at place)) scope (q + 1) body t.1.0 o h
    before_on {b = b} jump place targets scope q (For test variable step body) t o h =
        kept_before known b jump (For test variable step (all_lawful known body)) (is_always false (constant_truth known test))
        (before_list_on jump (targets ++ turns_of (label_at place)) scope (q + 1 + weight_of_exp test + weight_of_exp step) body t.1.1.1.1 o (when_more known test h).true)
    before_on jump place targets scope q (Finally body last) t o h =
        meets (through_more (list_completes known (all_lawful known last)) (list_completes known last) (list_completes_on known last)
        (joins (before_list_on jump targets scope (q + 1) body t.0 o.0 h) (after_list_on targets scope (q + 1 + weight_of_stms body) last t.1 o.1 h))) (before_list_on jump targets scope (q + 1 + weight_of_stms body) last t.1 o.1 h)

    pub before_list_on : {a b : sets.Set} (jump : Jump) (targets : List Jump) (scope : Scope) (q : ℕ) (list : Stms) → Holds (list_types (taking site result constructs may_return targets) scope q list) → AreOrdered (reach_site site result constructs may_return) list → Inside a b
        → Inside (before_list_jump known jump list a) (before_list_jump known jump (all_lawful known list) b)
    before_list_on jump targets scope q Empty t o h = inside_same everything
    before_list_on {b = b} jump targets scope q (And first rest) t o h =
        meets (before_on jump Elsewhere targets scope q first t.0 o.0 h)
        (cut_before known (after known None (lawful known first) b) jump (all_lawful known rest) (completes known None (lawful known first))
        (before_list_on jump targets (within (declared first) scope) (q + weight_of first) rest t.1 o.1 (after_on Elsewhere targets scope q first t.0 o.0 h)))

    before_clauses_on : {a b : sets.Set} (jump : Jump) (targets : List Jump) (scope : Scope) (q : ℕ) (clauses : Catches) → Holds (catches_types (taking site result constructs may_return targets) scope q clauses)
        → AreClausesOrdered (reach_site site result constructs may_return) clauses → Inside a b → Inside (before_catches_jump known jump clauses a) (before_catches_jump known jump (lawful_clauses known clauses) b)
    before_clauses_on jump targets scope q NoCatches t o h = inside_same everything
    before_clauses_on jump targets scope q (AndCatch class variable body rest) t o h =
        meets (before_list_on jump targets (with_type variable (Class class) scope) q body t.0 o.0 (with_more variable h)) (before_clauses_on jump targets scope (q + weight_of_stms body) rest t.1 o.1 h)

    before_groups_on : {before a later b : sets.Set} (jump : Jump) (targets : List Jump) (scope : Scope) (q : ℕ) (more : List Declared) (groups : Groups) → Holds (groups_types (taking site result constructs may_return targets) scope q groups)
        → AreGroupsOrdered (reach_site site result constructs may_return) groups → Moved more before a later b → Inside (before_groups_jump known jump groups before a) (before_groups_jump known jump (lawful_groups known more groups) later b)
    before_groups_on jump targets scope q more NoGroups t o m = inside_same everything
    before_groups_on {before = before} {a = a} {later = later} {b = b} jump targets scope q more (AndGroup labels body rest) t o m =
        meets (declared_before known jump more (all_lawful known body) (meet later b) (before_list_jump known jump body (meet before a)) (before_list_on jump targets scope q body t.0 o.0 (enters more m)))
        (before_groups_on jump targets (behind body scope) (q + weight_of_stms body) (lost known body) rest t.1 o.1 (moves more body m (after_list_on targets scope q body t.0 o.0 (enters more m))))

  -- ---- what is read

  turn_on : {a b : sets.Set} (own : Option ℕ) (targets : List Jump) (scope : Scope) (q : ℕ) (body : Stms) → Holds (list_types (taking site result constructs may_return targets) scope q body) → AreOrdered (reach_site site result constructs may_return) body → Inside a b
      → Inside (after_turn known own body a) (after_turn known own (all_lawful known body) b)
  turn_on {a = a} {b = b} own targets scope q body t o h =
      own_more own (λ label. before_list_jump known (jumps.Continue label) body a) (λ label. before_list_jump known (jumps.Continue label) (all_lawful known body) b)
      (after_list_on targets scope q body t o h) (λ label. before_list_on (jumps.Continue label) targets scope q body t o h)

  mutual
    pub reads_on : {a b : sets.Set} (place : Place) (targets : List Jump) (scope : Scope) (r p q : ℕ) (statement : Stm) → Holds (stm_types (taking site result constructs may_return targets) place scope r statement)
        → IsOrdered (reach_site site result constructs may_return) statement → Inside a b → Holds (stm_reads known (label_at place) a p statement) → Holds (stm_reads known (label_at place) b q (lawful known statement))
    reads_on place targets scope r p q (Block list) t o h d = list_reads_on targets scope (r + 1) (p + 1) (q + 1) list t o h d
    reads_on place targets scope r p q (Labelled label statement) t o h d = reads_on (Behind label) (targets ++ jumps.Break label ∷ []) scope (r + 1) (p + 1) (q + 1) statement t.1.1 o h d
    reads_on place targets scope r p q (Declare variable kind initial) t o h d = option_reads_more known (p + 1) (q + 1) initial (without_more variable h) d
    reads_on place targets scope r p q (Set variable new) t o h d = reads_more known (p + 1) (q + 1) new h d
    reads_on place targets scope r p q (SetField object name new) t o h d =
        (reads_more known (p + 1) (q + 1) object h d.0, reads_more known (p + 1 + weight_of_exp object) (q + 1 + weight_of_exp object) new (exp_more known object h) d.1)
    reads_on place targets scope r p q (SetStatic class name new) t o h d = reads_more known (p + 1) (q + 1) new h d
    reads_on place targets scope r p q (SetElement array index new) t o h d = (
      reads_more known (p + 1) (q + 1) array h d.0,
      (
        reads_more known (p + 1 + weight_of_exp array) (q + 1 + weight_of_exp array) index (exp_more known array h) d.1.0,
        reads_more known (p + 1 + weight_of_exp array + weight_of_exp index) (q + 1 + weight_of_exp array + weight_of_exp index) new (exp_more known index (exp_more known array h)) d.1.1,
      ),
    )
    reads_on place targets scope r p q (Run call) t o h d = reads_more known (p + 1) (q + 1) call h d
    reads_on place targets scope r p q (If test first second) t o h d = (
      reads_more known (p + 1) (q + 1) test h d.0,
      (
        list_reads_on targets scope (r + 1 + weight_of_exp test) (p + 1 + weight_of_exp test) (q + 1 + weight_of_exp test) first t.1.1.0 o.0 (when_more known test h).true d.1.0,
        list_reads_on targets scope (r + 1 + weight_of_exp test + weight_of_stms first) (p + 1 + weight_of_exp test + weight_of_stms first) (q + 1 + weight_of_exp test + weight_of_stms (all_lawful known first)) second t.1.1.1 o.1 (when_more known test h).false d.1.1,
      ),
    )
    reads_on {b = b} place targets scope r p q (While test body) t o h d =
        kept_reads known (label_at place) b q (While test (all_lawful known body)) (is_always false (constant_truth known test))
        (reads_more known (p + 1) (q + 1) test h d.0, list_reads_on (targets ++ turns_of (label_at place)) scope (r + 1 + weight_of_exp test) (p + 1 + weight_of_exp test) (q + 1 + weight_of_exp test) body t.1.1 o (when_more known test h).true d.1)
    reads_on place targets scope r p q (Switch on groups) t o h d =
        (reads_more known (p + 1) (q + 1) on h d.0, groups_reads_on targets scope (r + 1 + weight_of_exp on) (p + 1 + weight_of_exp on) (q + 1 + weight_of_exp on) [] groups t.1.1.1 o (begins (exp_more known on h)) d.1)
    reads_on place targets scope r p q (trees.Break label) t o h d = tt
    reads_on place targets scope r p q (trees.Continue label) t o h d = tt
    reads_on place targets scope r p q (Return value) t o h d = option_reads_more known (p + 1) (q + 1) value h d
    reads_on place targets scope r p q (Throw exception) t o h d = reads_more known (p + 1) (q + 1) exception h d
    reads_on place targets scope r p q (Rethrow variable) t o h d = h.at variable d
    reads_on place targets scope r p q (Try body clauses) t o h d = (
      list_reads_on targets scope (r + 1) (p + 1) (q + 1) body t.1.1.0 o.1 h d.0,
      clauses_reads_on targets scope (r + 1 + weight_of_stms body) (p + 1 + weight_of_stms body) (q + 1 + weight_of_stms (all_lawful known body)) clauses t.1.1.1 o.2 h d.1,
    )
    reads_on place targets scope r p q (Synchronized monitor body) t o h d =
        (reads_more known (p + 1) (q + 1) monitor h d.0, list_reads_on targets scope (r + 1 + weight_of_exp monitor) (p + 1 + weight_of_exp monitor) (q + 1 + weight_of_exp monitor) body t.1.1 o (exp_more known monitor h) d.1)
    reads_on place targets scope r p q (Construct own arguments) t o h d = all_reads_more known (p + 1) (q + 1) arguments h d
    reads_on place targets scope r p q (Do body test) t o h d = (
      list_reads_on (targets ++ turns_of (label_at place)) scope (r + 1) (p + 1) (q + 1) body t.1.0 o h d.0,
      reads_more known (p + 1 + weight_of_stms body) (q + 1 + weight_of_stms (all_lawful known body)) test (turn_on (label_at place) (targets ++ turns_of (label_at place)) scope (r + 1) body t.1.0 o h) d.1,
    )
    reads_on {b = b} place targets scope r p q (For test variable step body) t o h d =
        kept_reads known (label_at place) b q (For test variable step (all_lawful known body)) (is_always false (constant_truth known test)) (
          reads_more known (p + 1) (q + 1) test h d.0,
          (
            reads_more known (p + 1 + weight_of_exp test) (q + 1 + weight_of_exp test) step (turn_on (label_at place) (targets ++ turns_of (label_at place)) scope (r + 1 + weight_of_exp test + weight_of_exp step) body t.1.1.1.1 o (when_more known test h).true) d.1.0,
            list_reads_on (targets ++ turns_of (label_at place)) scope (r + 1 + weight_of_exp test + weight_of_exp step) (p + 1 + weight_of_exp test + weight_of_exp step) (q + 1 + weight_of_exp test + weight_of_exp step) body t.1.1.1.1 o (when_more known test h).true d.1.1,
          ),
        )
    reads_on place targets scope r p q (Finally body last) t o h d =
        (list_reads_on targets scope (r + 1) (p + 1) (q + 1) body t.0 o.0 h d.0, list_reads_on targets scope (r + 1 + weight_of_stms body) (p + 1 + weight_of_stms body) (q + 1 + weight_of_stms (all_lawful known body)) last t.1 o.1 h d.1)

    pub list_reads_on : {a b : sets.Set} (targets : List Jump) (scope : Scope) (r p q : ℕ) (list : Stms) → Holds (list_types (taking site result constructs may_return targets) scope r list) → AreOrdered (reach_site site result constructs may_return) list → Inside a b
        → Holds (list_reads known a p list) → Holds (list_reads known b q (all_lawful known list))
    list_reads_on targets scope r p q Empty t o h d = tt
    list_reads_on {b = b} targets scope r p q (And first rest) t o h d = (
      reads_on Elsewhere targets scope r p q first t.0 o.0 h d.0,
      cut_reads known (after known None (lawful known first) b) (q + weight_of (lawful known first)) (all_lawful known rest) (completes known None (lawful known first))
          (list_reads_on targets (within (declared first) scope) (r + weight_of first) (p + weight_of first) (q + weight_of (lawful known first)) rest t.1 o.1 (after_on Elsewhere targets scope r first t.0 o.0 h) d.1),
    )

    clauses_reads_on : {a b : sets.Set} (targets : List Jump) (scope : Scope) (r p q : ℕ) (clauses : Catches) → Holds (catches_types (taking site result constructs may_return targets) scope r clauses) → AreClausesOrdered (reach_site site result constructs may_return) clauses
        → Inside a b → Holds (catches_reads known a p clauses) → Holds (catches_reads known b q (lawful_clauses known clauses))
    clauses_reads_on targets scope r p q NoCatches t o h d = tt
    clauses_reads_on targets scope r p q (AndCatch class variable body rest) t o h d = (
      list_reads_on targets (with_type variable (Class class) scope) r p q body t.0 o.0 (with_more variable h) d.0,
      clauses_reads_on targets scope (r + weight_of_stms body) (p + weight_of_stms body) (q + weight_of_stms (all_lawful known body)) rest t.1 o.1 h d.1,
    )

    groups_reads_on : {before a later b : sets.Set} (targets : List Jump) (scope : Scope) (r p q : ℕ) (more : List Declared) (groups : Groups) → Holds (groups_types (taking site result constructs may_return targets) scope r groups)
        → AreGroupsOrdered (reach_site site result constructs may_return) groups → Moved more before a later b → Holds (groups_reads known before a p groups) → Holds (groups_reads known later b q (lawful_groups known more groups))
    groups_reads_on targets scope r p q more NoGroups t o m d = tt
    groups_reads_on {later = later} {b = b} targets scope r p q more (AndGroup labels body rest) t o m d = (
      declared_reads known q more (all_lawful known body) (meet later b) (λ other. list_reads_on targets scope r p other body t.0 o.0 (enters more m) d.0),
      groups_reads_on targets (behind body scope) (r + weight_of_stms body) (p + weight_of_stms body) (q + weight_of_stms (declared_then more (all_lawful known body))) (lost known body) rest t.1 o.1
          (moves more body m (after_list_on targets scope r body t.0 o.0 (enters more m))) d.1,
    )

pub lawful_reads : LawfulReads
lawful_reads around may_return scope set place other list t o d =
    list_reads_on around.site around.result around.constructs may_return around.targets scope 0 place other list t o (inside_same set) d
