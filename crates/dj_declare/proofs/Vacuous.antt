-- Where every statement can be reached and control doesn't come, every variable counts as assigned.
use Rattle.std.proofs.Common.{ℕ, ◌+◌, Bool, true, false, not, List, [], ◌∷◌, ◌++◌, Option, Some, None, ◌≡◌, refl, sym, ◌&&◌, ◌||◌}
use Rattle.std.specs.Prelude.{if◌then◌else◌}
use Rattle.std.proofs.lemmas.Bool.{and_parts, and_from, false≢true}
use Rattle.dj_names.specs.Types.{JType, Class}
use Rattle.dj_syntax.specs.Trees.{Exp, Stm, Block, Labelled, Declare, Set, SetField, SetStatic, SetElement, Run, If, While, Switch, Return, Throw, Rethrow, Try, Synchronized, Construct, Do, For, Finally, Stms, Empty, And, Groups, NoGroups, AndGroup, Catches, NoCatches, AndCatch}
use Rattle.dj_syntax.specs.Trees as trees
use Rattle.dj_syntax.specs.Weight.{weight_of, weight_of_exp, weight_of_stms}
use Rattle.dj_meaning.specs.StaticTypes.{Scope, with_type}
use Rattle.dj_meaning.specs.Declarations.{declared, within, behind}
use Rattle.dj_meaning.specs.Statements.{Place, First, Behind, Elsewhere, label_at, is_labelled}
use Rattle.dj_places.specs.Constants.{Surroundings, constant_truth, is_always}
use Rattle.dj_places.specs.Rules.{Holds}
use Rattle.dj_reach.specs.declared.jump.Jump.{Jump}
use Rattle.dj_reach.specs.declared.jump.Jump.TheVariants as jumps
use Rattle.dj_reach.specs.Jumps.{is_same_jump, is_jump_to}
use Rattle.dj_reach.specs.Reach as reaching
use Rattle.dj_reach.specs.Reach.{of_own, completes, list_completes, catches_complete, groups_complete, leaves, list_leaves, catches_leave, groups_leave, stm_reach, list_reach, catches_reach, groups_reach}
use Rattle.dj_variables.specs.Sets as sets
use Rattle.dj_variables.specs.Sets.{everything, with, meet, join}
use Rattle.dj_conditions.specs.Conditions.{when, after_exp}
use Rattle.dj_assigned.specs.Assigned.{list_passed_over, groups_passed_over, meet_own, after, after_list, after_catches, after_groups, before_jump, before_list_jump, before_catches_jump, before_groups_jump}
use Rattle.dj_typing.specs.Sites.{Site}
use Rattle.dj_typed.specs.Statements.{Around, turns_of, exp_goes, is_test, stm_types, list_types, catches_types, groups_types}
use Rattle.dj_formed.specs.Formed.{constants_of}
use Rattle.dj_held.proofs.AssignedSets.{Inside, All, all_of, all_meet, all_first, all_second, all_when, never_false}

pub or_none : (a b : Bool) → (a || b) ≡ false → (a ≡ false) × (b ≡ false)
or_none true b e = absurd (false≢true (sym e))
or_none false b e = (refl, e)

pub not_not : (a : Bool) → not a ≡ false → a ≡ true
not_not true e = refl
not_not false e = absurd (false≢true (sym e))

-- one of two
either_none : {A : Type 0} (a b : Bool) → (a && b) ≡ false → (a ≡ false → A) → (b ≡ false → A) → A
either_none true b e f g = g e
either_none false b e f g = f refl

own_meet : (own : Option ℕ) (a : sets.Set) (f : ℕ → sets.Set) (g : ℕ → Bool) → All a → ((label : ℕ) → g label ≡ false → All (f label)) → of_own own g ≡ false → All (meet_own own a f)
own_meet None a f g h k e = h
own_meet (Some label) a f g h k e = all_meet h (k label e)

taken_jump : (a : sets.Set) (b : Bool) → b ≡ false → All (if b then a else everything)
taken_jump a true e = absurd (false≢true (sym e))
taken_jump a false e = all_of

under_label : (a : sets.Set) (b l : Bool) → (l ≡ false → All a) → (not b && l) ≡ false → All (if b then everything else a)
under_label a true l f e = all_of
under_label a false l f e = f e

through : (a b : sets.Set) (l c : Bool) → (l ≡ false → All a) → (l && c) ≡ false → All (if c then join a b else everything)
through a b l true f e = all_first b (f (go l e))
  where
    go : (l : Bool) → (l && true) ≡ false → l ≡ false
    go true e = e
    go false e = refl
through a b l false f e = all_of

no_default : (b : Bool) (a : sets.Set) → b ≡ true → All (if b then everything else a)
no_default true a e = all_of
no_default false a e = absurd (false≢true e)

module _ (site : Site) (result : Option JType) (constructs may_return : Bool) where
  abbrev known : Surroundings
  known = constants_of site

  -- where statements stand, for the rules of reachability, and for those of types
  abbrev pub reach_site : reaching.Site
  reach_site = record { around = constants_of site; may_return = may_return }

  abbrev pub taking : List Jump → Around
  taking targets = record { site = site; result = result; constructs = constructs; targets = targets }

  behind_none : (a : sets.Set) (p : ℕ) (list : Stms) → Holds (list_reach reach_site false p list) → All a → All (after_list known list a)
  behind_none a p Empty r h = h
  behind_none a p (And first rest) r h = absurd (false≢true r.0)

  all_after_rest : (p : ℕ) (a : sets.Set) (list : Stms) (b : Bool) → Holds (list_reach reach_site b p list) → (b && list_completes known list) ≡ false → (b ≡ false → All a)
      → (Holds (list_reach reach_site true p list) → list_completes known list ≡ false → All (after_list known list a)) → All (after_list known list a)
  all_after_rest p a list true r e f g = g r e
  all_after_rest p a list false r e f g = behind_none a p list r (f refl)

  all_before_rest : (jump : Jump) (p : ℕ) (a : sets.Set) (list : Stms) (b : Bool) → Holds (list_reach reach_site b p list) → (b && list_leaves known jump list) ≡ false
      → (Holds (list_reach reach_site true p list) → list_leaves known jump list ≡ false → All (before_list_jump known jump list a)) → All (before_list_jump known jump list a)
  all_before_rest jump p a list true r e g = g r e
  all_before_rest jump p a Empty false r e g = all_of
  all_before_rest jump p a (And first rest) false r e g = absurd (false≢true r.0)

  mutual
    pub all_after : (place : Place) (targets : List Jump) (scope : Scope) (q p : ℕ) (a : sets.Set) (statement : Stm) → Holds (stm_types (taking targets) place scope q statement) → Holds (stm_reach reach_site true p statement)
        → completes known (label_at place) statement ≡ false → All (after known (label_at place) statement a)
    all_after place targets scope q p a (Block list) t r e = all_after_list targets scope (q + 1) (p + 1) a list t r e
    all_after place targets scope q p a (Labelled label statement) t r e =
        let i = or_none (completes known (Some label) statement) (leaves known (jumps.Break label) statement) e in
        all_meet (all_after (Behind label) (targets ++ jumps.Break label ∷ []) scope (q + 1) (p + 1) a statement t.1.1 r i.0)
        (all_before (jumps.Break label) (Behind label) (targets ++ jumps.Break label ∷ []) scope (q + 1) (p + 1) a statement t.1.1 r i.1)
    all_after place targets scope q p a (Declare variable kind initial) t r e = absurd (false≢true (sym e))
    all_after place targets scope q p a (Set variable new) t r e = absurd (false≢true (sym e))
    all_after place targets scope q p a (SetField object name new) t r e = absurd (false≢true (sym e))
    all_after place targets scope q p a (SetStatic class name new) t r e = absurd (false≢true (sym e))
    all_after place targets scope q p a (SetElement array index new) t r e = absurd (false≢true (sym e))
    all_after place targets scope q p a (Run call) t r e = absurd (false≢true (sym e))
    all_after place targets scope q p a (If test first second) t r e =
        let k = or_none (list_completes known first) (list_completes known second) e in
        all_meet (all_after_list targets scope (q + 1 + weight_of_exp test) (p + 1 + weight_of_exp test) (when known test a).true first t.1.1.0 r.0 k.0)
        (all_after_list targets scope (q + 1 + weight_of_exp test + weight_of_stms first) (p + 1 + weight_of_exp test + weight_of_stms first) (when known test a).false second t.1.1.1 r.1 k.1)
    all_after place targets scope q p a (While test body) t r e = never_false site scope (q + 1) a test t.1.0 t.0 (not_not (is_always true (constant_truth known test)) e)
    all_after place targets scope q p a (Switch on groups) t r e =
        let k = or_none (not (is_labelled None groups)) (groups_complete known true groups) e in
        all_meet (all_after_groups targets scope (q + 1 + weight_of_exp on) (p + 1 + weight_of_exp on) true everything (after_exp known on a) groups t.1.1.1 r (λ i. absurd (false≢true (sym i))) k.1)
        (no_default (is_labelled None groups) (groups_passed_over groups (after_exp known on a)) (not_not (is_labelled None groups) k.0))
    all_after place targets scope q p a (trees.Break label) t r e = all_of
    all_after place targets scope q p a (trees.Continue label) t r e = all_of
    all_after place targets scope q p a (Return value) t r e = all_of
    all_after place targets scope q p a (Throw exception) t r e = all_of
    all_after place targets scope q p a (Rethrow variable) t r e = all_of
    all_after place targets scope q p a (Try body clauses) t r e =
        let k = or_none (list_completes known body) (catches_complete known clauses) e in
        all_meet (all_after_list targets scope (q + 1) (p + 1) a body t.1.1.0 r.1.0 k.0) (all_after_clauses targets scope (q + 1 + weight_of_stms body) (p + 1 + weight_of_stms body) a clauses t.1.1.1 r.1.1 k.1)
    all_after place targets scope q p a (Synchronized monitor body) t r e = all_after_list targets scope (q + 1 + weight_of_exp monitor) (p + 1 + weight_of_exp monitor) (after_exp known monitor a) body t.1.1 r e
    all_after place targets scope q p a (Construct own arguments) t r e = absurd (false≢true (sym e))
    all_after place targets scope q p a (Do body test) t r e =
        either_none (list_completes known body || of_own (label_at place) (λ label. list_leaves known (jumps.Continue label) body)) (not (is_always true (constant_truth known test))) e
        (λ k.
        let o = or_none (list_completes known body) (of_own (label_at place) (λ label. list_leaves known (jumps.Continue label) body)) k in
        (all_when known test (own_meet (label_at place) (after_list known body a) (λ label. before_list_jump known (jumps.Continue label) body a) (λ label. list_leaves known (jumps.Continue label) body)
        (all_after_list (targets ++ turns_of (label_at place)) scope (q + 1) (p + 1) a body t.1.0 r o.0)
        (λ label. all_before_list (jumps.Continue label) (targets ++ turns_of (label_at place)) scope (q + 1) (p + 1) a body t.1.0 r) o.1)).false)
        (λ k. never_false site scope (q + 1 + weight_of_stms body) (meet_own (label_at place) (after_list known body a) (λ label. before_list_jump known (jumps.Continue label) body a)) test t.1.1 t.0 (not_not (is_always true (constant_truth known test)) k))
    all_after place targets scope q p a (For test variable step body) t r e =
        never_false site scope (q + 1) a test t.1.1.0 (and_parts (is_test site scope test) (exp_goes site scope step (scope variable)) t.1.0).0 (not_not (is_always true (constant_truth known test)) e)
    all_after place targets scope q p a (Finally body last) t r e =
        either_none (list_completes known body) (list_completes known last) e (λ i. all_first (after_list known last a) (all_after_list targets scope (q + 1) (p + 1) a body t.0 r.0 i))
        (λ i. all_second (after_list known body a) (all_after_list targets scope (q + 1 + weight_of_stms body) (p + 1 + weight_of_stms body) a last t.1 r.1 i))

    pub all_after_list : (targets : List Jump) (scope : Scope) (q p : ℕ) (a : sets.Set) (list : Stms) → Holds (list_types (taking targets) scope q list) → Holds (list_reach reach_site true p list) → list_completes known list ≡ false → All (after_list known list a)
    all_after_list targets scope q p a Empty t r e = absurd (false≢true (sym e))
    all_after_list targets scope q p a (And first rest) t r e =
        all_after_rest (p + weight_of first) (after known None first a) rest (completes known None first) r.1.1 e (λ i. all_after Elsewhere targets scope q p a first t.0 r.1.0 i)
        (λ s i. all_after_list targets (within (declared first) scope) (q + weight_of first) (p + weight_of first) (after known None first a) rest t.1 s i)

    all_after_clauses : (targets : List Jump) (scope : Scope) (q p : ℕ) (a : sets.Set) (clauses : Catches) → Holds (catches_types (taking targets) scope q clauses) → Holds (catches_reach reach_site true p clauses) → catches_complete known clauses ≡ false
        → All (after_catches known clauses a)
    all_after_clauses targets scope q p a NoCatches t r e = all_of
    all_after_clauses targets scope q p a (AndCatch class variable body rest) t r e =
        let i = or_none (list_completes known body) (catches_complete known rest) e in
        all_meet (all_after_list targets (with_type variable (Class class) scope) q p (with variable a) body t.0 r.0 i.0) (all_after_clauses targets scope (q + weight_of_stms body) (p + weight_of_stms body) a rest t.1 r.1 i.1)

    all_after_groups : (targets : List Jump) (scope : Scope) (q p : ℕ) (falls : Bool) (before a : sets.Set) (groups : Groups) → Holds (groups_types (taking targets) scope q groups) → Holds (groups_reach reach_site true p groups)
        → (falls ≡ false → All before) → groups_complete known falls groups ≡ false → All (after_groups known groups before a)
    all_after_groups targets scope q p falls before a NoGroups t r f e = f e
    all_after_groups targets scope q p falls before a (AndGroup labels body rest) t r f e =
        all_after_groups targets (behind body scope) (q + weight_of_stms body) (p + weight_of_stms body) (list_completes known body) (after_list known body (meet before a)) (list_passed_over body a) rest t.1 r.1
        (λ i. all_after_list targets scope q p (meet before a) body t.0 r.0 i) e

    pub all_before : (jump : Jump) (place : Place) (targets : List Jump) (scope : Scope) (q p : ℕ) (a : sets.Set) (statement : Stm) → Holds (stm_types (taking targets) place scope q statement) → Holds (stm_reach reach_site true p statement)
        → leaves known jump statement ≡ false → All (before_jump known jump statement a)
    all_before jump place targets scope q p a (Block list) t r e = all_before_list jump targets scope (q + 1) (p + 1) a list t r e
    all_before jump place targets scope q p a (Labelled label statement) t r e =
        under_label (before_jump known jump statement a) (is_jump_to label jump) (leaves known jump statement) (all_before jump (Behind label) (targets ++ jumps.Break label ∷ []) scope (q + 1) (p + 1) a statement t.1.1 r) e
    all_before jump place targets scope q p a (Declare variable kind initial) t r e = all_of
    all_before jump place targets scope q p a (Set variable new) t r e = all_of
    all_before jump place targets scope q p a (SetField object name new) t r e = all_of
    all_before jump place targets scope q p a (SetStatic class name new) t r e = all_of
    all_before jump place targets scope q p a (SetElement array index new) t r e = all_of
    all_before jump place targets scope q p a (Run call) t r e = all_of
    all_before jump place targets scope q p a (If test first second) t r e =
        let k = or_none (list_leaves known jump first) (list_leaves known jump second) e in
        all_meet (all_before_list jump targets scope (q + 1 + weight_of_exp test) (p + 1 + weight_of_exp test) (when known test a).true first t.1.1.0 r.0 k.0)
        (all_before_list jump targets scope (q + 1 + weight_of_exp test + weight_of_stms first) (p + 1 + weight_of_exp test + weight_of_stms first) (when known test a).false second t.1.1.1 r.1 k.1)
    all_before jump place targets scope q p a (While test body) t r e =
        all_before_list jump (targets ++ turns_of (label_at place)) scope (q + 1 + weight_of_exp test) (p + 1 + weight_of_exp test) (when known test a).true body t.1.1 r.1 e
    all_before jump place targets scope q p a (Switch on groups) t r e = all_before_groups jump targets scope (q + 1 + weight_of_exp on) (p + 1 + weight_of_exp on) everything (after_exp known on a) groups t.1.1.1 r e
    all_before jump place targets scope q p a (trees.Break label) t r e = taken_jump a (is_same_jump (jumps.Break label) jump) e
    all_before jump place targets scope q p a (trees.Continue label) t r e = taken_jump a (is_same_jump (jumps.Continue label) jump) e
    all_before jump place targets scope q p a (Return value) t r e = all_of
    all_before jump place targets scope q p a (Throw exception) t r e = all_of
    all_before jump place targets scope q p a (Rethrow variable) t r e = all_of
    all_before jump place targets scope q p a (Try body clauses) t r e =
        let k = or_none (list_leaves known jump body) (catches_leave known jump clauses) e in
        all_meet (all_before_list jump targets scope (q + 1) (p + 1) a body t.1.1.0 r.1.0 k.0) (all_before_clauses jump targets scope (q + 1 + weight_of_stms body) (p + 1 + weight_of_stms body) a clauses t.1.1.1 r.1.1 k.1)
    all_before jump place targets scope q p a (Synchronized monitor body) t r e =
        all_before_list jump targets scope (q + 1 + weight_of_exp monitor) (p + 1 + weight_of_exp monitor) (after_exp known monitor a) body t.1.1 r e
    all_before jump place targets scope q p a (Construct own arguments) t r e = all_of
    all_before jump place targets scope q p a (Do body test) t r e = all_before_list jump (targets ++ turns_of (label_at place)) scope (q + 1) (p + 1) a body t.1.0 r e
    all_before jump place targets scope q p a (For test variable step body) t r e =
        all_before_list jump (targets ++ turns_of (label_at place)) scope (q + 1 + weight_of_exp test + weight_of_exp step) (p + 1 + weight_of_exp test + weight_of_exp step) (when known test a).true body t.1.1.1.1 r.1 e
    all_before jump place targets scope q p a (Finally body last) t r e =
        let k = or_none (list_leaves known jump body && list_completes known last) (list_leaves known jump last) e in
        all_meet (through (before_list_jump known jump body a) (after_list known last a) (list_leaves known jump body) (list_completes known last) (all_before_list jump targets scope (q + 1) (p + 1) a body t.0 r.0) k.0)
        (all_before_list jump targets scope (q + 1 + weight_of_stms body) (p + 1 + weight_of_stms body) a last t.1 r.1 k.1)

    pub all_before_list : (jump : Jump) (targets : List Jump) (scope : Scope) (q p : ℕ) (a : sets.Set) (list : Stms) → Holds (list_types (taking targets) scope q list) → Holds (list_reach reach_site true p list) → list_leaves known jump list ≡ false
        → All (before_list_jump known jump list a)
    all_before_list jump targets scope q p a Empty t r e = all_of
    all_before_list jump targets scope q p a (And first rest) t r e =
        let k = or_none (leaves known jump first) (completes known None first && list_leaves known jump rest) e in
        all_meet (all_before jump Elsewhere targets scope q p a first t.0 r.1.0 k.0)
        (all_before_rest jump (p + weight_of first) (after known None first a) rest (completes known None first) r.1.1 k.1
        (λ s i. all_before_list jump targets (within (declared first) scope) (q + weight_of first) (p + weight_of first) (after known None first a) rest t.1 s i))

    all_before_clauses : (jump : Jump) (targets : List Jump) (scope : Scope) (q p : ℕ) (a : sets.Set) (clauses : Catches) → Holds (catches_types (taking targets) scope q clauses) → Holds (catches_reach reach_site true p clauses)
        → catches_leave known jump clauses ≡ false → All (before_catches_jump known jump clauses a)
    all_before_clauses jump targets scope q p a NoCatches t r e = all_of
    all_before_clauses jump targets scope q p a (AndCatch class variable body rest) t r e =
        let i = or_none (list_leaves known jump body) (catches_leave known jump rest) e in
        all_meet (all_before_list jump targets (with_type variable (Class class) scope) q p (with variable a) body t.0 r.0 i.0) (all_before_clauses jump targets scope (q + weight_of_stms body) (p + weight_of_stms body) a rest t.1 r.1 i.1)

    all_before_groups : (jump : Jump) (targets : List Jump) (scope : Scope) (q p : ℕ) (before a : sets.Set) (groups : Groups) → Holds (groups_types (taking targets) scope q groups) → Holds (groups_reach reach_site true p groups)
        → groups_leave known jump groups ≡ false → All (before_groups_jump known jump groups before a)
    all_before_groups jump targets scope q p before a NoGroups t r e = all_of
    all_before_groups jump targets scope q p before a (AndGroup labels body rest) t r e =
        let i = or_none (list_leaves known jump body) (groups_leave known jump rest) e in
        all_meet (all_before_list jump targets scope q p (meet before a) body t.0 r.0 i.0)
        (all_before_groups jump targets (behind body scope) (q + weight_of_stms body) (p + weight_of_stms body) (after_list known body (meet before a)) (list_passed_over body a) rest t.1 r.1 i.1)
