-- Lists with what stands behind them, and what a jump over them leaves.
use Rattle.std.proofs.Common.{ℕ, ℤ, ◌+◌, Bool, true, false, not, ◌&&◌, ◌||◌, List, Option, Some, None, ◌≡◌, refl, sym, subst}
use Rattle.std.specs.Prelude.{is_some, if◌then◌else◌}
use Rattle.std.proofs.lemmas.Bool.{and_parts, and_from, false≢true}
use Rattle.dj_names.specs.declared.header.Header.{Header}
use Rattle.dj_names.specs.Types.{JType}
use Rattle.dj_syntax.specs.declared.variable.Var.{Var}
use Rattle.dj_syntax.specs.Trees.{Stm, Declare, Stms, Empty, And, Groups, NoGroups, AndGroup}
use Rattle.dj_syntax.specs.WellFormedTrees.{is_declaration}
use Rattle.dj_syntax.specs.Weight.{weight_of}
use Rattle.dj_values.specs.Outcomes.{State, Outcome}
use Rattle.dj_meaning.specs.StaticTypes.{Scope}
use Rattle.dj_meaning.specs.Runs.{Store, Meaning, pure, ◌>>=◌}
use Rattle.dj_meaning.specs.Declarations.{declared, within, behind, opened, passed, passed_one}
use Rattle.dj_meaning.specs.Completions.{Completion, Normal, Break, Continue, Return, Misfit, sequence}
use Rattle.dj_meaning.specs.Statements.{Place, Elsewhere, is_labelled, label_for}
use Rattle.dj_places.specs.Constants.{Surroundings}
use Rattle.dj_places.specs.Rules.{Holds}
use Rattle.dj_reach.specs.declared.jump.Jump.{Jump}
use Rattle.dj_reach.specs.declared.jump.Jump.TheVariants as jumps
use Rattle.dj_reach.specs.Reach.{completes, list_completes, leaves, list_leaves, groups_complete}
use Rattle.dj_variables.specs.Sets as sets
use Rattle.dj_variables.specs.Sets.{everything, with, without, meet}
use Rattle.dj_assigned.specs.Assigned.{passed_over, list_passed_over, groups_passed_over, after, after_list, before_jump, before_list_jump}
use Rattle.dj_typing.specs.Sites.{may_name_type}
use Rattle.dj_typed.specs.Statements.{Around, stm_types, list_types}
use Rattle.dj_held.specs.Replies.{Ends}
use Rattle.dj_held.specs.Reaching.{Reaches, Leaves}
use Rattle.dj_held.proofs.Ending.{ends, then_ends as bind}
use Rattle.dj_held.proofs.Invariant.{in_left, in_right, fewer}
use Rattle.dj_never_stuck.specs.Ways.{Flow, Completes}
use Rattle.dj_never_stuck.proofs.Runs.{IsNew, weaken}
use Rattle.dj_never_stuck.specs.Flows.{flow, list_flow, then_flow}
use Rattle.dj_never_stuck.proofs.Flows.{narrow}
use Rattle.dj_never_stuck.proofs.Endings.{ends_locally, opens}

-- ---- what a statement declares is new

no_type : (found other : Bool) → (not found && other) ≡ true → found ≡ false
no_type false other e = refl
no_type true other e = absurd (false≢true e)

pub declares_new : (around : Around) (place : Place) (scope : Scope) (p : ℕ) (m : Stm) → Holds (stm_types around place scope p m) → IsNew scope (declared m)
declares_new around place scope p (Declare variable kind initial) t = no_type (is_some (scope variable)) (may_name_type around.site kind) t.0
declares_new around place scope p m t = tt

-- what is no declaration declares nothing
pub declares_nothing : (m : Stm) → is_declaration m ≡ false → declared m ≡ None
declares_nothing (Declare variable kind initial) e = absurd (false≢true (sym e))
declares_nothing m e = refl

-- ---- lists

-- what stands behind the list ends well
abbrev pub IsBehind : (headers : List Header) (result : Option JType) (targets : List Jump) (around : Surroundings) → Scope → sets.Set → State Store → Stms → Flow → Meaning Completion → Type 0
IsBehind headers result targets around scope a z ms h next =
    (u : State Store) → Reaches headers (behind ms scope) (after_list around ms a) z u → Ends Completion (Completes headers result targets (behind ms scope) h z) (Leaves headers (behind ms scope) z) (next u)

abbrev done_flow : Surroundings → Stms → sets.Set → Flow
done_flow around ms a = record { completes = true; leaves = λ jump. false; after = after_list around ms a; before = λ jump. everything }

or_of_none : (b c : Bool) → (b || (c && false)) ≡ true → b ≡ true
or_of_none true c e = refl
or_of_none false true e = absurd (false≢true e)
or_of_none false false e = absurd (false≢true e)

-- a list alone
pub list_of : (headers : List Header) (result : Option JType) (targets : List Jump) (around : Surroundings) (scope : Scope) (a : sets.Set) (z s : State Store) (ms : Stms) (run : Meaning Completion → Meaning Completion)
    → ((next : Meaning Completion) (h : Flow) → IsBehind headers result targets around scope a z ms h next → Ends Completion (Completes headers result targets scope (then_flow around ms a h) z) (Leaves headers scope z) (run next s))
    → Ends Completion (Completes headers result targets scope (list_flow around ms a) z) (Leaves headers scope z) (run (pure Normal) s)
list_of headers result targets around scope a z s ms run f =
    weaken (f (pure Normal) (done_flow around ms a) (λ u r. ends Normal u (record { possible = refl; lands = tt; reaches = r }))) (λ d t h. narrow d (record {
      completes = λ e. (and_parts (list_completes around ms) true e).0;
      leaves = λ j. or_of_none (list_leaves around j ms) (list_completes around ms);
      after = λ x i. i;
      before = λ j x i. and_from (before_list_jump around j ms a x) true i refl;
    }) h) (λ e t h. h)

then_or : (l c k h : Bool) (j : Bool) → c ≡ true → (k || (l && h)) ≡ true → ((j || (c && k)) || ((c && l) && h)) ≡ true
then_or l true k h true e f = refl
then_or l true k h false e f = f
then_or l false k h j e f = absurd (false≢true e)

jump_or : (j b h : Bool) → j ≡ true → ((j || b) || h) ≡ true
jump_or true b h e = refl
jump_or false b h e = absurd (false≢true e)

then_and : (c l h : Bool) → c ≡ true → (l && h) ≡ true → ((c && l) && h) ≡ true
then_and true l h e f = f
then_and false l h e f = absurd (false≢true e)

-- a statement, and then what stands behind it
pub sequences : (headers : List Header) (result : Option JType) (targets : List Jump) (around : Surroundings) (scope : Scope) (a : sets.Set) (z : State Store) (m : Stm) (ms : Stms) (h : Flow) (next : Meaning Completion)
    → ((u : State Store) → Reaches headers scope (after around None m a) z u → Ends Completion (Completes headers result targets scope (then_flow around ms (after around None m a) h) z) (Leaves headers scope z) (next u))
    → (d : Completion) (u : State Store) → Completes headers result targets scope (flow around None m a) z d u → Ends Completion (Completes headers result targets scope (then_flow around (And m ms) a h) z) (Leaves headers scope z) (sequence next d u)
sequences headers result targets around scope a z m ms h next k Normal u i = weaken (k u i.reaches) (λ w v l. narrow w (record {
  completes = then_and (completes around None m) (list_completes around ms) h.completes i.possible;
  leaves = λ j. then_or (list_completes around ms) (completes around None m) (list_leaves around j ms) (h.leaves j) (leaves around j m) i.possible;
  after = λ x o. o;
  before = λ j x o. and_from _ _ (in_right (before_jump around j m a) (before_list_jump around j ms (after around None m a)) x (in_left (before_list_jump around j (And m ms) a) (h.before j) x o)) (in_right (before_list_jump around j (And m ms) a) (h.before j) x o);
}) l) (λ e v l. l)
sequences headers result targets around scope a z m ms h next k (Break label) u i = ends (Break label) u (record {
  possible = jump_or (leaves around (jumps.Break label) m) (completes around None m && list_leaves around (jumps.Break label) ms) (list_completes around (And m ms) && h.leaves (jumps.Break label)) i.possible;
  lands = i.lands;
  reaches = fewer _ i.reaches (λ x o. in_left (before_jump around (jumps.Break label) m a) (before_list_jump around (jumps.Break label) ms (after around None m a)) x (in_left (before_list_jump around (jumps.Break label) (And m ms) a) (h.before (jumps.Break label)) x o));
})
sequences headers result targets around scope a z m ms h next k (Continue label) u i = ends (Continue label) u (record {
  possible = jump_or (leaves around (jumps.Continue label) m) (completes around None m && list_leaves around (jumps.Continue label) ms) (list_completes around (And m ms) && h.leaves (jumps.Continue label)) i.possible;
  lands = i.lands;
  reaches = fewer _ i.reaches (λ x o. in_left (before_jump around (jumps.Continue label) m a) (before_list_jump around (jumps.Continue label) ms (after around None m a)) x (in_left (before_list_jump around (jumps.Continue label) (And m ms) a) (h.before (jumps.Continue label)) x o));
})
sequences headers result targets around scope a z m ms h next k (Return value) u i = ends (Return value) u (record { possible = tt; lands = i.lands; reaches = i.reaches })
sequences headers result targets around scope a z m ms h next k Misfit u i = absurd i.possible

-- ---- what is passed over

pub passed_within : (m : Stm) (set : sets.Set) (x : Var) → passed_over m set x ≡ true → set x ≡ true
passed_within (Declare variable kind initial) set x e = (and_parts _ (set x) e).1
passed_within m set x e = e

pub list_passed_within : (ms : Stms) (set : sets.Set) (x : Var) → list_passed_over ms set x ≡ true → set x ≡ true
list_passed_within Empty set x e = e
list_passed_within (And m ms) set x e = passed_within m set x (list_passed_within ms (passed_over m set) x e)

pub groups_passed_within : (gs : Groups) (set : sets.Set) (x : Var) → groups_passed_over gs set x ≡ true → set x ≡ true
groups_passed_within NoGroups set x e = e
groups_passed_within (AndGroup labels body rest) set x e = list_passed_within body set x (groups_passed_within rest (list_passed_over body set) x e)

module _ (headers : List Header) (result : Option JType) (targets : List Jump) (f : Flow) (z : State Store) where
  abbrev Ending : Scope → Outcome Store Completion → Type 0
  Ending scope = Ends Completion (Completes headers result targets scope f z) (Leaves headers scope z)

  passes_one : (around : Around) (place : Place) (scope : Scope) (a : sets.Set) (p : ℕ) (s : State Store) (m : Stm) (next : Meaning Completion) → Holds (stm_types around place scope p m)
      → ((t : State Store) → Reaches headers (within (declared m) scope) (passed_over m a) z t → Ending (within (declared m) scope) (next t))
      → Reaches headers scope a z s → Ending scope (passed_one scope (declared m) next s)
  passes_one around place scope a p s (Declare variable kind initial) next t k r =
      let new : is_some (scope variable) ≡ false = no_type (is_some (scope variable)) (may_name_type around.site kind) t.0 in
      ends_locally (Some (variable, kind)) (opened scope variable >>= λ done. next) s r new
      (bind (opens variable kind s r new) (λ done u m. k u m))
  passes_one around place scope a p s m next t k r = k s r

  pub list_passes : (around : Around) (scope : Scope) (a : sets.Set) (p : ℕ) (s : State Store) (ms : Stms) (next : Meaning Completion) → Holds (list_types around scope p ms)
      → ((t : State Store) → Reaches headers (behind ms scope) (list_passed_over ms a) z t → Ending (behind ms scope) (next t))
      → Reaches headers scope a z s → Ending scope (passed scope ms next s)
  list_passes around scope a p s Empty next t k r = k s r
  list_passes around scope a p s (And m ms) next t k r =
      passes_one around Elsewhere scope a p s m (passed (within (declared m) scope) ms next) t.0
      (λ u h. list_passes around (within (declared m) scope) (passed_over m a) (p + weight_of m) u ms next t.1 k h) r

-- ---- groups

-- the last group decides, whether what comes before it completes or not
pub group_completes : (around : Surroundings) (gs : Groups) (b : Bool) → (b && groups_complete around true gs) ≡ true → groups_complete around b gs ≡ true
group_completes around gs true e = e
group_completes around gs false e = absurd (false≢true e)

pub group_leaves : (j c k : Bool) → (j || (c && k)) ≡ true → (j || k) ≡ true
group_leaves true c k e = refl
group_leaves false true k e = e
group_leaves false false k e = absurd (false≢true e)

-- where a number leads there is a label
pub label_there : (gs : Groups) (number : ℤ) (label : Option ℤ) → label_for gs number ≡ Some label → is_labelled label gs ≡ true
label_there gs number label is = go (is_labelled (Some number) gs) (is_labelled None gs) refl refl is
  where
    same : {A : Type 0} {first second : A} → Some first ≡ Some second → first ≡ second
    same e = cc

    go : (one other : Bool) → is_labelled (Some number) gs ≡ one → is_labelled None gs ≡ other → (if one then Some (Some number) else if other then Some None else None) ≡ Some label → is_labelled label gs ≡ true
    go true other e f is = subst (λ l. is_labelled l gs ≡ true) (same is) e
    go false true e f is = subst (λ l. is_labelled l gs ≡ true) (same is) f
    go false false e f is = absurd cc

pub no_label_there : (gs : Groups) (number : ℤ) → label_for gs number ≡ None → is_labelled None gs ≡ false
no_label_there gs number is = go (is_labelled (Some number) gs) (is_labelled None gs) refl is
  where
    go : (one other : Bool) → is_labelled None gs ≡ other → (if one then Some (Some number) else if other then Some None else None) ≡ None → is_labelled None gs ≡ false
    go one false f is = f
    go true true f is = absurd cc
    go false true f is = absurd cc
