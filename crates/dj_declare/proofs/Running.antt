-- A tree made lawful runs as it did: an equation of meanings, at each bound.
use Rattle.std.proofs.Common.{ℕ, zero, suc, ℤ, ◌+◌, Bool, true, false, not, ◌&&◌, ◌||◌, List, [], ◌∷◌, ◌++◌, Option, Some, None, ◌≡◌, refl, sym, ap, ◌∙◌, subst}
use Rattle.std.specs.Prelude.{is_some, if◌then◌else◌}
use Rattle.std.proofs.lemmas.Bool.{false≢true}
use Rattle.dj_names.specs.Types.{Class}
use Rattle.dj_syntax.specs.Trees.{Exp, Stm, Block, Labelled, Declare, Set, SetField, SetStatic, SetElement, Run, If, While, Switch, Return, Throw, Rethrow, Try, Synchronized, Construct, Do, For, Finally, Stms, Empty, And, Groups, NoGroups, AndGroup, Catches, NoCatches, AndCatch}
use Rattle.dj_syntax.specs.Trees as trees
use Rattle.dj_syntax.specs.Weight.{weight_of, weight_of_exp, weight_of_stms}
use Rattle.dj_values.specs.Values.{RefValue}
use Rattle.dj_values.specs.Deciding.{is_instance}
use Rattle.dj_values.specs.Outcomes.{More, State, Outcome, Is, Stops, bind, outside}
use Rattle.dj_meaning.specs.StaticTypes.{Scope, with_type}
use Rattle.dj_meaning.specs.Runs.{Store, Meaning, pure, stop, stuck, ◌>>=◌, map_state, with_store, with_value, put, local, assigned}
use Rattle.dj_meaning.specs.Expressions.{either, value, test}
use Rattle.dj_meaning.specs.Completions.{Completion, Normal, Break, Continue, Return, Misfit, sequence, taken, next_turn, turns, do_turns, handled, finished}
use Rattle.dj_meaning.specs.Declarations.{declared, within, behind, locally, opened, passed_one, passed, caught}
use Rattle.dj_meaning.specs.Statements.{Place, First, Behind, Elsewhere, label_at, is_labelled, has_label, label_for, number_of, switched, synchronized}
use Rattle.dj_meaning.specs.Ways.{Ways, EndsSo}
use Rattle.dj_meaning.specs.Meaning.{run, run_then, run_groups, run_from, run_clauses}
use Rattle.dj_meaning.proofs.Ending.{EndsIn}
use Rattle.dj_places.specs.Constants.{Surroundings, constant_truth, is_always}
use Rattle.dj_places.specs.Rules.{Holds}
use Rattle.dj_reach.specs.declared.jump.Jump.{Jump}
use Rattle.dj_reach.specs.declared.jump.Jump.TheVariants as jumps
use Rattle.dj_reach.specs.Reach.{completes, list_completes}
use Rattle.dj_typing.specs.Expressions.{exp_types}
use Rattle.dj_typed.specs.Statements.{turns_of, stm_types, list_types, catches_types, groups_types}
use Rattle.dj_held.specs.Running.{Running, context, IsInOrder}
use Rattle.dj_declare.specs.Lawful.{Declared, declared_then, and_more, all_declared, lawful, all_lawful, lawful_clauses, lawful_groups, lost}
use Rattle.dj_declare.specs.Laws.{running_in, LawfulRuns}
use Rattle.dj_never_stuck.proofs.Lists.{label_there}
use Rattle.dj_declare.proofs.Reaching.{labels_kept}
use Rattle.dj_declare.proofs.Typing.{same_declared, behind_all, AreNew, all_behind, lost_behind, declared_scope, types_on, list_types_on}
use Rattle.dj_declare.proofs.Ending.{exits, always_test, taking, known, ends_run}

-- ---- what is never come to

never_so : (ways : Ways) (run : Outcome Store Completion) (one other : Meaning Completion) → ways.falls ≡ false → EndsSo ways run → bind run (sequence one) ≡ bind run (sequence other)
never_so ways (Is Normal state) one other e so = absurd (false≢true (sym e ∙ so))
never_so ways (Is (Break label) state) one other e so = refl
never_so ways (Is (Continue label) state) one other e so = refl
never_so ways (Is (Return result) state) one other e so = refl
never_so ways (Is Misfit state) one other e so = refl
never_so ways (Stops why state) one other e so = refl

-- ---- declarations that are jumped over, or come first

-- these are declared, without values, around a part
abbrev opening : Scope → List Declared → Meaning Completion → Meaning Completion
opening scope [] part = part
opening scope (one ∷ more) part = local one.0 (opened scope one.0 >>= λ done. opening (with_type one.0 one.1 scope) more part)

opened_then : (scope : Scope) (one : Declared) (part : Meaning Completion) → ((opened scope one.0 >>= λ done. pure Normal) >>= sequence part) ≡ (opened scope one.0 >>= λ done. part)
opened_then scope one part = λ i state. go (opened scope one.0 state) i
  where
    go : (run : Outcome Store (Unit {0})) → bind (bind run (λ done. pure Normal)) (sequence part) ≡ bind run (λ done. part)
    go (Is result state) = refl
    go (Stops why state) = refl

passed_more : (scope : Scope) (one : _) (more : List Declared) (part : Meaning Completion) → opening scope (and_more one more) part ≡ passed_one scope one (opening (within one scope) more part)
passed_more scope None more part = refl
passed_more scope (Some one) more part = refl

all_opening : (scope : Scope) (list : Stms) (part : Meaning Completion) → opening scope (all_declared list) part ≡ passed scope list part
all_opening scope Empty part = refl
all_opening scope (And first rest) part = passed_more scope (declared first) (all_declared rest) part ∙ ap (passed_one scope (declared first)) (all_opening (within (declared first) scope) rest part)

declared_passed : (scope : Scope) (more : List Declared) (list : Stms) (part : Meaning Completion) → passed scope (declared_then more list) part ≡ opening scope more (passed (behind_all more scope) list part)
declared_passed scope [] list part = refl
declared_passed scope (one ∷ more) list part = ap (λ inner. local one.0 (opened scope one.0 >>= λ done. inner)) (declared_passed (with_type one.0 one.1 scope) more list part)

module _ (around : Surroundings) where
  -- what is kept and what is lost are jumped over together
  lost_passed : (scope : Scope) (list : Stms) (part : Meaning Completion) → passed scope (all_lawful around list) (opening (behind (all_lawful around list) scope) (lost around list) part) ≡ passed scope list part
  lost_passed scope Empty part = refl
  lost_passed scope (And first rest) part =
      subst (λ one. passed_one scope one (passed (within one scope) (if completes around None (lawful around first) then all_lawful around rest else Empty)
      (opening (behind (if completes around None (lawful around first) then all_lawful around rest else Empty) (within one scope)) (lost around (And first rest)) part)) ≡ passed scope (And first rest) part) (sym (same_declared around first))
      (ap (passed_one scope (declared first)) (go (completes around None (lawful around first)) (within (declared first) scope) (lost_passed (within (declared first) scope) rest part)))
    where
      go : (b : Bool) (inner : Scope) → passed inner (all_lawful around rest) (opening (behind (all_lawful around rest) inner) (lost around rest) part) ≡ passed inner rest part
          → passed inner (if b then all_lawful around rest else Empty) (opening (behind (if b then all_lawful around rest else Empty) inner) (if b then lost around rest else all_declared rest) part) ≡ passed inner rest part
      go true inner e = e
      go false inner e = all_opening inner rest part

  -- nothing is lost where the list can complete normally
  nothing_lost : (list : Stms) → list_completes around (all_lawful around list) ≡ true → lost around list ≡ []
  nothing_lost Empty e = refl
  nothing_lost (And first rest) e = go (completes around None (lawful around first)) e (nothing_lost rest)
    where
      go : (b : Bool) → (b && list_completes around (if b then all_lawful around rest else Empty)) ≡ true → (list_completes around (all_lawful around rest) ≡ true → lost around rest ≡ [])
          → (if b then lost around rest else all_declared rest) ≡ []
      go true e f = f e
      go false e f = absurd (false≢true e)

same_label : (around : Surroundings) (groups : Groups) (number : ℤ) → label_for (lawful_groups around [] groups) number ≡ label_for groups number
same_label around groups number = λ i. if labels_kept around (Some number) [] groups i then Some (Some number) else if labels_kept around None [] groups i then Some None else None

module _ (running : Running) (order : IsInOrder running) (bound : ℕ) where
  never : (scope : Scope) (targets : List Jump) (p : ℕ) (statement : Stm) (one other : Meaning Completion) → Holds (stm_types (taking running order targets) Elsewhere scope p statement) → completes (known running order) None statement ≡ false
      → (run (context running) scope bound Elsewhere statement >>= sequence one) ≡ (run (context running) scope bound Elsewhere statement >>= sequence other)
  never scope targets p statement one other t e =
      λ i state. never_so (exits (known running order) None statement) (run (context running) scope bound Elsewhere statement state) one other e ((ends_run running order bound scope Elsewhere targets p statement t).ends state) i

  rest_unused : (scope : Scope) (targets : List Jump) (p : ℕ) (list : Stms) (one other : Meaning Completion) → Holds (list_types (taking running order targets) scope p list) → list_completes (known running order) list ≡ false
      → run_then (context running) scope bound list one ≡ run_then (context running) scope bound list other
  rest_unused scope targets p Empty one other t e = absurd (false≢true (sym e))
  rest_unused scope targets p (And first rest) one other t e =
      go (completes (known running order) None first) refl e (rest_unused (within (declared first) scope) targets (p + weight_of first) rest one other t.1)
    where
      go : (b : Bool) → completes (known running order) None first ≡ b → (b && list_completes (known running order) rest) ≡ false
          → (list_completes (known running order) rest ≡ false → run_then (context running) (within (declared first) scope) bound rest one ≡ run_then (context running) (within (declared first) scope) bound rest other)
          → run_then (context running) scope bound (And first rest) one ≡ run_then (context running) scope bound (And first rest) other
      go true i e f = ap (λ next. locally (declared first) (run (context running) scope bound Elsewhere first >>= sequence next)) (f e)
      go false i e f = ap (locally (declared first)) (never scope targets p first (run_then (context running) (within (declared first) scope) bound rest one) (run_then (context running) (within (declared first) scope) bound rest other) t.0 i)

  declared_runs : (scope : Scope) (more : List Declared) (list : Stms) (next : Meaning Completion) → run_then (context running) scope bound (declared_then more list) next ≡ opening scope more (run_then (context running) (behind_all more scope) bound list next)
  declared_runs scope [] list next = refl
  declared_runs scope (one ∷ more) list next =
      ap (local one.0) (opened_then scope one (run_then (context running) (with_type one.0 one.1 scope) bound (declared_then more list) next))
      ∙ ap (λ inner. local one.0 (opened scope one.0 >>= λ done. inner)) (declared_runs (with_type one.0 one.1 scope) more list next)

  -- ---- loops that never turn

  idle_turns : (scope : Scope) (p : ℕ) (condition : Exp) → Holds (exp_types running.site scope p condition) → is_always false (constant_truth (known running order) condition) ≡ true → (own : Option ℕ) (step : Meaning (Unit {0})) (body : Meaning Completion)
      → (more : ℕ) → pure Normal ≡ turns more own (test (context running) scope condition) step body
  idle_turns scope p condition t e own step body zero = λ i state. sym (ap (λ run. bind run (λ answer. either answer (stop More) (pure Normal))) (always_test running order false scope p condition state t e)) i
  idle_turns scope p condition t e own step body (suc more) =
      λ i state. sym (ap (λ run. bind run (λ answer. either answer (body >>= next_turn own (step >>= λ done. turns more own (test (context running) scope condition) step body)) (pure Normal))) (always_test running order false scope p condition state t e)) i

  kept_runs : (scope : Scope) (place : Place) (statement : Stm) (meaning : Meaning Completion) (idle : Bool) → (idle ≡ true → pure Normal ≡ meaning) → run (context running) scope bound place statement ≡ meaning
      → run (context running) scope bound place (if idle then Block Empty else statement) ≡ meaning
  kept_runs scope place statement meaning true f g = f refl
  kept_runs scope place statement meaning false f g = g

  cut_runs : (scope inner : Scope) (targets : List Jump) (p : ℕ) (statement : Stm) (rest : Stms) (next : Meaning Completion) (b : Bool) → Holds (stm_types (taking running order targets) Elsewhere scope p statement) → completes (known running order) None statement ≡ b
      → run_then (context running) inner bound (all_lawful (known running order) rest) next ≡ run_then (context running) inner bound rest next
      → (run (context running) scope bound Elsewhere statement >>= sequence (run_then (context running) inner bound (if b then all_lawful (known running order) rest else Empty) next))
      ≡ (run (context running) scope bound Elsewhere statement >>= sequence (run_then (context running) inner bound rest next))
  cut_runs scope inner targets p statement rest next true t e f = ap (λ later. run (context running) scope bound Elsewhere statement >>= sequence later) f
  cut_runs scope inner targets p statement rest next false t e f = never scope targets p statement next (run_then (context running) inner bound rest next) t e

  -- a group falls into the next, or loses what stands behind it
  group_runs : (scope : Scope) (targets : List Jump) (p : ℕ) (body : Stms) (rest : Groups) (c : Bool) → Holds (list_types (taking running order targets) scope p (all_lawful (known running order) body)) → list_completes (known running order) (all_lawful (known running order) body) ≡ c
      → ((next : Meaning Completion) → run_then (context running) scope bound (all_lawful (known running order) body) next ≡ run_then (context running) scope bound body next)
      → run_groups (context running) (behind body scope) bound (lawful_groups (known running order) [] rest) ≡ run_groups (context running) (behind body scope) bound rest
      → run_then (context running) scope bound (all_lawful (known running order) body) (run_groups (context running) (behind (all_lawful (known running order) body) scope) bound (lawful_groups (known running order) (lost (known running order) body) rest))
      ≡ run_then (context running) scope bound body (run_groups (context running) (behind body scope) bound rest)
  group_runs scope targets p body rest true t e f g =
      let none = nothing_lost (known running order) body e in
      let same : behind (all_lawful (known running order) body) scope ≡ behind body scope = subst (λ more. behind_all more (behind (all_lawful (known running order) body) scope) ≡ behind body scope) none (lost_behind (known running order) body scope) in
      (λ i. run_then (context running) scope bound (all_lawful (known running order) body) (run_groups (context running) (same i) bound (lawful_groups (known running order) (none i) rest)))
      ∙ ap (λ next. run_then (context running) scope bound (all_lawful (known running order) body) next) g ∙ f (run_groups (context running) (behind body scope) bound rest)
  group_runs scope targets p body rest false t e f g =
      rest_unused scope targets p (all_lawful (known running order) body) (run_groups (context running) (behind (all_lawful (known running order) body) scope) bound (lawful_groups (known running order) (lost (known running order) body) rest))
      (run_groups (context running) (behind body scope) bound rest) t e ∙ f (run_groups (context running) (behind body scope) bound rest)

  found_same : (b c : Bool) (m l p q : Meaning Completion) → (b || c) ≡ true → m ≡ p → (c ≡ true → l ≡ q) → (if b then m else l) ≡ (if b then p else q)
  found_same true c m l p q e f g = f
  found_same false c m l p q e f g = g e

  under_opening : (scope : Scope) (b : Bool) (more : List Declared) (m l : Meaning Completion) → (if b then opening scope more m else opening scope more l) ≡ opening scope more (if b then m else l)
  under_opening scope true more m l = refl
  under_opening scope false more m l = refl

  switched_same : (first second : Option ℤ → Meaning Completion) (groups : Groups) (found : Option (Option ℤ)) → ((wanted : Option ℤ) → found ≡ Some wanted → is_labelled wanted groups ≡ true) → ((wanted : Option ℤ) → is_labelled wanted groups ≡ true → first wanted ≡ second wanted)
      → switched first found ≡ switched second found
  switched_same first second groups None there same = refl
  switched_same first second groups (Some wanted) there same = same wanted (there wanted refl)

  -- ---- statements

  mutual
    pub runs_on : (scope : Scope) (place : Place) (targets : List Jump) (p : ℕ) (statement : Stm) → Holds (stm_types (taking running order targets) place scope p statement)
        → run (context running) scope bound place (lawful (known running order) statement) ≡ run (context running) scope bound place statement
    runs_on scope place targets p (Block list) t = list_runs_on scope targets (p + 1) list (pure Normal) t
    runs_on scope place targets p (Labelled label statement) t = ap (λ part. part >>= taken label) (runs_on scope (Behind label) (targets ++ jumps.Break label ∷ []) (p + 1) statement t.1.1)
    runs_on scope place targets p (Declare variable kind initial) t = refl
    runs_on scope place targets p (Set variable new) t = refl
    runs_on scope place targets p (SetField object name new) t = refl
    runs_on scope place targets p (SetStatic class name new) t = refl
    runs_on scope place targets p (SetElement array index new) t = refl
    runs_on scope place targets p (Run call) t = refl
    runs_on scope place targets p (If condition first second) t =
        λ i. test (context running) scope condition >>= λ answer. either answer (list_runs_on scope targets (p + 1 + weight_of_exp condition) first (pure Normal) t.1.1.0 i)
        (list_runs_on scope targets (p + 1 + weight_of_exp condition + weight_of_stms first) second (pure Normal) t.1.1.1 i)
    runs_on scope place targets p (While condition body) t =
        kept_runs scope place (While condition (all_lawful (known running order) body)) (run (context running) scope bound place (While condition body)) (is_always false (constant_truth (known running order) condition))
        (λ e. idle_turns scope (p + 1) condition t.1.0 e (label_at place) (pure tt) (run_then (context running) scope bound body (pure Normal)) bound)
        (ap (λ part. turns bound (label_at place) (test (context running) scope condition) (pure tt) part) (list_runs_on scope (targets ++ turns_of (label_at place)) (p + 1 + weight_of_exp condition) body (pure Normal) t.1.1))
    runs_on scope place targets p (Switch on groups) t =
        λ i. value (context running) scope on >>= λ found. outside running.headers (number_of found) >>= λ number.
        (ap (switched (run_from (context running) scope bound (lawful_groups (known running order) [] groups))) (same_label (known running order) groups number)
        ∙ switched_same (run_from (context running) scope bound (lawful_groups (known running order) [] groups)) (run_from (context running) scope bound groups) groups (label_for groups number)
        (λ wanted e. label_there groups number wanted e) (λ wanted e. from_runs_on scope targets (p + 1 + weight_of_exp on) [] groups t.1.1.1 wanted e)) i
    runs_on scope place targets p (trees.Break label) t = refl
    runs_on scope place targets p (trees.Continue label) t = refl
    runs_on scope place targets p (Return value) t = refl
    runs_on scope place targets p (Throw exception) t = refl
    runs_on scope place targets p (Rethrow variable) t = refl
    runs_on scope place targets p (Try body clauses) t =
        λ i state. handled (clauses_run_on scope targets (p + 1 + weight_of_stms body) clauses t.1.1.1 i) (list_runs_on scope targets (p + 1) body (pure Normal) t.1.1.0 i state)
    runs_on scope place targets p (Synchronized monitor body) t =
        ap (λ part. value (context running) scope monitor >>= synchronized (context running) part) (list_runs_on scope targets (p + 1 + weight_of_exp monitor) body (pure Normal) t.1.1)
    runs_on scope place targets p (Construct own arguments) t = refl
    runs_on scope place targets p (Do body condition) t =
        ap (λ part. do_turns bound (label_at place) (test (context running) scope condition) part) (list_runs_on scope (targets ++ turns_of (label_at place)) (p + 1) body (pure Normal) t.1.0)
    runs_on scope place targets p (For condition variable step body) t =
        kept_runs scope place (For condition variable step (all_lawful (known running order) body)) (run (context running) scope bound place (For condition variable step body)) (is_always false (constant_truth (known running order) condition))
        (λ e. idle_turns scope (p + 1) condition t.1.1.0 e (label_at place) (assigned running.headers scope variable (value (context running) scope step) >>= λ kept. pure tt) (run_then (context running) scope bound body (pure Normal)) bound)
        (ap (λ part. turns bound (label_at place) (test (context running) scope condition) (assigned running.headers scope variable (value (context running) scope step) >>= λ kept. pure tt) part)
        (list_runs_on scope (targets ++ turns_of (label_at place)) (p + 1 + weight_of_exp condition + weight_of_exp step) body (pure Normal) t.1.1.1.1))
    runs_on scope place targets p (Finally body last) t =
        λ i state. finished (list_runs_on scope targets (p + 1 + weight_of_stms body) last (pure Normal) t.1 i) (list_runs_on scope targets (p + 1) body (pure Normal) t.0 i state)

    pub list_runs_on : (scope : Scope) (targets : List Jump) (p : ℕ) (list : Stms) (next : Meaning Completion) → Holds (list_types (taking running order targets) scope p list)
        → run_then (context running) scope bound (all_lawful (known running order) list) next ≡ run_then (context running) scope bound list next
    list_runs_on scope targets p Empty next t = refl
    list_runs_on scope targets p (And first rest) next t =
        (λ i. locally (same_declared (known running order) first i) (run (context running) scope bound Elsewhere (lawful (known running order) first) >>= sequence
        (run_then (context running) (within (same_declared (known running order) first i) scope) bound (if completes (known running order) None (lawful (known running order) first) then all_lawful (known running order) rest else Empty) next)))
        ∙ ap (locally (declared first)) (cut_runs scope (within (declared first) scope) targets p (lawful (known running order) first) rest next (completes (known running order) None (lawful (known running order) first))
        (types_on (known running order) (taking running order targets) Elsewhere scope p p first t.0) refl (list_runs_on (within (declared first) scope) targets (p + weight_of first) rest next t.1))
        ∙ ap (λ part. locally (declared first) (part >>= sequence (run_then (context running) (within (declared first) scope) bound rest next))) (runs_on scope Elsewhere targets p first t.0)

    clauses_run_on : (scope : Scope) (targets : List Jump) (p : ℕ) (clauses : Catches) → Holds (catches_types (taking running order targets) scope p clauses)
        → run_clauses (context running) scope bound (lawful_clauses (known running order) clauses) ≡ run_clauses (context running) scope bound clauses
    clauses_run_on scope targets p NoCatches t = refl
    clauses_run_on scope targets p (AndCatch class variable body rest) t =
        λ i reference. if is_instance running.headers reference.class class
        then caught scope variable reference (list_runs_on (with_type variable (Class class) scope) targets p body (pure Normal) t.0 i)
        else clauses_run_on scope targets (p + weight_of_stms body) rest t.1 i reference

    groups_run_on : (scope : Scope) (targets : List Jump) (p : ℕ) (groups : Groups) → Holds (groups_types (taking running order targets) scope p groups)
        → run_groups (context running) scope bound (lawful_groups (known running order) [] groups) ≡ run_groups (context running) scope bound groups
    groups_run_on scope targets p NoGroups t = refl
    groups_run_on scope targets p (AndGroup labels body rest) t =
        group_runs scope targets p body rest (list_completes (known running order) (all_lawful (known running order) body)) (list_types_on (known running order) (taking running order targets) scope p p body t.0) refl
        (λ next. list_runs_on scope targets p body next t.0) (groups_run_on (behind body scope) targets (p + weight_of_stms body) rest t.1)

    from_runs_on : (scope : Scope) (targets : List Jump) (p : ℕ) (more : List Declared) (groups : Groups) → Holds (groups_types (taking running order targets) (behind_all more scope) p groups) → (wanted : Option ℤ) → is_labelled wanted groups ≡ true
        → run_from (context running) scope bound (lawful_groups (known running order) more groups) wanted ≡ opening scope more (run_from (context running) (behind_all more scope) bound groups wanted)
    from_runs_on scope targets p more NoGroups t wanted e = absurd (false≢true e)
    from_runs_on scope targets p more (AndGroup labels body rest) t wanted e =
        found_same (has_label wanted labels) (is_labelled wanted rest)
        (run_then (context running) scope bound (declared_then more (all_lawful (known running order) body)) (run_groups (context running) (behind (declared_then more (all_lawful (known running order) body)) scope) bound (lawful_groups (known running order) (lost (known running order) body) rest)))
        (passed scope (declared_then more (all_lawful (known running order) body)) (run_from (context running) (behind (declared_then more (all_lawful (known running order) body)) scope) bound (lawful_groups (known running order) (lost (known running order) body) rest) wanted))
        (opening scope more (run_then (context running) (behind_all more scope) bound body (run_groups (context running) (behind body (behind_all more scope)) bound rest)))
        (opening scope more (passed (behind_all more scope) body (run_from (context running) (behind body (behind_all more scope)) bound rest wanted))) e
        (ap (λ inner. run_then (context running) scope bound (declared_then more (all_lawful (known running order) body)) (run_groups (context running) inner bound (lawful_groups (known running order) (lost (known running order) body) rest))) (declared_scope more (all_lawful (known running order) body) scope)
        ∙ declared_runs scope more (all_lawful (known running order) body) (run_groups (context running) (behind (all_lawful (known running order) body) (behind_all more scope)) bound (lawful_groups (known running order) (lost (known running order) body) rest))
        ∙ ap (opening scope more) (group_runs (behind_all more scope) targets p body rest (list_completes (known running order) (all_lawful (known running order) body))
        (list_types_on (known running order) (taking running order targets) (behind_all more scope) p p body t.0) refl (λ next. list_runs_on (behind_all more scope) targets p body next t.0)
        (groups_run_on (behind body (behind_all more scope)) targets (p + weight_of_stms body) rest t.1)))
        (λ later. ap (λ inner. passed scope (declared_then more (all_lawful (known running order) body)) (run_from (context running) inner bound (lawful_groups (known running order) (lost (known running order) body) rest) wanted)) (declared_scope more (all_lawful (known running order) body) scope)
        ∙ declared_passed scope more (all_lawful (known running order) body) (run_from (context running) (behind (all_lawful (known running order) body) (behind_all more scope)) bound (lawful_groups (known running order) (lost (known running order) body) rest) wanted)
        ∙ ap (opening scope more) (ap (passed (behind_all more scope) (all_lawful (known running order) body))
        (from_runs_on (behind (all_lawful (known running order) body) (behind_all more scope)) targets (p + weight_of_stms body) (lost (known running order) body) rest
        (subst (λ inner. Holds (groups_types (taking running order targets) inner (p + weight_of_stms body) rest)) (sym (lost_behind (known running order) body (behind_all more scope))) t.1) wanted later
        ∙ ap (λ inner. opening (behind (all_lawful (known running order) body) (behind_all more scope)) (lost (known running order) body) (run_from (context running) inner bound rest wanted)) (lost_behind (known running order) body (behind_all more scope)))
        ∙ lost_passed (known running order) (behind_all more scope) body (run_from (context running) (behind body (behind_all more scope)) bound rest wanted)))
        ∙ under_opening scope (has_label wanted labels) more (run_then (context running) (behind_all more scope) bound body (run_groups (context running) (behind body (behind_all more scope)) bound rest))
        (passed (behind_all more scope) body (run_from (context running) (behind body (behind_all more scope)) bound rest wanted))

pub lawful_runs : LawfulRuns
lawful_runs headers this around order bound scope place list next t = list_runs_on (running_in headers this around) order bound scope around.targets place list next t
