-- A statement that keeps the rules completes as they say, with what is then assigned.
use Rattle.std.proofs.Common.{ℕ, ℤ, ◌+◌, Bool, true, false, not, ◌&&◌, ◌||◌, List, [], ◌∷◌, ◌++◌, Option, Some, None, ◌≡◌, refl, sym, ap, ◌∙◌, subst}
use Rattle.std.specs.Prelude.{is_some, if◌then◌else◌}
use Rattle.std.proofs.lemmas.Bool.{and_parts, or_left, or_right, false≢true, not-true}
use Rattle.dj_names.specs.Types as types
use Rattle.dj_names.specs.Types.{JType, Class}
use Rattle.dj_syntax.specs.declared.variable.Var.{Var}
use Rattle.dj_syntax.specs.Trees.{Exp, Exps, Stm, Block, Labelled, Declare, Set, SetField, SetStatic, SetElement, Run, If, While, Switch, Throw, Rethrow, Try, Synchronized, Construct, Do, For, Finally, Stms, Empty, And, Groups, NoGroups, AndGroup, Catches, NoCatches, AndCatch}
use Rattle.dj_syntax.specs.Trees as trees
use Rattle.dj_syntax.specs.Weight.{weight_of, weight_of_stms}
use Rattle.dj_syntax.specs.WellFormedTrees.{has_no_catch, is_declaration}
use Rattle.dj_values.specs.Values.{RefValue, Ref}
use Rattle.dj_values.specs.Fits.{IsThrowable}
use Rattle.dj_values.specs.Deciding.{is_type, is_instance}
use Rattle.dj_values.specs.Outcomes.{Throws, State, Outcome, Is}
use Rattle.dj_values.proofs.Deciding.{Decides-subclass}
use Rattle.dj_meaning.specs.StaticTypes.{Scope, with_type, type_of, types_of, typed, construct_target}
use Rattle.dj_meaning.specs.Runs.{Store, Meaning, pure, stop, stuck, ◌>>=◌, put, assigned, with_value, with_store}
use Rattle.dj_meaning.specs.Expressions.{this_value, call_on, value, values, test}
use Rattle.dj_meaning.specs.Completions.{Completion, Normal, Break, Continue, sequence}
use Rattle.dj_meaning.specs.Declarations.{declared, within, behind, locally, opened, passed, caught}
use Rattle.dj_meaning.specs.Statements.{Place, First, Behind, Elsewhere, label_at, has_label, is_labelled, label_for, switched, constructed}
use Rattle.dj_meaning.specs.Meaning.{run, run_then, run_groups, run_from, run_clauses, run_statements}
use Rattle.dj_places.specs.Constants.{Surroundings, constant_truth}
use Rattle.dj_places.specs.Rules.{Holds}
use Rattle.dj_reach.specs.declared.jump.Jump.{Jump}
use Rattle.dj_reach.specs.declared.jump.Jump.TheVariants as jumps
use Rattle.dj_reach.specs.Reach.{list_completes, list_leaves, groups_complete, groups_leave}
use Rattle.dj_variables.specs.Sets as sets
use Rattle.dj_variables.specs.Sets.{everything, with, without, meet}
use Rattle.dj_conditions.specs.Conditions.{when, after_exp, after_each}
use Rattle.dj_conditions.specs.Reads.{reads_each}
use Rattle.dj_assigned.specs.Assigned.{after, after_list, after_groups, before_jump, list_passed_over, groups_passed_over, after_turn, stm_reads, list_reads, catches_reads, groups_reads}
use Rattle.dj_typing.specs.Sites.{context_of, may_name}
use Rattle.dj_typing.specs.Operands.{is_of, if_typed}
use Rattle.dj_typing.specs.Expressions.{is_whole_static, exps_types}
use Rattle.dj_typed.specs.Switches.{are_distinct, labels_of}
use Rattle.dj_typed.specs.Statements.{Around, turns_of, exp_goes, is_test, may_construct, means_constructor, without_this, are_new_catches, stm_types, list_types, catches_types, groups_types, all_types}
use Rattle.dj_held.specs.Replies.{Ends}
use Rattle.dj_held.specs.Running.{Running, context, surroundings, IsInOrder}
use Rattle.dj_held.specs.Reaching.{Matches, Reaches, Leaves}
use Rattle.dj_held.proofs.Ending.{ends, then_ends as bind, either_ends as by_test}
use Rattle.dj_held.proofs.Invariant.{in_left, in_right, from_here, fewer, none_known, later, kept, puts}
use Rattle.dj_held.proofs.Goes.{throwable_held}
use Rattle.dj_held.proofs.Knowing.{after_value}
use Rattle.dj_held.proofs.Expressions.{value_holds, test_holds}
use Rattle.dj_held.proofs.Effects.{effect_holds}
use Rattle.dj_never_stuck.specs.Ways.{Flow, Completes}
use Rattle.dj_never_stuck.proofs.Runs.{weaken, IsNew, leaves_later, thrown_on, asks}
use Rattle.dj_never_stuck.specs.Flows.{flow, list_flow, then_flow, catches_flow, groups_flow, AreTaken}
use Rattle.dj_never_stuck.proofs.Flows.{narrow, complete_later, own_jump, if_so, taken_in_label, taken_in_loop, taken_elsewhere, takes_label}
use Rattle.dj_never_stuck.proofs.Turns.{loops, do_loops}
use Rattle.dj_never_stuck.proofs.Endings.{handles, finishes, last_hides, last_normal, synchronizes, ends_locally, opens}
use Rattle.dj_never_stuck.proofs.Calls.{constructs}
use Rattle.dj_never_stuck.proofs.Values.{numbers, locks}
use Rattle.dj_never_stuck.proofs.Stores.{normal, own_type, assigns, initialises, sets_field, sets_static, sets_an_element, returns_nothing_well, returns_value_well, throws_value, looks}
use Rattle.dj_never_stuck.proofs.Lists.{declares_new, declares_nothing, IsBehind, list_of, sequences, groups_passed_within, list_passes, group_completes, group_leaves, label_there, no_label_there}

-- ---- small steps

by_label : (P : Outcome Store Completion → Type 0) (go : Option ℤ → Meaning Completion) (u : State Store) (found : Option (Option ℤ)) → (found ≡ None → P (Is Normal u)) → ((label : Option ℤ) → found ≡ Some label → P (go label u)) → P (switched go found u)
by_label P go u None none some = none refl
by_label P go u (Some label) none some = some label refl

-- a variable that is caught is assigned
caught_set : (x : Var) (set : sets.Set) (y : Var) → with x set y ≡ true → with x (without x set) y ≡ true
caught_set x set y e = go _ (set y) e
  where
    go : (same other : Bool) → (same || other) ≡ true → (same || (not same && other)) ≡ true
    go true other e = refl
    go false other e = e

-- a body in which `this` isn't there
abbrev pub apart_from_this : Running → Running
apart_from_this running = record running { site = without_this running.site }

module _ (running : Running) (order : IsInOrder running) (apart : IsInOrder (apart_from_this running)) where
  -- what stands around a statement, with these jumps taken
  abbrev at : List Jump → Around
  at targets = record { site = running.site; result = running.result; constructs = running.constructs; targets = targets }

  abbrev around : Surroundings
  around = surroundings running.site

  abbrev Done : List Jump → Scope → Flow → State Store → Outcome Store Completion → Type 0
  Done targets scope f z = Ends Completion (Completes running.headers running.result targets scope f z) (Leaves running.headers scope z)

  -- what is caught is of the clause's class
  caught_there : (class : List ℕ) (x : Var) (scope : Scope) (reference : RefValue) → IsThrowable running.headers reference → is_instance running.headers reference.class class ≡ true → Matches running.headers (with_type x (Class class) scope x) (Some (Ref reference))
  caught_there class x scope reference is takes =
      subst (λ o. Matches running.headers o (Some (Ref reference))) (sym (own_type running order scope x (Class class)))
      (throwable_held running.headers reference class is ((Decides-subclass running.headers is.class class).0 (subst (λ type. is_instance running.headers type class ≡ true) is.object.exact takes)))

  constructs_well : (targets : List Jump) (place : Place) (scope : Scope) (a : sets.Set) (p q : ℕ) (z s : State Store) (own : Bool) (arguments : Exps) → (may_construct running.constructs place && means_constructor running.site scope own arguments) ≡ true
      → Holds (exps_types (without_this running.site) scope p arguments) → Holds (reads_each around a q arguments) → Reaches running.headers scope a z s
      → Done targets scope (record { completes = true; leaves = λ jump. false; after = after_each around arguments a; before = λ jump. everything }) z
      (constructed (context running) place (construct_target (context running) own (types_of (context running) scope arguments)) (values (context running) scope arguments) s)
  constructs_well targets First scope a p q z s own arguments e t d r =
      let parts = and_parts running.constructs (means_constructor running.site scope own arguments) e in
      by_test (call_on (context running) (construct_target (context running) own (types_of (context running) scope arguments)) (this_value (context running)) (values (context running) scope arguments) >>= λ told. pure Normal) stuck s running.constructs
      (λ is. bind (constructs (apart_from_this running) apart scope a p q z s own arguments (order.constructs is) parts.1 t d r) (λ told u m. ends Normal u (record { possible = refl; lands = tt; reaches = m })))
      (λ no. absurd (false≢true (sym no ∙ parts.0)))
  constructs_well targets (Behind label) scope a p q z s own arguments e t d r = absurd (false≢true e)
  constructs_well targets Elsewhere scope a p q z s own arguments e t d r = absurd (false≢true e)

  mutual
    pub run_completes : (bound : ℕ) (place : Place) (targets : List Jump) (scope : Scope) (a : sets.Set) (p q : ℕ) (z s : State Store) (m : Stm) → AreTaken targets (label_at place)
        → Holds (stm_types (at targets) place scope p m) → Holds (stm_reads around (label_at place) a q m) → Reaches running.headers scope a z s
        → Done targets (within (declared m) scope) (flow around (label_at place) m a) z (run (context running) scope bound place m s)
    run_completes bound place targets scope a p q z s (Block list) n t d r =
        list_of running.headers running.result targets around scope a z s list (run_then (context running) scope bound list) (λ next h k. list_runs bound targets scope a (p + 1) (q + 1) z s list next h (taken_elsewhere targets (label_at place) n) t d r k)
    run_completes bound place targets scope a p q z s (Labelled label m) n t d r =
        bind (subst (λ one. Done (targets ++ jumps.Break label ∷ []) (within one scope) (flow around (Some label) m a) z (run (context running) scope bound (Behind label) m s)) (declares_nothing m (not-true (is_declaration m) t.0))
        (run_completes bound (Behind label) (targets ++ jumps.Break label ∷ []) scope a (p + 1) (q + 1) z s m (taken_in_label label targets (label_at place) n) t.1.1 d r))
        (takes_label running.headers running.result targets (label_at place) label scope (flow around (Some label) m a) z n t.1.0)
    run_completes bound place targets scope a p q z s (Declare x kind initial) n t d r =
        let new : IsNew scope (Some (x, kind)) = declares_new (at targets) place scope p (Declare x kind initial) t in
        bind (opens x kind s r new) (λ done u m. initialises running order targets scope a (p + 1) (q + 1) z u x kind initial t.1.0 t.1.1 d m)
    run_completes bound place targets scope a p q z s (Set x new) n t d r =
        bind (assigns running order scope a (p + 1) (q + 1) z s x new (and_parts (is_some (scope x)) (if_typed (typed (scope x)) (is_whole_static running.site.headers)) t.0).0 t.1.0 t.1.1 d r) (λ v u m. normal running order u m)
    run_completes bound place targets scope a p q z s (SetField object name new) n t d r =
        sets_field running order targets scope a _ _ _ _ z s object new name t.1.0 t.1.1.0 t.1.1.1.0 t.1.1.1.1 d.0 d.1 r
    run_completes bound place targets scope a p q z s (SetStatic class name new) n t d r =
        sets_static running order targets scope a _ _ z s class name new (and_parts (may_name running.site class) (running.site.can_name name) t.0).0 t.1.0 t.1.1.0 t.1.1.1 d r
    run_completes bound place targets scope a p q z s (SetElement array index new) n t d r =
        sets_an_element running order targets scope a _ _ _ _ _ _ z s array index new t.0 t.1.0 t.1.1.0 t.1.1.1 d.0 d.1.0 d.1.1 r
    run_completes bound place targets scope a p q z s (Run call) n t d r =
        bind (effect_holds running order scope a (p + 1) (q + 1) z s call t.0 t.1 d r) (λ told u m. normal running order u m)
    run_completes bound place targets scope a p q z s (If condition first second) n t d r =
        bind (test_holds running order scope a (p + 1) (q + 1) z s condition t.0 t.1.0 d.0 r) (elim [
          | true ↦ λ u m. weaken (list_of running.headers running.result targets around scope (when around condition a).true z u first (run_then (context running) scope bound first) (λ next h k. list_runs bound targets scope (when around condition a).true _ _ z u first next h (taken_elsewhere targets (label_at place) n) t.1.1.0 d.1.0 m.reaches k)) (λ w v h. narrow w (record {
            completes = or_left _ _;
            leaves = λ j. or_left _ _;
            after = in_left _ _;
            before = λ j. in_left _ _;
          }) h) (λ e v h. h)
          | false ↦ λ u m. weaken (list_of running.headers running.result targets around scope (when around condition a).false z u second (run_then (context running) scope bound second) (λ next h k. list_runs bound targets scope (when around condition a).false _ _ z u second next h (taken_elsewhere targets (label_at place) n) t.1.1.1 d.1.1 m.reaches k)) (λ w v h. narrow w (record {
            completes = or_right _ _;
            leaves = λ j. or_right _ _;
            after = in_right _ _;
            before = λ j. in_right _ _;
          }) h) (λ e v h. h)
        ])
    run_completes bound place targets scope a p q z s (While condition body) n t d r =
        loops running.headers running.result targets (label_at place) scope a (constant_truth around condition) (when around condition a) (list_flow around body (when around condition a).true) (test (context running) scope condition) (pure tt) (run_then (context running) scope bound body (pure Normal)) (record {
          tests = λ u h. test_holds running order scope a (p + 1) (q + 1) u u condition t.0 t.1.0 d.0 h;
          turn = λ u h. list_of running.headers running.result (targets ++ turns_of (label_at place)) around scope (when around condition a).true u u body (run_then (context running) scope bound body) (λ next f k. list_runs bound (targets ++ turns_of (label_at place)) scope (when around condition a).true _ _ u u body next f (taken_in_loop targets (label_at place) n) t.1.1 d.1 h k);
          steps = λ u h. ends tt u (none_known h);
        }) bound z s r
    run_completes bound place targets scope a p q z s (Switch on groups) n t d r =
        bind (value_holds running order scope a (p + 1) (q + 1) z s on t.1.1.0 d.0 r) (λ v u m.
        bind (asks u (numbers running.headers (type_of (context_of running.site) scope on) v (and_parts (if_typed (type_of (context_of running.site) scope on) (is_of (is_type types.Int))) (are_distinct (labels_of groups)) t.1.0).0 m.of_type) (after_value m)) (λ number w o.
        by_label (Done targets scope (flow around (label_at place) (Switch on groups) a) z) (run_from (context running) scope bound groups) w (label_for groups number)
        (λ e. ends Normal w (record {
          possible = or_left (not (is_labelled None groups)) (groups_complete around true groups) (ap not (no_label_there groups number e));
          lands = tt;
          reaches = fewer _ o.1 (λ x i. groups_passed_within groups (after_exp around on a) x (subst (λ b. (if b then everything else groups_passed_over groups (after_exp around on a)) x ≡ true) (no_label_there groups number e)
              (in_right (after_groups around groups everything (after_exp around on a)) (if is_labelled None groups then everything else groups_passed_over groups (after_exp around on a)) x i)));
        }))
        (λ label e. weaken (from_runs bound targets scope label true everything (after_exp around on a) _ _ z w groups (label_there groups number label e) (taken_elsewhere targets (label_at place) n) t.1.1.1 d.1 o.1) (λ c y h. narrow c (record {
          completes = or_right _ _;
          leaves = λ j i. i;
          after = in_left _ _;
          before = λ j x i. i;
        }) h) (λ e y h. h))))
    run_completes bound place targets scope a p q z s (trees.Break label) n t d r =
        ends (Break label) s (record { possible = own_jump (jumps.Break label); lands = t; reaches = fewer (before_jump around (jumps.Break label) (trees.Break label) a) r (λ x h. if_so _ a x (own_jump (jumps.Break label)) h) })
    run_completes bound place targets scope a p q z s (trees.Continue label) n t d r =
        ends (Continue label) s (record { possible = own_jump (jumps.Continue label); lands = t; reaches = fewer (before_jump around (jumps.Continue label) (trees.Continue label) a) r (λ x h. if_so _ a x (own_jump (jumps.Continue label)) h) })
    run_completes bound place targets scope a p q z s (trees.Return None) n t d r = returns_nothing_well running order targets scope a z s running.result refl t.0 r
    run_completes bound place targets scope a p q z s (trees.Return (Some exp)) n t d r = returns_value_well running order targets scope a (p + 1) (q + 1) z s exp running.result refl t.0 t.1 d r
    run_completes bound place targets scope a p q z s (Throw exception) n t d r =
        bind (value_holds running order scope a (p + 1) (q + 1) z s exception t.1 d r) (λ v u m. throws_value running order targets (type_of (context_of running.site) scope exception) v u t.0 m.of_type (after_value m))
    run_completes bound place targets scope a p q z s (Rethrow x) n t d r =
        bind (looks running order scope a z s x (and_parts (is_some (scope x)) (if_typed (typed (scope x)) (is_whole_static running.site.headers)) t.0).0 d r) (λ v u m. throws_value running order targets (typed (scope x)) v u t.1 m.0 m.1)
    run_completes bound place targets scope a p q z s (Try body catches) n t d r =
        let new : are_new_catches running.site scope catches ≡ true = (and_parts (not (has_no_catch catches)) (are_new_catches running.site scope catches) t.0).1 in
        handles (list_of running.headers running.result targets around scope a s s body (run_then (context running) scope bound body) (λ next h k. list_runs bound targets scope a (p + 1) (q + 1) s s body next h (taken_elsewhere targets (label_at place) n) t.1.1.0 d.0 (from_here r) k))
        (λ w u h. narrow w (record { completes = or_left _ _; leaves = λ j. or_left _ _; after = in_left _ _; before = λ j. in_left _ _ }) (complete_later w r h))
        (λ reference u h. weaken (catches_run bound targets scope a _ _ z u catches reference h.throwable (taken_elsewhere targets (label_at place) n) new t.1.1.1 d.1 (kept r h.reaches))
        (λ w v m. narrow w (record { completes = or_right _ _; leaves = λ j. or_right _ _; after = in_right _ _; before = λ j. in_right _ _ }) m) (λ e v m. m))
    run_completes bound place targets scope a p q z s (Synchronized monitor body) n t d r =
        bind (value_holds running order scope a (p + 1) (q + 1) z s monitor t.1.0 d.0 r) (λ v u m.
        synchronizes running.headers running.result targets scope (list_flow around body (after_exp around monitor a)) z (run_then (context running) scope bound body (pure Normal)) v u (locks running.headers (type_of (context_of running.site) scope monitor) v t.0 m.of_type) (after_value m) (λ w h.
        list_of running.headers running.result targets around scope (after_exp around monitor a) z w body (run_then (context running) scope bound body) (λ next f k. list_runs bound targets scope (after_exp around monitor a) _ _ z w body next f (taken_elsewhere targets (label_at place) n) t.1.1 d.1 h k)))
    run_completes bound place targets scope a p q z s (Construct own arguments) n t d r = constructs_well targets place scope a (p + 1) (q + 1) z s own arguments t.0 t.1 d r
    run_completes bound place targets scope a p q z s (Do body condition) n t d r =
        do_loops running.headers running.result targets (label_at place) scope a (constant_truth around condition) (when around condition (after_turn around (label_at place) body a)) (list_flow around body a) (test (context running) scope condition) (run_then (context running) scope bound body (pure Normal)) (record {
          tests = λ u h. test_holds running order scope (after_turn around (label_at place) body a) _ _ u u condition t.0 t.1.1 d.1 h;
          turn = λ u h. list_of running.headers running.result (targets ++ turns_of (label_at place)) around scope a u u body (run_then (context running) scope bound body) (λ next f k. list_runs bound (targets ++ turns_of (label_at place)) scope a _ _ u u body next f (taken_in_loop targets (label_at place) n) t.1.0 d.0 h k);
        }) bound z s r
    run_completes bound place targets scope a p q z s (For condition x step body) n t d r =
        let goes_on = and_parts (is_test running.site scope condition) (exp_goes running.site scope step (scope x)) t.1.0 in
        loops running.headers running.result targets (label_at place) scope a (constant_truth around condition) (when around condition a) (list_flow around body (when around condition a).true) (test (context running) scope condition)
        (assigned running.headers scope x (value (context running) scope step) >>= λ done. pure tt) (run_then (context running) scope bound body (pure Normal)) (record {
          tests = λ u h. test_holds running order scope a (p + 1) (q + 1) u u condition goes_on.0 t.1.1.0 d.0 h;
          turn = λ u h. list_of running.headers running.result (targets ++ turns_of (label_at place)) around scope (when around condition a).true u u body (run_then (context running) scope bound body) (λ next f k. list_runs bound (targets ++ turns_of (label_at place)) scope (when around condition a).true _ _ u u body next f (taken_in_loop targets (label_at place) n) t.1.1.1.1 d.1.1 h k);
          steps = λ u h. bind (assigns running order scope (after_turn around (label_at place) body (when around condition a).true) _ _ u u x step (and_parts (is_some (scope x)) (if_typed (typed (scope x)) (is_whole_static running.site.headers)) t.0).0 goes_on.1 t.1.1.1.0 d.1.0 h) (λ v w m. ends tt w (none_known m));
        }) bound z s r
    run_completes bound place targets scope a p q z s (Finally body last) n t d r =
        finishes (run_then (context running) scope bound last (pure Normal)) (list_of running.headers running.result targets around scope a s s body (run_then (context running) scope bound body) (λ next h k. list_runs bound targets scope a (p + 1) (q + 1) s s body next h (taken_elsewhere targets (label_at place) n) t.0 d.0 (from_here r) k))
        (λ w u h.
        let k = kept r h.reaches in
        bind (weaken (list_of running.headers running.result targets around scope a u u last (run_then (context running) scope bound last) (λ next i j. list_runs bound targets scope a _ _ u u last next i (taken_elsewhere targets (label_at place) n) t.1 d.1 (from_here k) j)) (λ x v m. m) (λ e v m. leaves_later e v k m))
        (last_hides running.headers running.result targets scope (list_flow around body a) (list_flow around last a) a z u (pure w) k (λ v m. ends w v (last_normal running.headers running.result targets scope (list_flow around body a) (list_flow around last a) a z u s w v r h m))))
        (λ reference u h.
        let k = kept r h.reaches in
        bind (weaken (list_of running.headers running.result targets around scope a u u last (run_then (context running) scope bound last) (λ next i j. list_runs bound targets scope a _ _ u u last next i (taken_elsewhere targets (label_at place) n) t.1 d.1 (from_here k) j)) (λ x v m. m) (λ e v m. leaves_later e v k m))
        (last_hides running.headers running.result targets scope (list_flow around body a) (list_flow around last a) a z u (stop (Throws reference)) k (λ v m. thrown_on reference v h.throwable (later k m.reaches))))

    pub list_runs : (bound : ℕ) (targets : List Jump) (scope : Scope) (a : sets.Set) (p q : ℕ) (z s : State Store) (ms : Stms) (next : Meaning Completion) (h : Flow) → AreTaken targets None
        → Holds (list_types (at targets) scope p ms) → Holds (list_reads around a q ms) → Reaches running.headers scope a z s
        → IsBehind running.headers running.result targets around scope a z ms h next → Done targets scope (then_flow around ms a h) z (run_then (context running) scope bound ms next s)
    list_runs bound targets scope a p q z s Empty next h n t d r k = k s r
    list_runs bound targets scope a p q z s (And m ms) next h n t d r k =
        ends_locally (declared m) (run (context running) scope bound Elsewhere m >>= sequence (run_then (context running) (within (declared m) scope) bound ms next)) s r (declares_new (at targets) Elsewhere scope p m t.0)
        (bind (run_completes bound Elsewhere targets scope a p q z s m n t.0 d.0 r)
        (sequences running.headers running.result targets around (within (declared m) scope) a z m ms h (run_then (context running) (within (declared m) scope) bound ms next) (λ u i.
        list_runs bound targets (within (declared m) scope) (after around None m a) (p + weight_of m) (q + weight_of m) z u ms next h n t.1 d.1 i k)))

    catches_run : (bound : ℕ) (targets : List Jump) (scope : Scope) (a : sets.Set) (p q : ℕ) (z s : State Store) (cs : Catches) (reference : RefValue) → IsThrowable running.headers reference → AreTaken targets None → are_new_catches running.site scope cs ≡ true
        → Holds (catches_types (at targets) scope p cs) → Holds (catches_reads around a q cs) → Reaches running.headers scope a z s
        → Done targets scope (catches_flow around cs a) z (run_clauses (context running) scope bound cs reference s)
    catches_run bound targets scope a p q z s NoCatches reference is n new t d r = thrown_on reference s is r
    catches_run bound targets scope a p q z s (AndCatch class x body rest) reference is n new t d r =
        let parts = and_parts (may_name running.site class && not (is_some (scope x))) (are_new_catches running.site scope rest) new in
        let absent : is_some (scope x) ≡ false = not-true (is_some (scope x)) (and_parts (may_name running.site class) (not (is_some (scope x))) parts.0).1 in
        by_test (caught scope x reference (run_then (context running) (with_type x (Class class) scope) bound body (pure Normal))) (run_clauses (context running) scope bound rest reference) s (is_instance running.headers reference.class class)
        (λ takes. weaken (ends_locally (Some (x, Class class)) (opened scope x >>= λ done. put x (Some (Ref reference)) >>= λ done. run_then (context running) (with_type x (Class class) scope) bound body (pure Normal)) s r absent
        (bind (opens x (Class class) s r absent) (λ done u m.
        list_of running.headers running.result targets around (with_type x (Class class) scope) (with x a) z (with_store (with_value x (Some (Ref reference))) u) body (run_then (context running) (with_type x (Class class) scope) bound body) (λ next f k.
        list_runs bound targets (with_type x (Class class) scope) (with x a) p q z (with_store (with_value x (Some (Ref reference))) u) body next f n t.0 d.0
        (fewer (with x a) (puts x (Ref reference) m (caught_there class x scope reference is takes)) (caught_set x a)) k))))
        (λ w v m. narrow w (record { completes = or_left _ _; leaves = λ j. or_left _ _; after = in_left _ _; before = λ j. in_left _ _ }) m) (λ e v m. m))
        (λ not. weaken (catches_run bound targets scope a (p + weight_of_stms body) (q + weight_of_stms body) z s rest reference is n parts.1 t.1 d.1 r)
        (λ w v m. narrow w (record { completes = or_right _ _; leaves = λ j. or_right _ _; after = in_right _ _; before = λ j. in_right _ _ }) m) (λ e v m. m))

    groups_run : (bound : ℕ) (targets : List Jump) (scope : Scope) (before a : sets.Set) (p q : ℕ) (z s : State Store) (gs : Groups) → AreTaken targets None
        → Holds (groups_types (at targets) scope p gs) → Holds (groups_reads around before a q gs) → Reaches running.headers scope before z s
        → Done targets scope (groups_flow around true gs before a) z (run_groups (context running) scope bound gs s)
    groups_run bound targets scope before a p q z s NoGroups n t d r = ends Normal s (record { possible = refl; lands = tt; reaches = r })
    groups_run bound targets scope before a p q z s (AndGroup labels body rest) n t d r =
        weaken (list_runs bound targets scope (meet before a) p q z s body (run_groups (context running) (behind body scope) bound rest) (groups_flow around true rest (after_list around body (meet before a)) (list_passed_over body a)) n t.0 d.0 (fewer (meet before a) r (in_left before a)) (λ u h.
        groups_run bound targets (behind body scope) (after_list around body (meet before a)) (list_passed_over body a) (p + weight_of_stms body) (q + weight_of_stms body) z u rest n t.1 d.1 h))
        (λ w v h. narrow w (record {
          completes = group_completes around rest (list_completes around body);
          leaves = λ j. group_leaves (list_leaves around j body) (list_completes around body) (groups_leave around j rest);
          after = λ x i. i;
          before = λ j x i. i;
        }) h) (λ e v h. h)

    from_runs : (bound : ℕ) (targets : List Jump) (scope : Scope) (wanted : Option ℤ) (falls : Bool) (before a : sets.Set) (p q : ℕ) (z s : State Store) (gs : Groups) → is_labelled wanted gs ≡ true → AreTaken targets None
        → Holds (groups_types (at targets) scope p gs) → Holds (groups_reads around before a q gs) → Reaches running.headers scope a z s
        → Done targets scope (groups_flow around falls gs before a) z (run_from (context running) scope bound gs wanted s)
    from_runs bound targets scope wanted falls before a p q z s NoGroups some n t d r = absurd (false≢true some)
    from_runs bound targets scope wanted falls before a p q z s (AndGroup labels body rest) some n t d r =
        by_test (run_then (context running) scope bound body (run_groups (context running) (behind body scope) bound rest)) (passed scope body (run_from (context running) (behind body scope) bound rest wanted)) s (has_label wanted labels)
        (λ e. weaken (list_runs bound targets scope (meet before a) p q z s body (run_groups (context running) (behind body scope) bound rest) (groups_flow around true rest (after_list around body (meet before a)) (list_passed_over body a)) n t.0 d.0 (fewer (meet before a) r (in_right before a)) (λ u h.
        groups_run bound targets (behind body scope) (after_list around body (meet before a)) (list_passed_over body a) (p + weight_of_stms body) (q + weight_of_stms body) z u rest n t.1 d.1 h))
        (λ w v h. narrow w (record {
          completes = group_completes around rest (list_completes around body);
          leaves = λ j. group_leaves (list_leaves around j body) (list_completes around body) (groups_leave around j rest);
          after = λ x i. i;
          before = λ j x i. i;
        }) h) (λ e v h. h))
        (λ e. weaken (list_passes running.headers running.result targets (groups_flow around (list_completes around body) rest (after_list around body (meet before a)) (list_passed_over body a)) z (at targets) scope a p s body (run_from (context running) (behind body scope) bound rest wanted) t.0 (λ u h.
        from_runs bound targets (behind body scope) wanted (list_completes around body) (after_list around body (meet before a)) (list_passed_over body a) (p + weight_of_stms body) (q + weight_of_stms body) z u rest (subst (λ b. (b || is_labelled wanted rest) ≡ true) e some) n t.1 d.1 h) r)
        (λ w v h. narrow w (record {
          completes = λ i. i;
          leaves = λ j. or_right _ _;
          after = λ x i. i;
          before = λ j. in_right _ _;
        }) h) (λ e v h. h))

  -- the statements of a body: the first stands at its beginning
  pub statements_run : (bound : ℕ) (scope : Scope) (z s : State Store) (a : sets.Set) (ms : Stms) → Holds (all_types (at []) scope ms) → Holds (list_reads around a 0 ms) → Reaches running.headers scope a z s
      → Done [] scope (list_flow around ms a) z (run_statements (context running) scope bound ms s)
  statements_run bound scope z s a Empty t d r = ends Normal s (record { possible = refl; lands = tt; reaches = r })
  statements_run bound scope z s a (And m ms) t d r =
      list_of running.headers running.result [] around scope a z s (And m ms) (λ next. locally (declared m) (run (context running) scope bound First m >>= sequence (run_then (context running) (within (declared m) scope) bound ms next))) (λ next h k.
      ends_locally (declared m) (run (context running) scope bound First m >>= sequence (run_then (context running) (within (declared m) scope) bound ms next)) s r (declares_new (at []) First scope 0 m t.0)
      (bind (run_completes bound First [] scope a 0 0 z s m none_taken t.0 d.0 r)
      (sequences running.headers running.result [] around (within (declared m) scope) a z m ms h (run_then (context running) (within (declared m) scope) bound ms next) (λ u i.
      list_runs bound [] (within (declared m) scope) (after around None m a) (weight_of m) (0 + weight_of m) z u ms next h none_taken t.1 d.1 i k))))
    where
      none_taken : AreTaken [] None
      none_taken = record { breaks = λ label is. absurd (false≢true is); its_own = λ label is. absurd cc }
