-- Loops: each turn ends well, and so do all, at each bound.
use Rattle.std.proofs.Common.{ℕ, zero, suc, ◌==◌, Bool, true, false, not, ◌&&◌, ◌||◌, List, ◌++◌, Option, Some, None, ◌≡◌, refl, sym, ap, ◌∙◌, subst, inl, inr}
use Rattle.std.proofs.lemmas.Bool.{and_from, or_left, or_right, false≢true, eqb-true, eq-eqb}
use Rattle.dj_names.specs.declared.header.Header.{Header}
use Rattle.dj_names.specs.Types.{JType}
use Rattle.dj_syntax.specs.declared.variable.Var.{Var}
use Rattle.dj_values.specs.Outcomes.{State}
use Rattle.dj_meaning.specs.StaticTypes.{Scope}
use Rattle.dj_meaning.specs.Runs.{Store, Meaning, pure, ◌>>=◌}
use Rattle.dj_meaning.specs.Expressions.{either}
use Rattle.dj_meaning.specs.Completions.{Completion, Normal, Break, Continue, Return, Misfit, is_own, next_turn, turns, do_turns}
use Rattle.dj_places.specs.Constants.{is_always}
use Rattle.dj_reach.specs.declared.jump.Jump.{Jump}
use Rattle.dj_reach.specs.declared.jump.Jump.TheVariants as jumps
use Rattle.dj_reach.specs.Jumps.{is_one_of}
use Rattle.dj_reach.specs.Reach.{of_own}
use Rattle.dj_variables.specs.Sets.{Set}
use Rattle.dj_conditions.specs.Conditions.{When}
use Rattle.dj_assigned.specs.Assigned.{meet_own}
use Rattle.dj_typed.specs.Statements.{turns_of}
use Rattle.dj_held.specs.Replies.{Ends}
use Rattle.dj_held.specs.Reaching.{Reaches, nothing, Leaves, Decides}
use Rattle.dj_never_stuck.specs.Ways.{Flow, Completes}
use Rattle.dj_held.proofs.Invariant.{in_left, in_right, fewer, later, kept, from_here}
use Rattle.dj_held.proofs.Ending.{ends, then_ends as bind, either_ends as by_test}
use Rattle.dj_never_stuck.proofs.Runs.{weaken, leaves_later}
use Rattle.dj_never_stuck.proofs.Flows.{one_of_cases}

-- what is assigned as a turn ends: behind the body, and before each continue of the label right before the loop
abbrev pub turn_set : Option ℕ → Flow → Set
turn_set own f = meet_own own f.after (λ label. f.before (jumps.Continue label))

turn_normal : (own : Option ℕ) (f : Flow) (x : Var) → turn_set own f x ≡ true → f.after x ≡ true
turn_normal None f x e = e
turn_normal (Some label) f x e = in_left f.after (f.before (jumps.Continue label)) x e

turn_continued : (own : Option ℕ) (f : Flow) (l : ℕ) (x : Var) → is_own own l ≡ true → turn_set own f x ≡ true → f.before (jumps.Continue l) x ≡ true
turn_continued None f l x i e = absurd (false≢true i)
turn_continued (Some label) f l x i e = subst (λ k. f.before (jumps.Continue k) x ≡ true) (sym (eqb-true l label i)) (in_right f.after (f.before (jumps.Continue label)) x e)

turn_left : (own : Option ℕ) (f : Flow) (l : ℕ) → is_own own l ≡ true → f.leaves (jumps.Continue l) ≡ true → of_own own (λ label. f.leaves (jumps.Continue label)) ≡ true
turn_left None f l i e = absurd (false≢true i)
turn_left (Some label) f l i e = subst (λ k. f.leaves (jumps.Continue k) ≡ true) (eqb-true l label i) e

no_break : (own : Option ℕ) (l : ℕ) (targets : List Jump) → is_one_of (jumps.Break l) (targets ++ turns_of own) ≡ true → is_one_of (jumps.Break l) targets ≡ true
no_break own l targets e = elim (one_of_cases (jumps.Break l) targets (turns_of own) e) [
  | inl is ↦ is
  | inr is ↦ absurd (none own is)
]
  where
    none : (own : Option ℕ) → is_one_of (jumps.Break l) (turns_of own) ≡ true → ⊥
    none None e = false≢true e
    none (Some label) e = false≢true e

not_own : (own : Option ℕ) (l : ℕ) (targets : List Jump) → is_own own l ≡ false → is_one_of (jumps.Continue l) (targets ++ turns_of own) ≡ true → is_one_of (jumps.Continue l) targets ≡ true
not_own own l targets i e = elim (one_of_cases (jumps.Continue l) targets (turns_of own) e) [
  | inl is ↦ is
  | inr is ↦ absurd (none own i is)
]
  where
    same_false : (label : ℕ) (b : Bool) → (label == l) ≡ b → (l == label) ≡ false → (b || false) ≡ true → ⊥
    same_false label true is i e = false≢true (sym i ∙ eq-eqb l label (sym (eqb-true label l is)))
    same_false label false is i e = false≢true e

    none : (own : Option ℕ) → is_own own l ≡ false → is_one_of (jumps.Continue l) (turns_of own) ≡ true → ⊥
    none None i e = false≢true e
    none (Some label) i e = same_false label (label == l) refl i e

-- a turn ends, and what comes then ends well
module _ (headers : List Header) (result : Option JType) (targets : List Jump) (own : Option ℕ) (scope : Scope) (f h : Flow) (z s : State Store) (again : Meaning Completion)
    (goes_on : (t : State Store) → (f.completes || of_own own (λ label. f.leaves (jumps.Continue label))) ≡ true → Reaches headers scope (turn_set own f) s t → Ends Completion (Completes headers result targets scope h z) (Leaves headers scope z) (again t))
    (passes : (jump : Jump) → f.leaves jump ≡ true → h.leaves jump ≡ true) (keeps : (jump : Jump) (x : Var) → h.before jump x ≡ true → f.before jump x ≡ true) where
  next : {a : Set} → Reaches headers scope a z s → (d : Completion) (t : State Store) → Completes headers result (targets ++ turns_of own) scope f s d t
      → Ends Completion (Completes headers result targets scope h z) (Leaves headers scope z) (next_turn own again d t)
  next r Normal t m = goes_on t (or_left f.completes (of_own own (λ label. f.leaves (jumps.Continue label))) m.possible) (fewer (turn_set own f) m.reaches (turn_normal own f))
  next r (Break l) t m = ends (Break l) t (record { possible = passes (jumps.Break l) m.possible; lands = no_break own l targets m.lands; reaches = fewer (h.before (jumps.Break l)) (later r m.reaches) (keeps (jumps.Break l)) })
  next r (Continue l) t m =
      by_test again (pure (Continue l)) t (is_own own l)
      (λ i. goes_on t (or_right f.completes (of_own own (λ label. f.leaves (jumps.Continue label))) (turn_left own f l i m.possible)) (fewer (turn_set own f) m.reaches (λ x. turn_continued own f l x i)))
      (λ i. ends (Continue l) t (record { possible = passes (jumps.Continue l) m.possible; lands = not_own own l targets i m.lands; reaches = fewer (h.before (jumps.Continue l)) (later r m.reaches) (keeps (jumps.Continue l)) }))
  next r (Return value) t m = ends (Return value) t (record { possible = tt; lands = m.lands; reaches = later r m.reaches })
  next r Misfit t m = absurd m.possible

-- `while` and `for`
module _ (headers : List Header) (result : Option JType) (targets : List Jump) (own : Option ℕ) (scope : Scope) (a : Set) (constant : Option Bool) (sides : When) (f : Flow)
    (test : Meaning Bool) (step : Meaning (Unit {0})) (body : Meaning Completion) where
  pub record Loop : Type 0 where
    pub tests : (s : State Store) → Reaches headers scope a s s → Ends Bool (Decides headers constant scope sides s) (Leaves headers scope s) (test s)
    pub turn : (s : State Store) → Reaches headers scope sides.true s s → Ends Completion (Completes headers result (targets ++ turns_of own) scope f s) (Leaves headers scope s) (body s)
    pub steps : (s : State Store) → Reaches headers scope (turn_set own f) s s → Ends (Unit {0}) (λ u. Reaches headers scope nothing s) (Leaves headers scope s) (step s)

  abbrev pub loop_flow : Flow
  loop_flow = record { completes = not (is_always true constant); leaves = f.leaves; after = sides.false; before = f.before }

  pub loops : Loop → (bound : ℕ) (z s : State Store) → Reaches headers scope a z s → Ends Completion (Completes headers result targets scope loop_flow z) (Leaves headers scope z) (turns bound own test step body s)
  loops l zero z s r =
      bind (weaken (l.tests s (from_here r)) (λ b t m. m) (λ e t m. leaves_later e t r m)) (elim [
        | true ↦ λ t m. record { so = tt }
        | false ↦ λ t m. ends Normal t (record { possible = ap not m.agrees; lands = tt; reaches = later r m.reaches })
      ])
  loops l (suc bound) z s r =
      bind (weaken (l.tests s (from_here r)) (λ b t m. m) (λ e t m. leaves_later e t r m)) (elim [
        | true ↦ λ t m.
            let k = kept r m.reaches in
            bind (weaken (l.turn t (from_here m.reaches)) (λ d u h. h) (λ e u h. leaves_later e u k h))
            (next headers result targets own scope f loop_flow z t (step >>= λ done. turns bound own test step body) (λ u _ h.
            let w = kept k h in
            bind (weaken (l.steps u (from_here h)) (λ _ v i. kept w i) (λ e v i. leaves_later e v w i)) (λ _ v i. loops l bound z v i)) (λ j i. i) (λ j x i. i) k)
        | false ↦ λ t m. ends Normal t (record { possible = ap not m.agrees; lands = tt; reaches = later r m.reaches })
      ])

-- `do`
module _ (headers : List Header) (result : Option JType) (targets : List Jump) (own : Option ℕ) (scope : Scope) (a : Set) (constant : Option Bool) (sides : When) (f : Flow)
    (test : Meaning Bool) (body : Meaning Completion) where
  pub record DoLoop : Type 0 where
    pub tests : (s : State Store) → Reaches headers scope (turn_set own f) s s → Ends Bool (Decides headers constant scope sides s) (Leaves headers scope s) (test s)
    pub turn : (s : State Store) → Reaches headers scope a s s → Ends Completion (Completes headers result (targets ++ turns_of own) scope f s) (Leaves headers scope s) (body s)

  abbrev pub do_flow : Flow
  do_flow = record {
    completes = (f.completes || of_own own (λ label. f.leaves (jumps.Continue label))) && not (is_always true constant);
    leaves = f.leaves;
    after = sides.false;
    before = f.before;
  }

  pub do_loops : DoLoop → (bound : ℕ) (z s : State Store) → Reaches headers scope a z s → Ends Completion (Completes headers result targets scope do_flow z) (Leaves headers scope z) (do_turns bound own test body s)
  do_loops l zero z s r = record { so = tt }
  do_loops l (suc bound) z s r =
      bind (weaken (l.turn s (from_here r)) (λ d u h. h) (λ e u h. leaves_later e u r h))
      (next headers result targets own scope f do_flow z s (test >>= λ answer. either answer (do_turns bound own test body) (pure Normal)) (λ u p h.
      let w = later r h in
      bind (weaken (l.tests u (from_here h)) (λ b v m. m) (λ e v m. leaves_later e v w m)) (elim [
        | true ↦ λ v m. do_loops l bound z v (kept (kept r h) m.reaches)
        | false ↦ λ v m. ends Normal v (record { possible = and_from _ _ p (ap not m.agrees); lands = tt; reaches = later w m.reaches })
      ])) (λ j i. i) (λ j x i. i) r)
