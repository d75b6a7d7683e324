-- How a part's way of completing is one of the whole's, and which jumps a label takes.
use Rattle.std.proofs.Common.{ℕ, ◌==◌, Bool, true, false, not, ◌&&◌, ◌||◌, List, [], ◌∷◌, ◌++◌, Option, Some, None, ◌≡◌, refl, sym, ap, ◌∙◌, subst, ◌⊎◌, inl, inr}
use Rattle.std.specs.Prelude.{if◌then◌else◌}
use Rattle.std.proofs.lemmas.Bool.{or_cases, or_left, or_right, false≢true, not-true, eqb-true, eq-eqb}
use Rattle.dj_names.specs.declared.header.Header.{Header}
use Rattle.dj_names.specs.Types.{JType}
use Rattle.dj_syntax.specs.declared.variable.Var.{Var}
use Rattle.dj_values.specs.Outcomes.{State, Outcome}
use Rattle.dj_meaning.specs.StaticTypes.{Scope}
use Rattle.dj_meaning.specs.Runs.{Store, pure, stuck}
use Rattle.dj_meaning.specs.Completions.{Completion, Normal, Break, Continue, Return, Misfit, taken}
use Rattle.dj_reach.specs.declared.jump.Jump.{Jump}
use Rattle.dj_reach.specs.declared.jump.Jump.TheVariants as jumps
use Rattle.dj_reach.specs.Jumps.{is_same_jump, is_one_of}
use Rattle.dj_variables.specs.Sets.{Set, everything}
use Rattle.dj_typed.specs.Statements.{turns_of}
use Rattle.dj_held.specs.Replies.{Ends}
use Rattle.dj_held.specs.Reaching.{Reaches, Leaves}
use Rattle.dj_never_stuck.specs.Ways.{Flow, Completes}
use Rattle.dj_held.proofs.Invariant.{in_left, in_right, fewer, later}
use Rattle.dj_held.proofs.Ending.{ends, either_ends as by_test}
use Rattle.dj_never_stuck.specs.Flows.{labelled_flow, AreTaken}

-- ---- from a part to the whole

-- all that the first allows the second does, and on each way the second has no more assigned
pub record Narrows (f h : Flow) : Type 0 where
  pub completes : f.completes ≡ true → h.completes ≡ true
  pub leaves : (jump : Jump) → f.leaves jump ≡ true → h.leaves jump ≡ true
  pub after : (x : Var) → h.after x ≡ true → f.after x ≡ true
  pub before : (jump : Jump) (x : Var) → h.before jump x ≡ true → f.before jump x ≡ true

pub narrow : {headers : List Header} {result : Option JType} {targets : List Jump} {scope : Scope} {f h : Flow} {z t : State Store} (d : Completion) → Narrows f h → Completes headers result targets scope f z d t → Completes headers result targets scope h z d t
narrow {h = h} Normal n m = record { possible = n.completes m.possible; lands = tt; reaches = fewer h.after m.reaches n.after }
narrow {h = h} (Break label) n m = record { possible = n.leaves (jumps.Break label) m.possible; lands = m.lands; reaches = fewer (h.before (jumps.Break label)) m.reaches (n.before (jumps.Break label)) }
narrow {h = h} (Continue label) n m = record { possible = n.leaves (jumps.Continue label) m.possible; lands = m.lands; reaches = fewer (h.before (jumps.Continue label)) m.reaches (n.before (jumps.Continue label)) }
narrow (Return value) n m = record { possible = tt; lands = m.lands; reaches = m.reaches }
narrow Misfit n m = absurd m.possible

-- from an earlier state
pub complete_later : {headers : List Header} {result : Option JType} {targets : List Jump} {scope : Scope} {f : Flow} {a : Set} {s t u : State Store} (d : Completion) → Reaches headers scope a s t → Completes headers result targets scope f t d u → Completes headers result targets scope f s d u
complete_later d r m = record { possible = m.possible; lands = m.lands; reaches = later r m.reaches }

-- ---- jumps

pub own_jump : (jump : Jump) → is_same_jump jump jump ≡ true
own_jump (jumps.Break l) = eq-eqb l l refl
own_jump (jumps.Continue l) = eq-eqb l l refl

pub if_so : (b : Bool) (set : Set) (x : Var) → b ≡ true → (if b then set else everything) x ≡ true → set x ≡ true
if_so true set x e h = h
if_so false set x e h = absurd (false≢true e)

pub one_of_cases : (jump : Jump) (first second : List Jump) → is_one_of jump (first ++ second) ≡ true → (is_one_of jump first ≡ true) ⊎ (is_one_of jump second ≡ true)
one_of_cases jump [] second e = inr e
one_of_cases jump (one ∷ first) second e = elim (or_cases (is_same_jump one jump) (is_one_of jump (first ++ second)) e) [
  | inl is ↦ inl (or_left (is_same_jump one jump) (is_one_of jump first) is)
  | inr rest ↦ elim (one_of_cases jump first second rest) [
    | inl is ↦ inl (or_right (is_same_jump one jump) (is_one_of jump first) is)
    | inr is ↦ inr is
  ]
]

pub one_of_front : (jump : Jump) (first second : List Jump) → is_one_of jump first ≡ true → is_one_of jump (first ++ second) ≡ true
one_of_front jump [] second e = absurd (false≢true e)
one_of_front jump (one ∷ first) second e = elim (or_cases (is_same_jump one jump) (is_one_of jump first) e) [
  | inl is ↦ or_left (is_same_jump one jump) (is_one_of jump (first ++ second)) is
  | inr rest ↦ or_right (is_same_jump one jump) (is_one_of jump (first ++ second)) (one_of_front jump first second rest)
]

pub one_of_back : (jump : Jump) (first second : List Jump) → is_one_of jump second ≡ true → is_one_of jump (first ++ second) ≡ true
one_of_back jump [] second e = e
one_of_back jump (one ∷ first) second e = or_right (is_same_jump one jump) (is_one_of jump (first ++ second)) (one_of_back jump first second e)

pub only_one : (jump one : Jump) → is_one_of jump (one ∷ []) ≡ true → is_same_jump one jump ≡ true
only_one jump one e = go (is_same_jump one jump) e
  where
    go : (b : Bool) → (b || false) ≡ true → b ≡ true
    go true e = refl
    go false e = absurd (false≢true e)

-- of jumps and one more, where it isn't that one
pub outside_one : (jump one : Jump) (targets : List Jump) → is_same_jump one jump ≡ false → is_one_of jump (targets ++ one ∷ []) ≡ true → is_one_of jump targets ≡ true
outside_one jump one targets e h = elim (one_of_cases jump targets (one ∷ []) h) [
  | inl is ↦ is
  | inr is ↦ absurd (false≢true (sym e ∙ only_one jump one is))
]

pub flipped : (m n : ℕ) → (m == n) ≡ false → (n == m) ≡ false
flipped m n e = go (n == m) refl
  where
    go : (b : Bool) → (n == m) ≡ b → b ≡ false
    go true is = absurd (false≢true (sym e ∙ eq-eqb m n (sym (eqb-true n m is))))
    go false is = refl

-- ---- which jumps are taken

pub taken_in_label : (label : ℕ) (targets : List Jump) (own : Option ℕ) → AreTaken targets own → AreTaken (targets ++ jumps.Break label ∷ []) (Some label)
taken_in_label label targets own t = record {
  breaks = λ other is. one_of_front (jumps.Break other) targets (jumps.Break label ∷ []) (t.breaks other (outside_one (jumps.Continue other) (jumps.Break label) targets refl is));
  its_own = λ other is. one_of_back (jumps.Break other) targets (jumps.Break label ∷ []) (or_left (label == other) false (eq-eqb label other (same is)));
}
  where
    same : {first second : ℕ} → Some first ≡ Some second → first ≡ second
    same e = cc

pub taken_in_loop : (targets : List Jump) (own : Option ℕ) → AreTaken targets own → AreTaken (targets ++ turns_of own) None
taken_in_loop targets own t = record {
  breaks = λ label is. one_of_front (jumps.Break label) targets (turns_of own) (elim (one_of_cases (jumps.Continue label) targets (turns_of own) is) [
    | inl outer ↦ t.breaks label outer
    | inr inner ↦ t.its_own label (loop_label own label inner)
  ]);
  its_own = λ label is. absurd cc;
}
  where
    loop_label : (own : Option ℕ) (label : ℕ) → is_one_of (jumps.Continue label) (turns_of own) ≡ true → own ≡ Some label
    loop_label None label e = absurd (false≢true e)
    loop_label (Some own) label e = ap Some (eqb-true own label (only_one (jumps.Continue label) (jumps.Continue own) e))

pub taken_elsewhere : (targets : List Jump) (own : Option ℕ) → AreTaken targets own → AreTaken targets None
taken_elsewhere targets own t = record { breaks = t.breaks; its_own = λ label is. absurd cc }

-- ---- a label takes the breaks to it

module _ (headers : List Header) (result : Option JType) (targets : List Jump) (own : Option ℕ) (label : ℕ) (scope : Scope) (f : Flow) (z : State Store)
    (around : AreTaken targets own) (new : not (is_one_of (jumps.Break label) targets) ≡ true) where
  abbrev Within : Completion → State Store → Type 0
  Within = Completes headers result (targets ++ jumps.Break label ∷ []) scope f z

  abbrev Takes : Outcome Store Completion → Type 0
  Takes = Ends Completion (Completes headers result targets scope (labelled_flow label f) z) (Leaves headers scope z)

  takes_break : (l : ℕ) (t : State Store) → Within (Break l) t → Takes ((if l == label then pure Normal else pure (Break l)) t)
  takes_break l t h = by_test (pure Normal) (pure (Break l)) t (l == label)
      (λ e.
      let i : l ≡ label = eqb-true l label e in
      ends Normal t (record {
        possible = or_right f.completes (f.leaves (jumps.Break label)) (subst (λ k. f.leaves (jumps.Break k) ≡ true) i h.possible);
        lands = tt;
        reaches = fewer (labelled_flow label f).after h.reaches (λ x p. subst (λ k. f.before (jumps.Break k) x ≡ true) (sym i) (in_right f.after (f.before (jumps.Break label)) x p));
      }))
      (λ e. ends (Break l) t (record {
        possible = subst (λ b. (not b && f.leaves (jumps.Break l)) ≡ true) (sym e) h.possible;
        lands = outside_one (jumps.Break l) (jumps.Break label) targets (flipped l label e) h.lands;
        reaches = fewer ((labelled_flow label f).before (jumps.Break l)) h.reaches (λ x p. subst (λ b. (if b then everything else f.before (jumps.Break l)) x ≡ true) e p);
      }))

  takes_continue : (l : ℕ) (t : State Store) → Within (Continue l) t → Takes ((if l == label then stuck else pure (Continue l)) t)
  takes_continue l t h =
      let outer : is_one_of (jumps.Continue l) targets ≡ true = outside_one (jumps.Continue l) (jumps.Break label) targets refl h.lands in
      by_test stuck (pure (Continue l)) t (l == label)
      (λ e. absurd (false≢true (sym (not-true (is_one_of (jumps.Break label) targets) new) ∙ subst (λ k. is_one_of (jumps.Break k) targets ≡ true) (eqb-true l label e) (around.breaks l outer))))
      (λ e. ends (Continue l) t (record {
        possible = subst (λ b. (not b && f.leaves (jumps.Continue l)) ≡ true) (sym e) h.possible;
        lands = outer;
        reaches = fewer ((labelled_flow label f).before (jumps.Continue l)) h.reaches (λ x p. subst (λ b. (if b then everything else f.before (jumps.Continue l)) x ≡ true) e p);
      }))

  pub takes_label : (d : Completion) (t : State Store) → Within d t → Takes (taken label d t)
  takes_label Normal t h = ends Normal t (record {
    possible = or_left f.completes (f.leaves (jumps.Break label)) h.possible;
    lands = tt;
    reaches = fewer (labelled_flow label f).after h.reaches (in_left f.after (f.before (jumps.Break label)));
  })
  takes_label (Break l) t h = takes_break l t h
  takes_label (Continue l) t h = takes_continue l t h
  takes_label (Return value) t h = ends (Return value) t (record { possible = tt; lands = h.lands; reaches = h.reaches })
  takes_label Misfit t h = absurd h.possible
