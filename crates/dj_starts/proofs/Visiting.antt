-- Pcs that are visited, one call behind another.
use Rattle.std.proofs.Common.{◌≡◌, ℕ, ◌<◌, ◌⊎◌, Bool, true, false, List, [], ◌∷◌, ◌++◌, length, get_or, set, refl, sym, subst, inl, inr, arith, length-append}
use Rattle.std.specs.List.{Contains}
use Rattle.std.proofs.lemmas.List.Elements.{Contains-append_left, Contains-push, Contains-push_cases}
use Rattle.dj_starts.specs.Marks.{IsMarked, Visits}
use Rattle.dj_starts.proofs.Marking.{marked_set, marked_only, unmarked_set, set_more, both_more, said_more}

-- a new pc is marked and waits
pub visit_new : (seen : List Bool) (pending : List ℕ) (pc : ℕ) → pc < length seen → get_or seen pc false ≡ false → length (set seen pc true) ≡ length seen → Visits seen (set seen pc true) pending (pending ++ pc ∷ []) (λ other. other ≡ pc)
visit_new seen pending pc within new room = record {
  marks = set_more seen pc room;
  fresh = λ other h. elim (marked_only seen pc other h) [ inl old ↦ inl old | inr same ↦ inr (subst (λ n. Contains (pending ++ pc ∷ []) n) (sym same) (Contains-push pending pc)) ];
  kept = λ other h. Contains-append_left pending (pc ∷ []) other h;
  only = λ other h. elim (Contains-push_cases pending pc other h) [ inl old ↦ inl old | inr same ↦ inr (subst (λ n. IsMarked (set seen pc true) n) same (marked_set seen pc within)) ];
  work = omega (arith, unmarked_set seen pc within new, length-append pending (pc ∷ []));
}

-- one that is marked, or that there is no room for, changes nothing
pub visit_old : (seen : List Bool) (pending : List ℕ) (P : ℕ → Type 0) → ((pc : ℕ) → pc < length seen → P pc → IsMarked seen pc) → Visits seen seen pending pending P
visit_old seen pending P old = record {
  marks = record { room = refl; kept = λ pc h. h; these = old; only = λ pc h. inl h };
  fresh = λ other h. inl h;
  kept = λ other h. h;
  only = λ other h. inl h;
  work = omega arith;
}

-- first these, then those
pub visit_both : (a b c : List Bool) (x y z : List ℕ) (P Q : ℕ → Type 0) → Visits a b x y P → Visits b c y z Q → Visits a c x z (λ pc. P pc ⊎ Q pc)
visit_both a b c x y z P Q one two = record {
  marks = both_more a b c P Q one.marks two.marks;
  fresh = λ pc h. elim (two.fresh pc h) [ inl old ↦ elim (one.fresh pc old) [ inl older ↦ inl older | inr waits ↦ inr (two.kept pc waits) ] | inr waits ↦ inr waits ];
  kept = λ pc h. two.kept pc (one.kept pc h);
  only = λ pc h. elim (two.only pc h) [ inl old ↦ elim (one.only pc old) [ inl older ↦ inl older | inr m ↦ inr (two.marks.kept pc m) ] | inr m ↦ inr m ];
  work = omega (arith, one.work, two.work);
}

-- the same pcs, otherwise said
pub visit_said : (a b : List Bool) (x y : List ℕ) (P Q : ℕ → Type 0) → ((pc : ℕ) → P pc → Q pc) → ((pc : ℕ) → Q pc → P pc) → Visits a b x y P → Visits a b x y Q
visit_said a b x y P Q there back v = record { marks = said_more a b P Q there back v.marks; fresh = v.fresh; kept = v.kept; only = v.only; work = v.work }
