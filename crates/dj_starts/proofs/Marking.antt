-- Marks of pcs, one call behind another.
use Rattle.std.proofs.Common.{◌≡◌, ℕ, zero, suc, ◌<◌, ◌≤◌, ◌⊎◌, ◌+◌, Bool, true, false, List, [], ◌∷◌, ◌++◌, take, length, get_or, set, refl, sym, subst, inl, inr, arith}
use Rattle.std.specs.List.{Contains}
use Rattle.std.proofs.lemmas.List.{take_more, take_all}
use Rattle.std.proofs.lemmas.List.Elements.{Contains-append_left, Contains-push, Contains-push_cases}
use Rattle.dj_starts.specs.Marks.{IsMarked, MarksMore, unmarked}

pub marked_set : (marks : List Bool) (pc : ℕ) → pc < length marks → IsMarked (set marks pc true) pc
marked_set [] pc within = absurd (omega arith)
marked_set (m ∷ marks) zero within = refl
marked_set (m ∷ marks) (suc pc) within = marked_set marks pc (omega arith)

pub marked_kept : (marks : List Bool) (at pc : ℕ) → IsMarked marks pc → IsMarked (set marks at true) pc
marked_kept [] at pc h = h
marked_kept (m ∷ marks) zero zero h = refl
marked_kept (m ∷ marks) zero (suc pc) h = h
marked_kept (m ∷ marks) (suc at) zero h = h
marked_kept (m ∷ marks) (suc at) (suc pc) h = marked_kept marks at pc h

pub marked_only : (marks : List Bool) (at pc : ℕ) → IsMarked (set marks at true) pc → IsMarked marks pc ⊎ (pc ≡ at)
marked_only [] at pc h = inl h
marked_only (m ∷ marks) zero zero h = inr refl
marked_only (m ∷ marks) zero (suc pc) h = inl h
marked_only (m ∷ marks) (suc at) zero h = inl h
marked_only (m ∷ marks) (suc at) (suc pc) h = elim (marked_only marks at pc h) [ inl old ↦ inl old | inr same ↦ inr (cc) ]

pub unmarked_set : (marks : List Bool) (pc : ℕ) → pc < length marks → get_or marks pc false ≡ false → unmarked (set marks pc true) + 1 ≡ unmarked marks
unmarked_set [] pc within new = absurd (omega arith)
unmarked_set (m ∷ marks) zero within new = rw new (omega arith)
unmarked_set (m ∷ marks) (suc pc) within new = let h = unmarked_set marks pc (omega arith) new in omega (arith, h)

-- past the end nothing is marked
pub marked_within : (marks : List Bool) (pc : ℕ) → IsMarked marks pc → pc < length marks
marked_within [] pc h = absurd (cc)
marked_within (m ∷ marks) zero h = omega arith
marked_within (m ∷ marks) (suc pc) h = omega (arith, marked_within marks pc h)

-- what `set` leaves
pub set_more : (marks : List Bool) (pc : ℕ) → length (set marks pc true) ≡ length marks → MarksMore marks (set marks pc true) (λ other. other ≡ pc)
set_more marks pc room = record {
  room = room;
  kept = λ other h. marked_kept marks pc other h;
  these = λ other within same. subst (λ n. IsMarked (set marks pc true) n) (sym same) (marked_set marks pc (rw (← same) within));
  only = λ other h. marked_only marks pc other h;
}

-- nothing is asked for
pub none_more : (marks : List Bool) (P : ℕ → Type 0) → ((pc : ℕ) → pc < length marks → P pc → ⊥) → MarksMore marks marks P
none_more marks P none = record { room = refl; kept = λ pc h. h; these = λ pc within asked. absurd (none pc within asked); only = λ pc h. inl h }

-- first these, then those
pub both_more : (a b c : List Bool) (P Q : ℕ → Type 0) → MarksMore a b P → MarksMore b c Q → MarksMore a c (λ pc. P pc ⊎ Q pc)
both_more a b c P Q one two = record {
  room = cc (one.room, two.room);
  kept = λ pc h. two.kept pc (one.kept pc h);
  these = λ pc within asked. elim asked [ inl p ↦ two.kept pc (one.these pc within p) | inr q ↦ two.these pc (omega (arith, one.room)) q ];
  only = λ pc h. elim (two.only pc h) [ inl old ↦ elim (one.only pc old) [ inl older ↦ inl older | inr p ↦ inr (inl p) ] | inr q ↦ inr (inr q) ];
}

-- the same pcs, otherwise said
pub said_more : (a b : List Bool) (P Q : ℕ → Type 0) → ((pc : ℕ) → P pc → Q pc) → ((pc : ℕ) → Q pc → P pc) → MarksMore a b P → MarksMore a b Q
said_more a b P Q there back more = record {
  room = more.room;
  kept = more.kept;
  these = λ pc within asked. more.these pc within (back pc asked);
  only = λ pc h. elim (more.only pc h) [ inl old ↦ inl old | inr p ↦ inr (there pc p) ];
}

-- ---- lists of pcs, item by item

pub contains_none : {A : Type 0} (x : A) → Contains [] x → ⊥
contains_none x h = absurd (omega (arith, h.1))

pub contains_first : {A : Type 0} (xs : List A) (x y : A) (i : ℕ) (d : A) → i < length xs → Contains (take (i + 1) xs) y → Contains (take i xs) y ⊎ (y ≡ get_or xs i d)
contains_first xs x y i d within h =
    elim (Contains-push_cases (take i xs) (get_or xs i d) y (rw (take_more xs i d within) at h)) [ inl old ↦ inl old | inr same ↦ inr (sym same) ]

pub contains_more : {A : Type 0} (xs : List A) (y : A) (i : ℕ) (d : A) → i < length xs → Contains (take i xs) y ⊎ (y ≡ get_or xs i d) → Contains (take (i + 1) xs) y
contains_more xs y i d within asked = rw (take_more xs i d within) elim asked [
  | inl old ↦ Contains-append_left (take i xs) (get_or xs i d ∷ []) y old
  | inr same ↦ subst (λ z. Contains (take i xs ++ get_or xs i d ∷ []) z) (sym same) (Contains-push (take i xs) (get_or xs i d))
]

pub contains_all : {A : Type 0} (xs : List A) (y : A) (i : ℕ) → length xs ≤ i → Contains (take i xs) y → Contains xs y
contains_all xs y i past h = rw (take_all i xs past) at h

pub contained_all : {A : Type 0} (xs : List A) (y : A) (i : ℕ) → length xs ≤ i → Contains xs y → Contains (take i xs) y
contained_all xs y i past h = rw (take_all i xs past) h
