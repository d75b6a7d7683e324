-- Sets of names, as they learn names.
use Rattle.std.proofs.Common.{◌≡◌, ◌⊎◌, ◌↔◌, ℕ, ◌+◌, ◌<◌, ◌≤◌, List, [], ◌∷◌, ◌++◌, Any, length, take, get_or, true, cond, IsTrue, sym, ap, subst, inl, inr, ◌∙◌, arith}
use Rattle.std.specs.List.{list_any}
use Rattle.std.specs.Ordering.{nat_cmp}
use Rattle.std.specs.Cmp.Lexicographic.{slice_cmp}
use Rattle.std.specs.BTreeMap.{is_at}
use Rattle.std.specs.BTreeSet as set
use Rattle.std.specs.BTreeSet.{BTreeSet, Updates}
use Rattle.std.proofs.lemmas.Bool.{cases_Bool}
use Rattle.std.proofs.lemmas.List.{take_more, take_all}
use Rattle.std.proofs.lemmas.List.Quantifiers.{Any-push}
use Rattle.std.proofs.lemmas.Map.Lookups.{exact_bytes}
use Rattle.std.proofs.lemmas.Map.Views.{tells_apart}
use Rattle.dj_names.specs.Headers.{Name}
use Rattle.dj_headers.proofs.PathLemmas.{Any-before, Any-push_cases}
use Rattle.dj_world.specs.Learning.{Has, Learns, LearnsSome}

pub learns_added : (old new : BTreeSet Name) (key name : Name) → key ≡ name → Updates (slice_cmp nat_cmp) old new key true → Learns old new (λ other. name ≡ other)
learns_added old new key name same updates = record {
  each = λ other. (
    λ has. elim (cases_Bool (is_at (slice_cmp nat_cmp key) other)) [
      | inl is ↦ inr (sym same ∙ tells_apart exact_bytes key other is)
      | inr isnt ↦ inl (sym (updates.2 other isnt) ∙ has)
    ],
    λ either. elim either [
      | inl had ↦ elim (cases_Bool (is_at (slice_cmp nat_cmp key) other)) [
        | inl is ↦ updates.0 other ∙ ap (λ b. cond b true (set.contains (slice_cmp nat_cmp) old other)) is
        | inr isnt ↦ updates.2 other isnt ∙ had
      ]
      | inr is ↦ subst (Has new) (same ∙ is) updates.1
    ],
  );
}

pub learns_none : (names : BTreeSet Name) (P : Name → Type 0) → ((name : Name) → ¬ P name) → Learns names names P
learns_none names P none = record { each = λ name. (λ has. inl has, λ either. elim either [ inl has ↦ has | inr holds ↦ absurd (none name holds) ]) }

pub learns_like : (old new : BTreeSet Name) (P Q : Name → Type 0) → ((name : Name) → P name ↔ Q name) → Learns old new P → Learns old new Q
learns_like old new P Q like learns = record {
  each = λ name. (
    λ has. elim ((learns.each name).0 has) [ inl had ↦ inl had | inr holds ↦ inr ((like name).0 holds) ],
    λ either. (learns.each name).1 (elim either [ inl had ↦ inl had | inr holds ↦ inr ((like name).1 holds) ]),
  );
}

pub learns_then : (old between new : BTreeSet Name) (P Q : Name → Type 0) → Learns old between P → Learns between new Q → Learns old new (λ name. P name ⊎ Q name)
learns_then old between new P Q first second = record {
  each = λ name. (
    λ has. elim ((second.each name).0 has) [
      | inl earlier ↦ elim ((first.each name).0 earlier) [ inl had ↦ inl had | inr p ↦ inr (inl p) ]
      | inr q ↦ inr (inr q)
    ],
    λ either. (second.each name).1 (elim either [
      | inl had ↦ inl ((first.each name).1 (inl had))
      | inr holds ↦ elim holds [ inl p ↦ inl ((first.each name).1 (inr p)) | inr q ↦ inr q ]
    ]),
  );
}

pub some_learned : (old new : BTreeSet Name) (P : Name → Type 0) → Learns old new P → LearnsSome old new P
some_learned old new P learns = record { kept = λ name had. (learns.each name).1 (inl had); only = λ name has. (learns.each name).0 has }

-- a set with the same keys learned nothing
pub some_same : (old new : BTreeSet Name) (P : Name → Type 0) → new.keys ≡ old.keys → LearnsSome old new P
some_same old new P same = record {
  kept = λ name had. subst (λ (ks : List Name). IsTrue (list_any (is_at (slice_cmp nat_cmp name)) ks)) (sym same) had;
  only = λ name has. inl (subst (λ (ks : List Name). IsTrue (list_any (is_at (slice_cmp nat_cmp name)) ks)) same has);
}

pub some_like : (old new : BTreeSet Name) (P Q : Name → Type 0) → ((name : Name) → P name → Q name) → LearnsSome old new P → LearnsSome old new Q
some_like old new P Q like some = record {
  kept = some.kept;
  only = λ name has. elim (some.only name has) [ inl had ↦ inl had | inr holds ↦ inr (like name holds) ];
}

pub some_then : (old between new : BTreeSet Name) (P : Name → Type 0) → LearnsSome old between P → LearnsSome between new P → LearnsSome old new P
some_then old between new P first second = record {
  kept = λ name had. second.kept name (first.kept name had);
  only = λ name has. elim (second.only name has) [ inl earlier ↦ first.only name earlier | inr holds ↦ inr holds ];
}

-- ---- a loop over a list

module _ {A : Type 0} (P : Name → A → Type 0) (xs : List A) where
  pub learned_none : (names : BTreeSet Name) → Learns names names (λ name. Any (P name) (take 0 xs))
  learned_none names = learns_none names (λ name. Any (P name) (take 0 xs)) (λ name some. (let within = some.2 in omega arith))

  pub one_more : (i : ℕ) (x : A) (name : Name) → i < length xs → x ≡ get_or xs i x → (Any (P name) (take i xs) ⊎ P name x) ↔ Any (P name) (take (i + 1) xs)
  one_more i x name within is =
      let longer : take (i + 1) xs ≡ take i xs ++ x ∷ [] = take_more xs i x within ∙ ap (λ (y : A). take i xs ++ y ∷ []) (sym is) in (
        λ either. subst (Any (P name)) (sym longer) (elim either [
          | inl before ↦ Any-before (P name) (take i xs) x before
          | inr here ↦ Any-push (P name) (take i xs) x here
        ]),
        λ some. Any-push_cases (P name) (take i xs) x (subst (Any (P name)) longer some),
      )

  pub learned_more : (i : ℕ) (x : A) (old between new : BTreeSet Name) → i < length xs → x ≡ get_or xs i x → Learns old between (λ name. Any (P name) (take i xs)) → Learns between new (λ name. P name x)
      → Learns old new (λ name. Any (P name) (take (i + 1) xs))
  learned_more i x old between new within is before here =
      learns_like old new (λ name. Any (P name) (take i xs) ⊎ P name x) (λ name. Any (P name) (take (i + 1) xs)) (λ name. one_more i x name within is)
      (learns_then old between new (λ name. Any (P name) (take i xs)) (λ name. P name x) before here)

  -- an item that tells nothing that those before it don't
  pub learned_same : (i : ℕ) (x : A) (old new : BTreeSet Name) → i < length xs → x ≡ get_or xs i x → ((name : Name) → P name x → Any (P name) (take i xs)) → Learns old new (λ name. Any (P name) (take i xs))
      → Learns old new (λ name. Any (P name) (take (i + 1) xs))
  learned_same i x old new within is same before =
      learns_like old new (λ name. Any (P name) (take i xs)) (λ name. Any (P name) (take (i + 1) xs))
      (λ name. let more = one_more i x name within is in (λ some. more.0 (inl some), λ some. elim (more.1 some) [ inl earlier ↦ earlier | inr here ↦ same name here ])) before

  pub learned_all : (i : ℕ) (old new : BTreeSet Name) → length xs ≤ i → Learns old new (λ name. Any (P name) (take i xs)) → Learns old new (λ name. Any (P name) xs)
  learned_all i old new end learns = subst (λ (ys : List A). Learns old new (λ name. Any (P name) ys)) (take_all i xs end) learns
